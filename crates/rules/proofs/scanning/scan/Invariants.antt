use Rattle.rules.specs.Rules.{Partial}
use Rattle.rules.proofs.Machine.{At, Counts}
use Rattle.rules.proofs.scanning.scan.Given as goal

abbrev pub invariant-loop-at : goal.invariant-loop-at
invariant-loop-at l = ((p : Partial) × At l.words l.at-counter l.state p) × Counts l.at-counter l.state
