use Rattle.std.proofs.Common.{◌≡◌, List}
use Rattle.rules.specs.Rules.{Rule}
use Rattle.rules.specs.Sets.{SetHere}
use Rattle.rules.proofs.SetRuns.{FaultsFrom}
use Rattle.rules.proofs.reading.check.Given as goal

abbrev pub invariant-loop-i : goal.invariant-loop-i
invariant-loop-i l =
    (l.i-iterator.iter.iter.end ≡ l.fn.set.rules) × (l.i-iterator.iter.f.0.now ≡ l.fn.set) × (l.i-iterator.count ≡ l.i-iterator.iter.iter.start) × ((rs : List Rule) → SetHere l.fn.set rs → FaultsFrom rs l.i-iterator.iter.iter.start)
