use Rattle.std.proofs.Common.{Some, sym, ◌∙◌, subst, rules, arith}
use Rattle.rules.proofs.Counted.{some_turn}
use Rattle.rules.proofs.Mapped.{mapped_ok}
use Rattle.rules.proofs.SetRuns.{RuleHanded, FaultsFrom, faults_miss}
use Rattle.rules.proofs.reading.check.Goals as goal

pub loop-i-preserved : goal.loop-i-preserved
loop-i-preserved c =
    let e = c.in-Some.ensures.steps in
    let k = some_turn _ _ _ _ _ c.in-Some.rule e.0 in
    let i = c.loop-i.i-iterator.iter.iter.start in
    let called = k.2 in
    let b : RuleHanded c.args.set i (Some c.in-Some.rule) = subst (λ s. RuleHanded s i (Some c.in-Some.rule)) c.loop-i.invariant.1 (λ rs h. search rules) in
    let n = c.loop-i.invariant.2 in
    let m = e.2 in
    (k.0 ∙ c.loop-i.invariant.0, search rules, omega (arith, m, k.1, n), λ rs h. subst (FaultsFrom rs) (sym k.1) (faults_miss rs i (c.loop-i.invariant.3 rs h) c.in-Some.rule c.check_rule.result c.check_rule.ensures (b rs h) (mapped_ok _ _ c.check_rule.result tt c.in_ok-map_err.ensures.cases c.in_ok-map_err.ensures.variant)))
