use Rattle.std.proofs.Common.{sym, ap}
use Rattle.std.proofs.lemmas.Result.{err_from_is_err_and}
use Rattle.rules.specs.Marks.{passed}
use Rattle.rules.proofs.RuleMarks.{rule_unanchored, rule_found, rule_last}
use Rattle.rules.proofs.checking.check_rule.Goals as goal

pub returns-then-not-is_anchored : goal.returns-then-not-is_anchored
returns-then-not-is_anchored c = λ r h. ap passed (rule_unanchored c.args.rule.place c.args.rule.words.now r h c.variables.result c.needs.result.words.now (c.variables.ensures r h) (c.needs.ensures r h).0.1 (sym c.if-not-is_anchored.ensures))

pub returns-in_err-check_bans : goal.returns-in_err-check_bans
returns-in_err-check_bans c = λ r h.
    let p = err_from_is_err_and c.from_residual.result c.from_residual.ensures.1 in
    rw (p.1, p.2) (rule_found c.args.rule.place c.args.rule.words.now r h c.variables.result c.needs.result.words.now (c.variables.ensures r h) (c.needs.ensures r h).0.1 c.in_err-check_bans.field-0.0 (sym c.if-not-is_anchored.ensures) (c.in_err-check_bans.ensures r h))

pub returns : goal.returns
returns c = λ r h. rule_last c.args.rule.place c.args.rule.words.now r h c.variables.result c.needs.result.words.now (c.variables.ensures r h) (c.needs.ensures r h).0.1 c.check_makes.result (sym c.if-not-is_anchored.ensures) (c.in_ok-check_bans.ensures r h) (c.check_makes.ensures r h)
