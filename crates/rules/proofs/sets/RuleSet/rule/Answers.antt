use Rattle.std.proofs.Common.{length, take, refl, arith}
use Rattle.rules.specs.Rules.{encode}
use Rattle.rules.proofs.SetRuns.{rule_handed, no_rule_left}
use Rattle.rules.proofs.sets.RuleSet.rule.Goals as goal

pub returns-then-i-self : goal.returns-then-i-self
returns-then-i-self c = λ rs h. no_rule_left rs c.args.i (length (encode (take c.args.i rs))) (let z = h.count in let y = c.if-i-self.true in omega arith)

pub returns : goal.returns
returns c =
    λ rs h. rule_handed c.args.self.words.now rs h.formed c.args.i c.rule_start-place.result (c.rule_start-place.ensures.start rs h.formed h.written) c.rule_start-place.ensures.within c.rule_end-end.result _ (let z = h.count in let y = c.if-i-self.false in omega arith) h.inside (c.rule_end-end.ensures.end c.rule_start-place.ensures.within) refl refl
