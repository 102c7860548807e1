use Rattle.std.proofs.Common.{◌-◌, length, take, drop, refl, arith}
use Rattle.rules.proofs.KindNumbers.{end_by}
use Rattle.rules.proofs.RuleMarks.{made_found}
use Rattle.rules.proofs.checking.check_makes.Goals as goal

pub returns : goal.returns
returns c =
    λ r h. made_found c.args.rule.place c.args.rule.words.now r h c.struck_things.result.now (take (length c.args.rule.words.now - c.run_end-from.result) (drop c.run_end-from.result c.args.rule.words.now)) c.run_end-from.result c.saturating_add.result c.check_made.result
    (c.struck_things.ensures r h) (end_by c.new.result 0 c.args.rule.words.now c.new.ensures.start c.new.ensures.end (c.run_end-from.ensures.end (omega arith))) (c.run_end-from.ensures.within (omega arith)).1 refl c.saturating_add.ensures c.check_made.ensures
