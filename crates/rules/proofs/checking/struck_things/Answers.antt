use Rattle.std.proofs.Common.{arith}
use Rattle.rules.proofs.KindNumbers.{end_by}
use Rattle.rules.proofs.RuleMarks.{things_found}
use Rattle.rules.proofs.checking.struck_things.Goals as goal

pub returns : goal.returns
returns c =
    λ r h. things_found c.args.rule.place c.args.rule.words.now r h c.run_end-from.result c.run_end-end.result
    (end_by c.new.result 0 c.args.rule.words.now c.new.ensures.start c.new.ensures.end (c.run_end-from.ensures.end (omega arith))) (end_by c.new-2.result c.run_end-from.result c.args.rule.words.now c.new-2.ensures.start c.new-2.ensures.end (c.run_end-end.ensures.end (c.run_end-from.ensures.within (omega arith)).1))
