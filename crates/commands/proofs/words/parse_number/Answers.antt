use Rattle.std.proofs.Common.{rules, tests, ◌∙◌, arith, false-eqb}
use Rattle.std.proofs.lemmas.Iterator.{YieldsList-from_slice}
use Rattle.commands.specs.Words.{with_digit}
use Rattle.commands.proofs.Digits.{full}
use Rattle.commands.proofs.Steps.{read_by_try_fold}
use Rattle.commands.proofs.words.parse_number.Goals as goal

pub returns : goal.returns
returns c =
    read_by_try_fold _ _ _ with_digit _ (λ a x o q k. search (rules, tests)) _ _ c.args.word.now 0 _ c.try_fold.ensures.ran (YieldsList-from_slice c.args.word.now cc)
    ∙ full c.args.word.now (omega (arith, false-eqb _ 0 c.if-is_empty.ensures))
