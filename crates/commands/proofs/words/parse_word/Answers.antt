use Rattle.std.proofs.Common.{rules, tests, ◌≡◌, ℕ, eqb, List, length, Some, sym, ap, ◌∙◌, arith}
use Rattle.std.proofs.lemmas.Bool.{cond-true}
use Rattle.std.proofs.lemmas.Iterator.{YieldsList-from_slice}
use Rattle.commands.specs.Words.{hex_word, read_from, with_hex_digit}
use Rattle.commands.proofs.Steps.{read_by_try_fold}
use Rattle.commands.proofs.words.parse_word.Goals as goal

of_eight : (bs : List ℕ) → length bs ≡ 8 → read_from with_hex_digit (Some 0) bs ≡ hex_word bs
of_eight bs e = sym (cond-true _ _ _ (ap (λ n. eqb n 8) e))

pub returns : goal.returns
returns c =
    read_by_try_fold _ _ _ with_hex_digit _ (λ a x o q k. search (rules, tests)) _ _ c.args.word.now 0 _ c.try_fold.ensures.ran (YieldsList-from_slice c.args.word.now cc)
    ∙ of_eight c.args.word.now (omega arith)
