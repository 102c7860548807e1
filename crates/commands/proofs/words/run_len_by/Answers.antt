use Rattle.std.proofs.Common.{rules, tests, not}
use Rattle.std.proofs.lemmas.Iterator.{YieldsList-from_slice}
use Rattle.std.proofs.lemmas.Iterator.Search.{position_from_yields_List}
use Rattle.commands.proofs.Runs.{run_by_position}
use Rattle.commands.proofs.words.run_len_by.Goals as goal

pub returns-clause-is : goal.returns-clause-is
returns-clause-is g c = λ test h.
    run_by_position test _ _ _ c.unwrap_or.ensures
    (position_from_yields_List (λ b. not (test b)) _ _ _ c.position.ensures.ran (YieldsList-from_slice c.args.text.now cc) (λ x b q k. search (rules, tests, h)))
