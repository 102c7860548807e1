use Rattle.std.proofs.Common.{rules, tests, ◌∙◌, arith}
use Rattle.std.proofs.lemmas.Grind.{common_steps}
use Rattle.std.proofs.lemmas.Iterator.{YieldsList-from_slice}
use Rattle.std.proofs.lemmas.Iterator.Search.{all_from_yields_List}
use Rattle.commands.specs.Words.{blank}
use Rattle.commands.proofs.Runs.{whole_run}
use Rattle.commands.proofs.words.is_passed.Goals as goal

pub returns-else-matches : goal.returns-else-matches
returns-else-matches c =
    let bs = c.args.line.now in
    let all = all_from_yields_List blank _ _ _ c.all.ensures.ran (YieldsList-from_slice bs cc) (λ x b q k. search (rules, tests)) ∙ whole_run blank bs in
    grind (arith, common_steps, all)
