use Rattle.std.proofs.Common.{◌≡◌, ◌+◌, ap, ◌∙◌, rules, tests}
use Rattle.std.specs.Range.{range_inclusive_start, range_inclusive_end}
use Rattle.std.specs.List.{prefix_len}
use Rattle.std.proofs.lemmas.Iterator.{YieldsList-from_slice}
use Rattle.std.proofs.lemmas.Iterator.Search.{YieldsList-from_take_while}
use Rattle.std.proofs.lemmas.Iterator.Consumers.{YieldsList-at, count_from_yields_List}
use Rattle.std.proofs.lemmas.List.Folds.{length-prefix_len}
use Rattle.std.proofs.lemmas.List.{take_rest}
use Rattle.words.specs.Words.{kind_number}
use Rattle.rules.specs.Runs.{within}
use Rattle.rules.proofs.runs.run_end.Goals as goal

pub returns-clause-end : goal.returns-clause-end
returns-clause-end c =
    let t = within (kind_number (range_inclusive_start c.args.kinds)) (kind_number (range_inclusive_end c.args.kinds)) in
    let ws = c.args.words.now in
    let more = c.in-Some.more.now in
    let n : c.count.result ≡ prefix_len t more = count_from_yields_List _ _ c.count.ensures.ran (YieldsList-from_take_while _ t (YieldsList-at c.take_while.ensures.source (YieldsList-from_slice more c.iter.ensures.rest)) c.take_while.ensures.closure c.take_while.ensures.done (λ x b q k. search (rules, tests)))
    ∙ length-prefix_len t more in
    λ l. ap (λ k. c.args.from + k) (n ∙ ap (prefix_len t) (c.in-Some.ensures.lookup.0.2 ∙ take_rest ws c.args.from))
