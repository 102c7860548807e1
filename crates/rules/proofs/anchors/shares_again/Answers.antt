use Rattle.std.proofs.Common.{map, take, sym, ap, ◌∙◌, rules, tests}
use Rattle.std.proofs.lemmas.Iterator.{YieldsList-from_slice, YieldsList-from_take, YieldsList-from_map}
use Rattle.std.proofs.lemmas.Iterator.Consumers.{YieldsList-at}
use Rattle.std.proofs.lemmas.Iterator.Search.{any_from_yields_List}
use Rattle.words.specs.Words.{share_of}
use Rattle.rules.specs.Anchors.{shares_with, shares_again}
use Rattle.rules.proofs.anchors.shares_again.Goals as goal

pub returns-in-With : goal.returns-in-With
returns-in-With c =
    let ws = c.args.shares.now in
    let before = YieldsList-from_take c.args.i (YieldsList-at c.take.ensures.source (YieldsList-from_slice ws c.iter.ensures.rest)) c.take.ensures.count in
    any_from_yields_List (shares_with c.in-With.variable) _ _ _ c.any.ensures.ran (YieldsList-from_map _ share_of (YieldsList-at c.map.ensures.source before) c.map.ensures.closure (λ x r q k. search rules)) (λ x b q k. search (rules, tests))
    ∙ ap (shares_again (map share_of (take c.args.i ws))) (sym c.in-With.is ∙ c.from.ensures)
