use Rattle.std.proofs.Common.{ap, ◌∙◌, rules, tests}
use Rattle.std.proofs.lemmas.Iterator.{YieldsList-from_slice}
use Rattle.std.proofs.lemmas.Iterator.Search.{any_from_yields_List}
use Rattle.links.specs.Sets.{touched, touches}
use Rattle.list_store.proofs.Touching.{touched_is}
use Rattle.list_store.proofs.store.questions.ListStoreLinks.is_touched.Goals as goal

pub returns : goal.returns
returns c =
    let t = c.args.thing in
    let ls = c.as_slice.result.now in
    any_from_yields_List (touches t) _ _ _ c.any.ensures.ran (YieldsList-from_slice ls cc) (λ x b q k. search (rules, tests))
    ∙ touched_is t ls
    ∙ ap (touched t) c.as_slice.ensures
