use Rattle.std.proofs.Common.{◌∙◌, rules, tests}
use Rattle.std.proofs.lemmas.Iterator.{YieldsList-from_slice}
use Rattle.std.proofs.lemmas.Iterator.Search.{any_from_yields_List}
use Rattle.links.specs.contracts.link.LinkPartialEq.TheImpl.{ghosts as equality}
use Rattle.links.proofs.Equality.{contains_member}
use Rattle.link_edits.proofs.edit.contains.Goals as goal

pub returns : goal.returns
returns c =
    let l = c.args.link in
    any_from_yields_List (λ y. equality.eq y l) _ _ _ c.any.ensures.ran (YieldsList-from_slice c.args.links.now cc) (λ x b q k. search (rules, tests))
    ∙ contains_member l c.args.links.now
