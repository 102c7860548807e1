use Rattle.std.proofs.Common.{sym, subst}
use Rattle.links.specs.Answers.{Least}
use Rattle.links.specs.Sets.{member}
use Rattle.link_edits.specs.Adjacencies.{link_to}
use Rattle.link_edits.specs.Edits.{after}
use Rattle.link_edits.proofs.Edits.{member_edited}
use Rattle.link_edits.proofs.Leasts.{least_or, least_same}
use Rattle.link_edits.proofs.edited.Edited.next.Goals as goal

pub returns : goal.returns
returns g c =
    let v = c.args.self.now in
    let b = g.L.Links.set v.base.now in
    let e = v.edit in
    let x = link_to c.args.way in
    subst (λ o. Least (λ t. member (x t) (after e b).links) c.args.from o) (sym c.smaller_of.ensures)
    (least_same _ _ c.args.from _ (λ t. sym (member_edited b.things e.off.now e.on.now b.links (x t)))
    (least_or _ _ c.args.from c.next_added.result c.next_kept.result c.next_added.ensures c.next_kept.ensures))
