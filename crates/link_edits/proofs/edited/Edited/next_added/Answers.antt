use Rattle.std.proofs.Common.{◌+◌, ◌&&◌, take, sym, subst}
use Rattle.links.specs.Answers.{Least}
use Rattle.links.specs.Sets.{inside, member}
use Rattle.link_edits.specs.Adjacencies.{link_to}
use Rattle.links.specs.Sets.{link_of}
use Rattle.link_edits.proofs.Loops.{added_more}
use Rattle.link_edits.proofs.edited.Edited.next_added.Goals as goal

pub loop-link-preserved : goal.loop-link-preserved
loop-link-preserved g c =
    let w = c.args.way in
    let on = c.args.self.now.edit.on.now in
    let n = c.sizes-sizes.result.things in
    subst (λ v. Least (λ t. inside n (link_to w t) && member (link_to w t) (take (c.loop-link.link-index + 1) on)) c.args.from v)
    (sym c.smaller_of-best.ensures)
    (added_more n on c.loop-link.link-index (link_of 0 0 0) w.direction w.node w.label c.args.from c.loop-link.best c.next_of_one.result c.loop-link-test.true c.loop-link.invariant c.next_of_one.ensures)
