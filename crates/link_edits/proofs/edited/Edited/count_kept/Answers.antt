use Rattle.std.proofs.Common.{[], get_or, take, ap, ◌∙◌}
use Rattle.links.specs.Sets.{link_of, member}
use Rattle.link_edits.proofs.Edits.{count_off, edit_is}
use Rattle.link_edits.proofs.edited.Edited.count_kept.Goals as goal

pub loop-at-preserved : goal.loop-at-preserved
loop-at-preserved g c =
    let b = c.args.self.now.base.now in
    let off = c.args.self.now.edit.off.now in
    let i = c.loop-at.at in
    let l = get_or off i (link_of 0 0 0) in
    let on = c.is_on.ensures ∙ ap (member l) (edit_is (g.L.Links.set b) (g.L.Links.set c.with.result.base.now) c.with.result.edit (take i off) [] (ap g.L.Links.set c.with.ensures.base) c.with.ensures.off c.with.ensures.on) in
    (count_off off i (link_of 0 0 0) (g.L.Links.set b).links c.loop-at.count c.from-count.result c.is_on.result (g.L.Links.lawful.rises b) c.loop-at-test.true c.loop-at.invariant on c.from-count.ensures).1
