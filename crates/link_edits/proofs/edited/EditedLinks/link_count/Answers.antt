use Rattle.std.proofs.Common.{◌≡◌, ◌+◌, length, get_or, take, ap, arith}
use Rattle.links.specs.Sets.{link_of}
use Rattle.link_edits.specs.Edits.{edited, without_all}
use Rattle.link_edits.specs.Kept.{inside_edited, rising_edited}
use Rattle.link_edits.proofs.Edits.{count_on, gains_is}
use Rattle.link_edits.proofs.Small.{small}
use Rattle.link_edits.proofs.edited.EditedLinks.link_count.Goals as goal

pub loop-at-preserved : goal.loop-at-preserved
loop-at-preserved g c =
    let b = c.args.self.now.base.now in
    let s = g.L.Links.set b in
    let e = c.args.self.now.edit in
    let i = c.loop-at.at in
    let l = get_or e.on.now i (link_of 0 0 0) in
    let gains = gains_is s (g.L.Links.set c.with.result.base.now) c.with.result.edit e.off.now (take i e.on.now) l c.gains.result (ap g.L.Links.set c.with.ensures.base) c.with.ensures.off c.with.ensures.on c.gains.ensures in
    count_on s.things e.on.now i (link_of 0 0 0) (without_all e.off.now s.links) c.loop-at.count c.from-count.result c.gains.result c.loop-at-test.true c.loop-at.invariant gains c.from-count.ensures

pub overflow_add-count : goal.overflow_add-count
overflow_add-count g c =
    let b = c.args.self.now.base.now in
    let s = g.L.Links.set b in
    let e = c.args.self.now.edit in
    let i = c.loop-at.at in
    let on = take (i + 1) e.on.now in
    let l = get_or e.on.now i (link_of 0 0 0) in
    let gains = gains_is s (g.L.Links.set c.with.result.base.now) c.with.result.edit e.off.now (take i e.on.now) l c.gains.result (ap g.L.Links.set c.with.ensures.base) c.with.ensures.off c.with.ensures.on c.gains.ensures in
    let more : c.loop-at.count + c.from-count.result ≡ length (edited s.things e.off.now on s.links) = count_on s.things e.on.now i (link_of 0 0 0) (without_all e.off.now s.links) c.loop-at.count c.from-count.result c.gains.result c.loop-at-test.true c.loop-at.invariant gains c.from-count.ensures in
    let few = small s.things (edited s.things e.off.now on s.links) (rising_edited s.things e.off.now on s.links (g.L.Links.lawful.rises b)) (inside_edited s.things e.off.now on s.links (g.L.Links.lawful.all_in b)) (g.L.Links.lawful.in_range b).1 in
    omega arith
