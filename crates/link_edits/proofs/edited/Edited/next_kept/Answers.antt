use Rattle.std.proofs.Common.{arith}
use Rattle.link_edits.proofs.Edits.{other_small}
use Rattle.link_edits.proofs.edited.Edited.next_kept.Goals as goal

pub overflow_add-at : goal.overflow_add-at
overflow_add-at g c =
    let b = c.args.self.now.base.now in
    let w = c.args.way in
    let small = other_small (g.L.Links.set b).things (g.L.Links.set b).links w.direction w.node w.label c.in-Some.other (g.L.Links.lawful.all_in b) c.in-Some.ensures.1 in
    let ranges = g.L.Links.lawful.in_range b in
    omega (arith, ranges.1)
