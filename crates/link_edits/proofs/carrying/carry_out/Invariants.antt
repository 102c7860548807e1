use Rattle.std.proofs.Common.{◌≡◌, ◌≤◌, length, take}
use Rattle.links.specs.Sets.{with_links}
use Rattle.link_edits.specs.Edits.{after, with_all, without_all}
use Rattle.link_edits.proofs.carrying.carry_out.Given as goal

abbrev pub invariant-loop-link : goal.invariant-loop-link
invariant-loop-link g l = g.S.Links.set l.store ≡ with_links (without_all (take l.link-index l.edit.off.now) (g.S.Links.set l.fn.store).links) (g.S.Links.set l.fn.store)

abbrev pub invariant-loop-link-2 : goal.invariant-loop-link-2
invariant-loop-link-2 g l =
    (length (after l.edit (g.S.Links.set l.fn.store)).links ≤ (g.S.Links.set l.fn.store).limit
    → g.S.Links.set l.store ≡ with_links (with_all (g.S.Links.set l.fn.store).things (take l.link-index l.edit.on.now) (without_all l.edit.off.now (g.S.Links.set l.fn.store).links)) (g.S.Links.set l.fn.store))
    × (g.S.Links.set l.store ≡ with_links (g.S.Links.set l.store).links (g.S.Links.set l.fn.store))
