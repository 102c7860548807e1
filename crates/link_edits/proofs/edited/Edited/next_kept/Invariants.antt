use Rattle.std.proofs.Common.{◌≡◌, ℕ, ◌-◌, ◌^◌, ◌<◌, ◌≤◌, false, not, ◌&&◌}
use Rattle.links.specs.Sets.{member}
use Rattle.link_edits.specs.Adjacencies.{link_to}
use Rattle.link_edits.proofs.edited.Edited.next_kept.Given as goal

abbrev pub invariant-loop-other : goal.invariant-loop-other
invariant-loop-other g l = (l.from ≤ l.at) × ((t : ℕ) → l.from ≤ t → t < l.at → (not (member (link_to l.way t) l.self.edit.off.now) && member (link_to l.way t) (g.L.Links.set l.self.base.now).links) ≡ false)

abbrev pub decreases-loop-other : goal.decreases-loop-other
decreases-loop-other g l = 2 ^ 32 - l.at
