use Rattle.std.proofs.Common.{◌≡◌, length, take}
use Rattle.link_edits.specs.Edits.{without_all}
use Rattle.link_edits.proofs.edited.Edited.count_kept.Given as goal

abbrev pub invariant-loop-at : goal.invariant-loop-at
invariant-loop-at g l = l.count ≡ length (without_all (take l.at l.off) (g.L.Links.set l.self.base.now).links)
