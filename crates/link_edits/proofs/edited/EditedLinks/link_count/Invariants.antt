use Rattle.std.proofs.Common.{◌≡◌, length, take}
use Rattle.link_edits.specs.Edits.{edited}
use Rattle.link_edits.proofs.edited.EditedLinks.link_count.Given as goal

abbrev pub invariant-loop-at : goal.invariant-loop-at
invariant-loop-at g l = l.count ≡ length (edited (g.L.Links.set l.self.base.now).things l.self.edit.off.now (take l.at l.self.edit.on.now) (g.L.Links.set l.self.base.now).links)
