use Rattle.std.proofs.Common.{◌&&◌, take}
use Rattle.links.specs.Answers.{Least}
use Rattle.links.specs.Sets.{member, inside}
use Rattle.link_edits.specs.Adjacencies.{link_to}
use Rattle.link_edits.proofs.edited.Edited.next_added.Given as goal

abbrev pub invariant-loop-link : goal.invariant-loop-link
invariant-loop-link g l = Least (λ t. inside l.sizes.things (link_to l.way t) && member (link_to l.way t) (take l.link-index l.self.edit.on.now)) l.from l.best
