use Rattle.links.proofs.Order.{same_members}
use Rattle.links.proofs.link.sets_are_determined.Goals as goal

pub returns : goal.returns
returns c = same_members
