use Rattle.ordered.proofs.Moves.{turned_out}
use Rattle.ordered.proofs.list.changes.remove_at.Goals as goal

pub returns : goal.returns
returns g c = turned_out c.args.records.now c.args.at c.args.len c.rotate_left.new.self c.requires.0 c.requires.1 c.rotate_left.ensures.after
