use Rattle.ordered.proofs.Moves.{turned_in}
use Rattle.ordered.proofs.list.changes.insert_at.Goals as goal

pub returns : goal.returns
returns g c = turned_in c.args.records.now c.args.at c.args.len c.args.x c.rotate_right.new.self c.requires.0 c.requires.1 c.rotate_right.ensures.after
