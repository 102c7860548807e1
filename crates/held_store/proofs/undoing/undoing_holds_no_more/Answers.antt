use Rattle.held_store.proofs.Undone.{on_undone, off_undone}
use Rattle.held_store.proofs.undoing.undoing_holds_no_more.Goals as goal

pub returns : goal.returns
returns c = record { on = on_undone; off = off_undone }
