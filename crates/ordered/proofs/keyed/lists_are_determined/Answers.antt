use Rattle.ordered.proofs.Laws.{same_lookups, same_members}
use Rattle.ordered.proofs.keyed.lists_are_determined.Goals as goal

pub returns : goal.returns
returns g c = record {
  lookups = same_lookups g.R.Keyed.before g.met.R.Keyed.order;
  members = same_members g.R.Keyed.before g.met.R.Keyed.order;
}
