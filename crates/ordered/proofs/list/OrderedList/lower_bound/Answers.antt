use Rattle.std.proofs.Common.{ap, ◌∙◌, rules}
use Rattle.std.proofs.lemmas.List.Sorted.{IsPartitionPoint-from_clause}
use Rattle.ordered.specs.Order.{ascending, rank}
use Rattle.ordered.proofs.Searching.{parted, point_rank}
use Rattle.ordered.proofs.list.OrderedList.lower_bound.Goals as goal

pub returns-clause-ranked : goal.returns-clause-ranked
returns-clause-ranked g c =
    let b = g.R.Keyed.before in
    let x = c.args.x.now in
    let xs = c.as_slice.result.now in
    let rises = ap (ascending b) c.as_slice.ensures ∙ c.args.self.now.rises in
    let point = IsPartitionPoint-from_clause (λ y. b y x) xs c.partition_point.result c.partition_point.ensures.partitioned (parted b x xs g.met.R.Keyed.order rises) (λ a r q k. search rules) in
    point_rank b x xs c.partition_point.result c.partition_point.ensures.bound point ∙ ap (rank b x) c.as_slice.ensures
