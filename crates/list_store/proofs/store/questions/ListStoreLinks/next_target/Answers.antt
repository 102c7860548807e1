use Rattle.std.proofs.Common.{◌≡◌, ◌&&◌, eqb, arith}
use Rattle.std.proofs.lemmas.Bool.Decides.{nat_tests}
use Rattle.ordered.specs.Items.{items}
use Rattle.list_store.proofs.Next.{next_end, next_record}
use Rattle.list_store.proofs.store.questions.ListStoreLinks.next_target.Goals as goal
use Rattle.list_store.proofs.store.questions.ListStoreLinks.next_target.Goals.{then-next-source, else-next-source}

pub returns-in_err-next : goal.returns-in_err-next
returns-in_err-next c =
    let s = c.args.self.now in
    let past = rw c.in_err-next.was at c.get.ensures in
    rw c.from_residual.ensures (next_end (items s.list) s.list.rises c.args.source c.args.label c.args.from c.lower_bound.result c.lower_bound.ensures.ranked (omega (arith, past, c.lower_bound.ensures.bound)))

pub returns : goal.returns
returns c =
    let s = c.args.self.now in
    let next = c.in_ok-next.next in
    let found = c.in_ok-next.ensures in
    let same : (eqb next.source c.args.source && eqb next.label c.args.label) ≡ c.if-next-source.then_some =
    elim c.if-next-source.branch [
      | then-next-source w ↦ grind (arith, nat_tests, w.if-next-source.true, w.then_some-is)
      | else-next-source w ↦ grind (arith, nat_tests, w.if-next-source.false, w.then_some-is)
    ] in
    next_record (items s.list) s.list.rises c.args.source c.args.label c.args.from c.lower_bound.result c.lower_bound.ensures.ranked next found.0 found.1 c.if-next-source.then_some c.then_some.result same c.then_some.ensures
