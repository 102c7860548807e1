use Rattle.std.proofs.Common.{ap, ◌∙◌, arith}
use Rattle.std.proofs.lemmas.List.{length-take-le}
use Rattle.ordered.specs.Items.{items}
use Rattle.ordered.specs.Order.{ascending}
use Rattle.ordered.proofs.Laws.{ascending_placed}
use Rattle.ordered.proofs.Moves.{inserted_is}
use Rattle.ordered.proofs.list.OrderedList.insert.Goals as goal

pub invariant_of-self : goal.invariant_of-self
invariant_of-self g c =
    let s = c.args.self.now in
    let b = g.R.Keyed.before in
    let k = c.in-Err.ensures in
    let n = length-take-le s.len s.records.now s.fits in
    record {
      fits = omega (arith, n, s.fits, c.insert_at.auto.records);
      rises = ap (ascending b) (inserted_is b c.args.x s.records.now c.insert_at.new.records c.in-Err.at s.len (omega (arith, n, k.bound)) k.sought.1 c.insert_at.ensures) ∙ ascending_placed b g.met.R.Keyed.order c.args.x (items s) s.rises k.sought.0;
    }

pub returns-clause-inserted : goal.returns-clause-inserted
returns-clause-inserted g c =
    let s = c.args.self.now in
    let k = c.in-Err.ensures in
    let n = length-take-le s.len s.records.now s.fits in
    (k.sought.0, omega (arith, n, s.fits), inserted_is g.R.Keyed.before c.args.x s.records.now c.insert_at.new.records c.in-Err.at s.len (omega (arith, n, k.bound)) k.sought.1 c.insert_at.ensures)
