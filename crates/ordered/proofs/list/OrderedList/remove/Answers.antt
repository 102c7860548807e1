use Rattle.std.proofs.Common.{length, sym, ap, ◌∙◌, arith}
use Rattle.std.proofs.lemmas.List.{length-take-le}
use Rattle.ordered.specs.Items.{items}
use Rattle.ordered.specs.Order.{ascending}
use Rattle.ordered.proofs.Laws.{ascending_without, without_none, found_record, lookup_none}
use Rattle.ordered.proofs.Moves.{removed_is}
use Rattle.ordered.proofs.Searching.{sought_ok, sought_err}
use Rattle.ordered.proofs.list.OrderedList.remove.Goals as goal

pub returns-in_err-at-clause-answer : goal.returns-in_err-at-clause-answer
returns-in_err-at-clause-answer g c =
    let b = g.R.Keyed.before in
    let xs = items c.args.self.now in
    let missed = sought_err b c.args.x.now xs c.binary_search.result c.ok.result c.ok.ensures.value c.in_err-at.was c.binary_search.ensures.sought in
    c.from_residual.ensures ∙ sym (lookup_none b g.met.R.Keyed.order c.args.x.now xs missed)

pub returns-in_err-at-clause-removed : goal.returns-in_err-at-clause-removed
returns-in_err-at-clause-removed g c =
    let b = g.R.Keyed.before in
    let xs = items c.args.self.now in
    let missed = sought_err b c.args.x.now xs c.binary_search.result c.ok.result c.ok.ensures.value c.in_err-at.was c.binary_search.ensures.sought in
    sym (without_none b c.args.x.now xs missed)

pub invariant_of-self : goal.invariant_of-self
invariant_of-self g c =
    let s = c.args.self.now in
    let b = g.R.Keyed.before in
    let x = c.args.x.now in
    let found = sought_ok b x (items s) (length (items s)) c.binary_search.result c.ok.result _ c.ok.ensures.value c.in_ok-at.was c.binary_search.ensures.bound c.binary_search.ensures.sought in
    let n = length-take-le s.len s.records.now s.fits in
    record {
      fits = omega (arith, n, s.fits, c.remove_at.auto.records);
      rises = ap (ascending b) (removed_is b g.met.R.Keyed.order x s.records.now c.remove_at.new.records c.in_ok-at.at s.len (omega (arith, n, found.0)) found.2 s.rises found.1 c.remove_at.ensures) ∙ ascending_without b x (items s) s.rises;
    }

pub returns-clause-answer : goal.returns-clause-answer
returns-clause-answer g c =
    let b = g.R.Keyed.before in
    let xs = items c.args.self.now in
    let found = sought_ok b c.args.x.now xs (length xs) c.binary_search.result c.ok.result _ c.ok.ensures.value c.in_ok-at.was c.binary_search.ensures.bound c.binary_search.ensures.sought in
    found_record b g.met.R.Keyed.order c.args.x.now xs c.in_ok-at.at c.get-found.result c.args.self.now.rises found.1 found.2 found.0 c.get-found.ensures

pub returns-clause-removed : goal.returns-clause-removed
returns-clause-removed g c =
    let s = c.args.self.now in
    let x = c.args.x.now in
    let b = g.R.Keyed.before in
    let found = sought_ok b x (items s) (length (items s)) c.binary_search.result c.ok.result _ c.ok.ensures.value c.in_ok-at.was c.binary_search.ensures.bound c.binary_search.ensures.sought in
    let n = length-take-le s.len s.records.now s.fits in
    removed_is b g.met.R.Keyed.order x s.records.now c.remove_at.new.records c.in_ok-at.at s.len (omega (arith, n, found.0)) found.2 s.rises found.1 c.remove_at.ensures
