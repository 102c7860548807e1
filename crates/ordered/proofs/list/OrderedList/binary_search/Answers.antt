use Rattle.std.proofs.Common.{◌≡◌, ◌<◌, ◌≤◌, length, get_or, sym, ap, ◌∙◌, subst, arith}
use Rattle.std.proofs.lemmas.Bool.{ltb-true, ltb-false}
use Rattle.std.specs.Option.{is_some}
use Rattle.ordered.specs.Items.{items}
use Rattle.ordered.proofs.Laws.{has_past, found_at}
use Rattle.ordered.proofs.list.OrderedList.binary_search.Goals as goal

pub returns-in-Some-clause-sought : goal.returns-in-Some-clause-sought
returns-in-Some-clause-sought g c =
    let s = c.args.self.now in
    let q = c.lower_bound-at.ensures.ranked in
    let e = c.in-Some.record.now in
    let at = c.lower_bound-at.result in
    let inside = subst (λ v. at < length v) c.as_slice.ensures (ltb-true _ _ (sym c.in-Some.ensures.lookup.0)) in
    let is = subst (λ v. e ≡ get_or v at e) c.as_slice.ensures c.in-Some.ensures.lookup.1 in
    (found_at g.R.Keyed.before g.met.R.Keyed.order c.args.x.now e (items s) at _ s.rises q inside is c.if-not-comes_before.ensures, q)

pub returns-in_default-clause-sought : goal.returns-in_default-clause-sought
returns-in_default-clause-sought g c =
    let s = c.args.self.now in
    let q = c.lower_bound-at.ensures.ranked in
    let e = c.in-Some.record.now in
    let at = c.lower_bound-at.result in
    let inside = subst (λ v. at < length v) c.as_slice.ensures (ltb-true _ _ (sym c.in-Some.ensures.lookup.0)) in
    let is = subst (λ v. e ≡ get_or v at e) c.as_slice.ensures c.in-Some.ensures.lookup.1 in
    (found_at g.R.Keyed.before g.met.R.Keyed.order c.args.x.now e (items s) at _ s.rises q inside is c.if-not-comes_before.ensures, q)

pub returns-in_default-2-clause-sought : goal.returns-in_default-2-clause-sought
returns-in_default-2-clause-sought g c =
    let q = c.lower_bound-at.ensures.ranked in
    let past = subst (λ v. length v ≤ c.lower_bound-at.result) c.as_slice.ensures (ltb-false _ _ (sym c.get.ensures.lookup.0 ∙ ap is_some c.in_default.is)) in
    (has_past g.R.Keyed.before c.args.x.now (items c.args.self.now) (sym q ∙ omega (arith, past, c.lower_bound-at.ensures.bound)), q)
