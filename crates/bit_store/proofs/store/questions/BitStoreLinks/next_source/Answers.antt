use Rattle.std.proofs.Common.{◌≡◌, ◌+◌, ◌*◌, true, false, rules, tests, arith}
use Rattle.std.proofs.lemmas.Iterator.{first_from_Range, serves_from_Range}
use Rattle.bit_store.specs.Places.{bit_on}
use Rattle.bit_store.proofs.Runs.{places_few}
use Rattle.bit_store.proofs.Columns.{column_outside, column_below, next_column}
use Rattle.bit_store.proofs.store.questions.BitStoreLinks.next_source.Goals as goal

pub returns-in_err-first : goal.returns-in_err-first
returns-in_err-first c =
    let s = c.args.self.now in
    rw c.from_residual.ensures (column_outside s.words.now s.sizes.things c.args.label c.args.target c.args.from c.max-start.result c.max-start.ensures c.in_err-first.ensures)

pub find-requires-clause-callable : goal.find-requires-clause-callable
find-requires-clause-callable c =
    let s = c.args.self.now in
    let placed = c.in_ok-first.ensures in
    let few = places_few s.sizes.things s.sizes.ranges.1 in
    serves_from_Range (λ n q k. search (rules, tests)) (λ n low high y e.
    let h = column_below s.words.now s.sizes.things c.args.label c.args.target c.args.from c.max-start.result c.max-start.ensures placed.0 c.in_ok-first.first placed.1 c.things-end.result c.things-end.ensures.is y.now (omega (arith, e, high)) in
    search (rules, h, few))

pub returns : goal.returns
returns c =
    let s = c.args.self.now in
    let ws = s.words.now in
    let placed = c.in_ok-first.ensures in
    let first = c.in_ok-first.first in
    let n = c.things-end.result in
    let h = first_from_Range _ _ _ c.find.result (λ k. bit_on ws (first + k * (16 * (64 + n))) ≡ true) (λ k. bit_on ws (first + k * (16 * (64 + n))) ≡ false) c.find.ensures.ran (λ k q r. search (rules, tests)) (λ k q r. search (rules, tests)) in
    next_column ws s.sizes.things c.args.label c.args.target c.args.from c.max-start.result c.max-start.ensures placed.0 first placed.1 n c.things-end.ensures.is c.find.result c.map.result _ h c.map.ensures.cases (λ k x q. search rules)
