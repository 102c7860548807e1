use Rattle.std.proofs.Common.{◌+◌, ◌-◌, rules, ap, arith}
use Rattle.bit_store.proofs.Placing.{target_below, run_below}
use Rattle.bit_store.proofs.Runs.{places_few, next_outside, next_run}
use Rattle.bit_store.proofs.store.questions.BitStoreLinks.next_target.Goals as goal

pub returns-in_err-first : goal.returns-in_err-first
returns-in_err-first c =
    let s = c.args.self.now in
    rw c.from_residual.ensures (next_outside s.words.now s.sizes.things c.args.source c.args.label c.args.from c.in_err-first.ensures)

pub overflow_sub-row : goal.overflow_sub-row
overflow_sub-row c = omega (arith, c.in_ok-first.ensures.1, target_below c.args.self.now.sizes.things c.args.source c.args.label c.args.from)

pub next_bit-requires : goal.next_bit-requires
next_bit-requires c =
    let s = c.args.self.now in
    let placed = c.in_ok-first.ensures in
    let r = run_below s.sizes.things c.args.source c.args.label c.args.from placed.0 in
    let f = places_few s.sizes.things s.sizes.ranges.1 in
    let t = target_below s.sizes.things c.args.source c.args.label c.args.from in
    let i = c.things.ensures.is in
    let p = placed.1 in
    record { start = omega (arith, s.long, placed.2); within = omega (arith, s.long); few = (omega (arith, placed.2), omega arith) }

pub returns : goal.returns
returns c =
    let s = c.args.self.now in
    let placed = c.in_ok-first.ensures in
    next_run s.words.now s.sizes.things c.args.source c.args.label c.args.from c.in_ok-first.first placed.1 placed.0 _ c.next_bit.result c.map.result _ (ap (λ v. c.in_ok-first.first - c.args.from + 64 + v) c.things.ensures.is) c.next_bit.ensures c.map.ensures.cases (λ n x k. search rules)
