use Rattle.std.proofs.Common.{refl, ap, sym, arith}
use Rattle.links.specs.Sets.{with_links}
use Rattle.bit_store.specs.Laws.{bits_set}
use Rattle.bit_store.proofs.Kept.{rising_links, inside_links}
use Rattle.bit_store.proofs.Turning.{digit_on, off_refused_not, off_taken_there, off_some, off_links, off_count, still_long}
use Rattle.bit_store.proofs.store.switching.BitStoreStore.switch_off.Goals as goal

pub returns-then-not-is_bit_on : goal.returns-then-not-is_bit_on
returns-then-not-is_bit_on c =
    let placed = rw c.in_ok-place.ensures.ok_part at c.place_of.ensures in
    (off_refused_not c.args.self.now _ _ placed.0 placed.1 (sym c.if-not-is_bit_on.ensures), refl)

pub without_bit-requires-clause-set : goal.without_bit-requires-clause-set
without_bit-requires-clause-set c = digit_on c.args.self.now.words.now c.in_ok-place.place (sym c.if-not-is_bit_on.ensures)

pub overflow_sub-self : goal.overflow_sub-self
overflow_sub-self c =
    let placed = rw c.in_ok-place.ensures.ok_part at c.place_of.ensures in
    let some = off_some c.args.self.now _ _ placed.0 placed.1 (sym c.if-not-is_bit_on.ensures) in
    omega arith

pub invariant_of-self : goal.invariant_of-self
invariant_of-self c =
    let s = c.args.self.now in
    let placed = rw c.in_ok-place.ensures.ok_part at c.place_of.ensures in
    record { long = still_long s _ _; counted = off_count s _ _ placed.0 placed.1 (sym c.if-not-is_bit_on.ensures) _ c.without_bit.ensures.others c.without_bit.ensures.here; few = omega (arith, s.few); rises = rising_links _ _; within = inside_links _ _ }

pub returns : goal.returns
returns c =
    let s = c.args.self.now in
    let placed = rw c.in_ok-place.ensures.ok_part at c.place_of.ensures in
    (off_taken_there s _ _ placed.0 placed.1 (sym c.if-not-is_bit_on.ensures), ap (λ v. with_links v (bits_set s)) (off_links s _ _ placed.0 placed.1 (sym c.if-not-is_bit_on.ensures) _ c.without_bit.ensures.others c.without_bit.ensures.here))
