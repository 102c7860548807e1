use Rattle.std.proofs.Common.{refl, ap, sym, arith}
use Rattle.links.specs.Sets.{with_links}
use Rattle.bit_store.specs.Laws.{bits_set}
use Rattle.bit_store.proofs.Kept.{rising_links, inside_links}
use Rattle.bit_store.proofs.Turning.{on_refused_there, on_refused_full, on_taken_not, on_links, on_count, still_long}
use Rattle.bit_store.proofs.store.switching.BitStoreStore.switch_on.Goals as goal

pub returns-then-is_bit_on : goal.returns-then-is_bit_on
returns-then-is_bit_on c =
    let placed = rw c.in_ok-place.ensures.ok_part at c.place_of.ensures in
    (on_refused_there c.args.self.now _ _ placed.0 placed.1 (sym c.if-is_bit_on.ensures), refl)

pub returns-then-self-limit : goal.returns-then-self-limit
returns-then-self-limit c =
    let placed = rw c.in_ok-place.ensures.ok_part at c.place_of.ensures in
    (on_refused_full c.args.self.now _ _ placed.0 placed.1 (sym c.if-is_bit_on.ensures) (omega arith), refl)

pub invariant_of-self : goal.invariant_of-self
invariant_of-self c =
    let s = c.args.self.now in
    let placed = rw c.in_ok-place.ensures.ok_part at c.place_of.ensures in
    record { long = still_long s _ _; counted = on_count s _ _ placed.0 placed.1 (sym c.if-is_bit_on.ensures) _ c.with_bit.ensures.others c.with_bit.ensures.here; few = omega (arith, s.few); rises = rising_links _ _; within = inside_links _ _ }

pub returns : goal.returns
returns c =
    let s = c.args.self.now in
    let placed = rw c.in_ok-place.ensures.ok_part at c.place_of.ensures in
    (on_taken_not s _ _ placed.0 placed.1 (sym c.if-is_bit_on.ensures) (λ e. c.if-self-limit.false (omega arith)), ap (λ v. with_links v (bits_set s)) (on_links s _ _ placed.0 placed.1 (sym c.if-is_bit_on.ensures) _ c.with_bit.ensures.others c.with_bit.ensures.here))
