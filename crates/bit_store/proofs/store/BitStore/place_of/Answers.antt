use Rattle.std.proofs.Common.{ℕ, ◌+◌, ◌-◌, ◌*◌, ◌<◌, sym, ap, subst}
use Rattle.bit_store.specs.Places.{place, places}
use Rattle.bit_store.proofs.Placing.{place_below}
use Rattle.bit_store.proofs.store.BitStore.place_of.Goals as goal

pub returns : goal.returns
unfolding place
returns c =
    let t = c.args.self.now.sizes.things in
    let l = c.args.link in
    let h = sym c.if-not-contain.ensures in
    let p = ap (λ (v : ℕ). ((l.source - 64) * 16 + l.label) * (64 + v) + l.target) c.things-nodes.ensures.is in
    (h, p, subst (λ (v : ℕ). v < places t) (sym p) (place_below t l h))
