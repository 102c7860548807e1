use Rattle.std.proofs.Common.{◌≡◌, true, length, sym, ap, ◌∙◌, subst, arith}
use Rattle.std.proofs.lemmas.Bool.{cond-true, cond-false}
use Rattle.links.specs.Sets.{inside, member, with_links}
use Rattle.links.proofs.Switching.{off_taken}
use Rattle.held_store.specs.Layers.{Fresh, layer, set_in, back_on, off_held}
use Rattle.held_store.specs.Meaning.{layer_of, set_of}
use Rattle.held_store.proofs.Layers.{set_off}
use Rattle.held_store.proofs.Changes.{fresh_off, removed_short}
use Rattle.held_store.proofs.store.switching.HeldStoreStore.switch_off.Goals as goal

pub invariant_of-self : goal.invariant_of-self
invariant_of-self g c = record { few = omega (arith, ap length c.take_back.ensures, removed_short c.args.link c.args.self.now.on.items, c.args.self.now.few) }

pub returns-then-below-clause-layer : goal.returns-then-below-clause-layer
returns-then-below-clause-layer g c =
    let s = c.args.self.now in
    let L = g.S.Links in
    let b = L.set s.base in
    let l = c.args.link in
    c.hold_off.ensures.layer
    ∙ ap (λ v. off_held b.things b.limit l (layer b.links s.off.items v)) c.take_back.ensures
    ∙ sym (cond-true (member l b.links) (off_held b.things b.limit l (back_on l (layer_of L s))) (back_on l (layer_of L s)) (sym c.if-below.ensures))

pub returns-then-below-clause-switched : goal.returns-then-below-clause-switched
returns-then-below-clause-switched g c =
    let s = c.args.self.now in
    let t = c.hold_off.new.self in
    let L = g.S.Links in
    let b = L.set s.base in
    let l = c.args.link in
    let within : inside b.things l ≡ true = subst (λ v. inside v l ≡ true) c.sizes.ensures.things (sym c.if-not-contain.ensures) in (
      off_taken (set_of L s) l within (sym c.if-not-is_on.ensures),
      ap (λ v. with_links (set_in v.things (layer_of L t)) v) c.hold_off.ensures.sizes
          ∙ ap (λ v. with_links (set_in b.things v) b) (returns-then-below-clause-layer g c)
          ∙ ap (λ v. with_links v b) (set_off b.things l b.limit (layer_of L s) (L.lawful.rises s.base)),
    )

pub returns-else-below-clause-layer : goal.returns-else-below-clause-layer
returns-else-below-clause-layer g c =
    let s = c.args.self.now in
    let L = g.S.Links in
    let b = L.set s.base in
    let l = c.args.link in
    ap (λ v. layer b.links s.off.items v) c.take_back.ensures
    ∙ sym (cond-false (member l b.links) (off_held b.things b.limit l (back_on l (layer_of L s))) (back_on l (layer_of L s)) (sym c.if-below.ensures))

pub returns-else-below-clause-switched : goal.returns-else-below-clause-switched
returns-else-below-clause-switched g c =
    let s = c.args.self.now in
    let L = g.S.Links in
    let b = L.set s.base in
    let l = c.args.link in
    let within : inside b.things l ≡ true = subst (λ v. inside v l ≡ true) c.sizes.ensures.things (sym c.if-not-contain.ensures) in (
      off_taken (set_of L s) l within (sym c.if-not-is_on.ensures),
      ap (λ v. with_links (set_in b.things v) b) (returns-else-below-clause-layer g c) ∙ ap (λ v. with_links v b) (set_off b.things l b.limit (layer_of L s) (L.lawful.rises s.base)),
    )

pub returns-then-below-clause-fresh : goal.returns-then-below-clause-fresh
returns-then-below-clause-fresh g c = λ f.
    let s = c.args.self.now in
    let L = g.S.Links in
    let b = L.set s.base in
    subst (λ v. Fresh v) (sym (returns-then-below-clause-layer g c)) (fresh_off b.things b.limit c.args.link (layer_of L s) f (sym c.if-not-is_on.ensures))

pub returns-else-below-clause-fresh : goal.returns-else-below-clause-fresh
returns-else-below-clause-fresh g c = λ f.
    let s = c.args.self.now in
    let L = g.S.Links in
    let b = L.set s.base in
    subst (λ v. Fresh v) (sym (returns-else-below-clause-layer g c)) (fresh_off b.things b.limit c.args.link (layer_of L s) f (sym c.if-not-is_on.ensures))
