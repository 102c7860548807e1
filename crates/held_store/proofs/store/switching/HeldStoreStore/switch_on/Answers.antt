use Rattle.std.proofs.Common.{◌≡◌, ◌<◌, true, length, sym, ap, ◌∙◌, subst, arith}
use Rattle.std.proofs.lemmas.Bool.{cond-true, cond-false}
use Rattle.links.specs.Sets.{inside, member, with_links}
use Rattle.links.proofs.Switching.{on_taken}
use Rattle.held_store.specs.Layers.{Fresh, layer, set_in, back_off, on_held}
use Rattle.held_store.specs.Meaning.{layer_of, set_of}
use Rattle.held_store.proofs.Layers.{set_on}
use Rattle.held_store.proofs.Changes.{fresh_on, removed_short}
use Rattle.held_store.proofs.store.switching.HeldStoreStore.switch_on.Goals as goal

pub invariant_of-self : goal.invariant_of-self
invariant_of-self g c = record { few = omega (arith, ap length c.take_back.ensures, removed_short c.args.link c.args.self.now.off.items, c.args.self.now.few) }

pub returns-then-is_on-2-clause-layer : goal.returns-then-is_on-2-clause-layer
returns-then-is_on-2-clause-layer g c =
    let s = c.args.self.now in
    let L = g.S.Links in
    let b = L.set s.base in
    let l = c.args.link in
    ap (λ v. layer b.links v s.on.items) c.take_back.ensures ∙ sym (cond-true (member l b.links) (back_off l (layer_of L s)) (on_held b.things l (layer_of L s)) (sym c.if-is_on-2.ensures))

pub returns-then-is_on-2-clause-switched : goal.returns-then-is_on-2-clause-switched
returns-then-is_on-2-clause-switched g c =
    let s = c.args.self.now in
    let L = g.S.Links in
    let b = L.set s.base in
    let l = c.args.link in
    let within : inside b.things l ≡ true = subst (λ v. inside v l ≡ true) c.sizes-sizes.ensures.things (sym c.if-not-contain.ensures) in
    let off = sym c.if-is_on.ensures in
    let room : length (set_of L s).links < b.limit = omega (arith, c.link_count.ensures, c.limit.ensures.is, c.sizes-sizes.ensures.limit) in (
      on_taken (set_of L s) l within off room,
      ap (λ v. with_links (set_in b.things v) b) (returns-then-is_on-2-clause-layer g c) ∙ ap (λ v. with_links v b) (set_on b.things l 0 (layer_of L s) (L.lawful.rises s.base) within off),
    )

pub returns-else-is_on-2-clause-switched : goal.returns-else-is_on-2-clause-switched
returns-else-is_on-2-clause-switched g c =
    let s = c.args.self.now in
    let t = c.hold_on.new.self in
    let L = g.S.Links in
    let b = L.set s.base in
    let l = c.args.link in
    let within : inside b.things l ≡ true = subst (λ v. inside v l ≡ true) c.sizes-sizes.ensures.things (sym c.if-not-contain.ensures) in
    let off = sym c.if-is_on.ensures in
    let room : length (set_of L s).links < b.limit = omega (arith, c.link_count.ensures, c.limit.ensures.is, c.sizes-sizes.ensures.limit) in
    let now-is = c.hold_on.ensures.layer ∙ sym (cond-false (member l b.links) (back_off l (layer_of L s)) (on_held b.things l (layer_of L s)) (sym c.if-is_on-2.ensures)) in (
      on_taken (set_of L s) l within off room,
      ap (λ v. with_links (set_in v.things (layer_of L t)) v) c.hold_on.ensures.sizes
          ∙ ap (λ v. with_links (set_in b.things v) b) now-is
          ∙ ap (λ v. with_links v b) (set_on b.things l 0 (layer_of L s) (L.lawful.rises s.base) within off),
    )

pub returns-then-is_on-2-clause-fresh : goal.returns-then-is_on-2-clause-fresh
returns-then-is_on-2-clause-fresh g c = λ f.
    let s = c.args.self.now in
    let L = g.S.Links in
    let b = L.set s.base in
    subst (λ v. Fresh v) (sym (returns-then-is_on-2-clause-layer g c)) (fresh_on b.things 0 c.args.link (layer_of L s) f (sym c.if-is_on.ensures))

pub returns-else-is_on-2-clause-fresh : goal.returns-else-is_on-2-clause-fresh
returns-else-is_on-2-clause-fresh g c = λ f.
    let s = c.args.self.now in
    let L = g.S.Links in
    let b = L.set s.base in
    let l = c.args.link in
    let now-is = c.hold_on.ensures.layer ∙ sym (cond-false (member l b.links) (back_off l (layer_of L s)) (on_held b.things l (layer_of L s)) (sym c.if-is_on-2.ensures)) in
    subst (λ v. Fresh v) (sym now-is) (fresh_on b.things 0 l (layer_of L s) f (sym c.if-is_on.ensures))
