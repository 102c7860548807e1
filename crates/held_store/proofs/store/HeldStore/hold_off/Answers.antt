use Rattle.std.proofs.Common.{length, sym, ap, ◌∙◌, arith}
use Rattle.std.proofs.lemmas.List.{length_push}
use Rattle.link_edits.proofs.Steps.{off_step}
use Rattle.held_store.specs.Layers.{held_in, layer}
use Rattle.held_store.specs.Meaning.{layer_of}
use Rattle.held_store.proofs.Layers.{off_past}
use Rattle.held_store.proofs.store.HeldStore.hold_off.Goals as goal

pub invariant_of-self : goal.invariant_of-self
invariant_of-self g c = record { few = omega (arith, c.held_count.ensures, ap length c.push.ensures.items, length_push c.args.self.now.off.items c.args.link) }

pub returns-then-link_count-limit-clause-layer : goal.returns-then-link_count-limit-clause-layer
returns-then-link_count-limit-clause-layer g c =
    let s = c.args.self.now in
    let L = g.S.Links in
    let b = L.set s.base in
    let l = c.args.link in
    let off = off_step b (L.set c.switch_off.new.self) l c.switch_off.result (L.lawful.all_in s.base) c.switch_off.ensures in
    ap (λ v. layer v.links s.off.items s.on.items) off
    ∙ sym (off_past b.things b.limit l (layer_of L s) (omega (arith, c.held_count.ensures)) (omega (arith, c.link_count.ensures, c.limit.ensures.is, c.sizes.ensures.limit)))

pub invariant_of-self-2 : goal.invariant_of-self-2
invariant_of-self-2 g c =
    record { few = omega (arith, ap held_in c.send_down.ensures.none, ap length c.push-2.ensures.items, length_push c.send_down.new.self.off.items c.args.link) }
