use Rattle.std.proofs.Common.{length, ap, arith}
use Rattle.std.proofs.lemmas.List.{length_push}
use Rattle.held_store.specs.Layers.{held_in}
use Rattle.held_store.proofs.store.HeldStore.hold_on.Goals as goal

pub invariant_of-self : goal.invariant_of-self
invariant_of-self g c = record { few = omega (arith, c.held_count.ensures, ap length c.push.ensures.items, length_push c.args.self.now.on.items c.args.link) }

pub invariant_of-self-2 : goal.invariant_of-self-2
invariant_of-self-2 g c =
    record { few = omega (arith, ap held_in c.send_down.ensures.none, ap length c.push-2.ensures.items, length_push c.send_down.new.self.on.items c.args.link) }
