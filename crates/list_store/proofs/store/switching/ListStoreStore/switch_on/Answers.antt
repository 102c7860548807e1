use Rattle.std.proofs.Common.{sym, ◌∙◌}
use Rattle.ordered.specs.Items.{items, capacity}
use Rattle.list_store.proofs.Inserting.{still_within}
use Rattle.list_store.proofs.store.switching.ListStoreStore.switch_on.Goals as goal

pub invariant_of-self : goal.invariant_of-self
invariant_of-self c =
    let s = c.args.self.now in
    record {
      roomy = c.insert.ensures.capacity ∙ s.roomy;
      within = still_within s.sizes.things (capacity s.list) c.args.link (items s.list) (items c.insert.new.self) c.insert.result (sym c.if-not-contain.ensures) s.within c.insert.ensures.inserted;
    }
