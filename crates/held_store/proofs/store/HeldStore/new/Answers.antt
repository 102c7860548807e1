use Rattle.std.proofs.Common.{[], sym, subst}
use Rattle.held_store.specs.Layers.{Fresh, layer}
use Rattle.held_store.proofs.Changes.{fresh_none}
use Rattle.held_store.proofs.store.HeldStore.new.Goals as goal

pub returns-clause-fresh : goal.returns-clause-fresh
returns-clause-fresh g c =
    let ls = (g.S.Links.set c.args.base).links in
    subst (λ v. Fresh (layer ls v c.new-2.result.items)) (sym c.new.ensures) (subst (λ v. Fresh (layer ls [] v)) (sym c.new-2.ensures) (fresh_none ls))
