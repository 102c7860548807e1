use Rattle.std.proofs.Common.{sym, subst}
use Rattle.held_store.specs.Layers.{Fresh}
use Rattle.held_store.proofs.Changes.{fresh_none}
use Rattle.held_store.proofs.store.HeldStore.settle.Goals as goal

pub returns-clause-fresh : goal.returns-clause-fresh
returns-clause-fresh g c = subst (λ v. Fresh v) (sym c.send_down.ensures.none) (fresh_none (g.S.Links.set c.send_down.new.self.base).links)
