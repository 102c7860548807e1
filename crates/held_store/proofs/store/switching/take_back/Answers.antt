use Rattle.std.proofs.Common.{not, rules, ◌∙◌}
use Rattle.arrayvec.proofs.ArrayVecLemmas.{filter-from_retain}
use Rattle.links.specs.contracts.link.LinkPartialEq.TheImpl.{ghosts as equality}
use Rattle.held_store.proofs.Removing.{others_kept}
use Rattle.held_store.proofs.store.switching.take_back.Goals as goal

pub returns : goal.returns
returns c =
    filter-from_retain _ (λ x. not (equality.eq x c.args.link)) _ (λ x b f' y k. search rules) c.args.held.now.items _ c.retain.ensures.filtered
    ∙ others_kept c.args.link c.args.held.now.items
