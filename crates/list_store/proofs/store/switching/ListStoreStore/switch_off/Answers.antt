use Rattle.std.proofs.Common.{◌≡◌, true, rules, sym, ap, ◌∙◌, subst}
use Rattle.ordered.specs.Items.{items}
use Rattle.ordered.proofs.Members.{lookup_found, lookup_missed}
use Rattle.ordered.proofs.Laws.{without_none}
use Rattle.links.specs.Sets.{all_inside, link_before, with_links}
use Rattle.links.proofs.Inside.{all_removed}
use Rattle.links.proofs.Switching.{off_taken, off_missing}
use Rattle.list_store.specs.Laws.{list_set}
use Rattle.list_store.proofs.store.switching.ListStoreStore.switch_off.Goals as goal

pub invariant_of-self : goal.invariant_of-self
invariant_of-self c =
    let s = c.args.self.now in
    record {
      roomy = c.remove.ensures.capacity ∙ s.roomy;
      within = subst (λ v. all_inside s.sizes.things v ≡ true) (sym c.remove.ensures.removed) (all_removed s.sizes.things c.args.link (items s.list) s.within);
    }

pub returns-in_err-ok_or : goal.returns-in_err-ok_or
returns-in_err-ok_or c =
    let s = c.args.self.now in
    let missing = lookup_missed link_before c.args.link (items s.list) (sym c.in_err-ok_or.ensures.ok_part ∙ c.remove.ensures.answer) in
    let why = off_missing (list_set s) c.args.link (sym c.if-not-contain.ensures) missing in
    let kept = c.remove.ensures.removed ∙ without_none link_before c.args.link (items s.list) missing in
    search (rules, why, kept)

pub returns : goal.returns
returns c =
    let s = c.args.self.now in
    let there = lookup_found link_before c.args.link c.in_ok-ok_or.field-0 (items s.list) (sym c.in_ok-ok_or.ensures.ok_part ∙ c.remove.ensures.answer) in
    (off_taken (list_set s) c.args.link (sym c.if-not-contain.ensures) there, ap (λ v. with_links v (list_set s)) c.remove.ensures.removed)
