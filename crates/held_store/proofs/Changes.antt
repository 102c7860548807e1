-- Held changes stay few, and each differs from what lies below.
use Rattle.std.proofs.Common.{◌≡◌, ℕ, ◌≤◌, Bool, true, false, cond, not, ◌&&◌, ◌||◌, ltb, leb, List, [], ◌∷◌, length, sym, refl, ap, ◌∙◌, ⊎_elim, arith}
use Rattle.std.proofs.lemmas.Bool.{cond_both, both_ways, and_parts, and_right, cases_Bool, or_cases, ltb-true}
use Rattle.std.proofs.lemmas.List.{length_push}
use Rattle.ordered.specs.Order.{same}
use Rattle.ordered.proofs.Members.{has_without}
use Rattle.links.specs.declared.link.Link.{Link}
use Rattle.links.specs.Sets.{link_before, member, removed, inside}
use Rattle.links.specs.Order.{link_order}
use Rattle.links.proofs.Order.{same_is}
use Rattle.link_edits.proofs.Edits.{member_edited}
use Rattle.link_edits.proofs.Loops.{member_push}
use Rattle.held_store.specs.Layers.{Layer, Fresh, set_in, held_in, nothing_held, sent_down, held_on, held_off, back_off, back_on, below_off, on_held, off_held, turned_on, turned_off}

pub removed_short : (l : Link) (xs : List Link) → length (removed l xs) ≤ length xs
removed_short l [] = omega arith
removed_short l (x ∷ xs) =
    let h = removed_short l xs in
    cond_both (same link_before l x) (removed l xs) (x ∷ removed l xs) (λ v. length v ≤ length (x ∷ xs)) (λ _. omega arith) (λ _. omega arith)

-- no more than sixteen
module _ (n limit : ℕ) (l : Link) (s : Layer) (h : held_in s ≤ 16) where
  pub few_on : held_in (turned_on n l s) ≤ 16
  few_on =
      cond_both (member l s.below) (back_off l s) (on_held n l s) (λ v. held_in v ≤ 16)
      (λ _. omega (arith, removed_short l s.off))
      (λ _. cond_both (ltb (held_in s) 16) (held_on l s) (held_on l (sent_down n s)) (λ v. held_in v ≤ 16)
      (λ e. omega (arith, ltb-true (held_in s) 16 e, length_push s.on l))
      (λ _. omega arith))

  pub few_off : held_in (turned_off n limit l s) ≤ 16
  few_off =
      let left = back_on l s in
      let k = removed_short l s.on in
      cond_both (member l s.below) (off_held n limit l left) left (λ v. held_in v ≤ 16)
      (λ _. cond_both (ltb (held_in left) 16) (held_off l left) (cond (leb (length (set_in n left)) limit) (held_off l (sent_down n left)) (below_off l left)) (λ v. held_in v ≤ 16)
      (λ e. omega (arith, ltb-true (held_in left) 16 e, length_push s.off l))
      (λ _. cond_both (leb (length (set_in n left)) limit) (held_off l (sent_down n left)) (below_off l left) (λ v. held_in v ≤ 16) (λ _. omega arith) (λ _. omega arith)))
      (λ _. omega arith)

pub fresh_none : (ls : List Link) → Fresh (nothing_held ls)
fresh_none ls = record { ons = λ x h. absurd (both_ways false refl h); offs = λ x h. absurd (both_ways false refl h) }

module _ (l : Link) (s : Layer) (f : Fresh s) where
  pub fresh_held_on : member l s.below ≡ false → Fresh (held_on l s)
  fresh_held_on m = record {
    ons = λ x h. ⊎_elim (λ a. f.ons x a) (λ e. ap (λ v. member v s.below) (same_is x l e) ∙ m) (or_cases (member x s.on) (same link_before x l) (sym (member_push x l s.on) ∙ h));
    offs = f.offs;
  }

  pub fresh_held_off : member l s.below ≡ true → Fresh (held_off l s)
  fresh_held_off m = record {
    ons = f.ons;
    offs = λ x h. ⊎_elim (λ a. f.offs x a) (λ e. ap (λ v. member v s.below) (same_is x l e) ∙ m) (or_cases (member x s.off) (same link_before x l) (sym (member_push x l s.off) ∙ h));
  }

  pub fresh_back_off : Fresh (back_off l s)
  fresh_back_off = record { ons = f.ons; offs = λ x h. f.offs x (and_parts (not (same link_before x l)) (member x s.off) (sym (has_without link_before link_order x l s.off) ∙ h)).1 }

  pub fresh_back_on : Fresh (back_on l s)
  fresh_back_on = record { ons = λ x h. f.ons x (and_parts (not (same link_before x l)) (member x s.on) (sym (has_without link_before link_order x l s.on) ∙ h)).1; offs = f.offs }

  pub fresh_below_off : member l s.off ≡ false → Fresh (below_off l s)
  fresh_below_off m = record {
    ons = λ x h. has_without link_before link_order x l s.below ∙ and_right (not (same link_before x l)) (member x s.below) (f.ons x h);
    offs = λ x h. has_without link_before link_order x l s.below ∙ ap (λ v. not v && member x s.below) (⊎_elim (λ e. absurd (both_ways (member x s.off) (ap (λ v. member v s.off) (same_is x l e) ∙ m) h)) (λ e. e) (cases_Bool (same link_before x l))) ∙ f.offs x h;
  }

  -- what is on, and on below too, is not held off
  pub not_held_off : (n : ℕ) → member l (set_in n s) ≡ true → member l s.below ≡ true → member l s.off ≡ false
  not_held_off n m b = cases (inside n l) (member l s.on) (member l s.off) (member l s.below) (λ h. both_ways (member l s.below) (f.ons l h) b) (sym (member_edited n s.off s.on s.below l) ∙ m)
    where
      cases : (i a o c : Bool) → (a ≡ true → ⊥) → ((i && a) || (not o && c)) ≡ true → o ≡ false
      cases i true o c h e = absurd (h refl)
      cases i false false c h e = refl
      cases true false true c h e = absurd (both_ways false refl e)
      cases false false true c h e = absurd (both_ways false refl e)

-- what is on below and not held off is on
pub still_on : (n : ℕ) (l : Link) (s : Layer) → member l s.off ≡ false → member l s.below ≡ true → member l (set_in n s) ≡ true
still_on n l s o b = member_edited n s.off s.on s.below l ∙ ap (λ v. (inside n l && member l s.on) || (not v && member l s.below)) o ∙ ap (λ v. (inside n l && member l s.on) || v) b ∙ or_true (inside n l && member l s.on)
  where
    or_true : (a : Bool) → (a || true) ≡ true
    or_true true = refl
    or_true false = refl

module _ (n limit : ℕ) (l : Link) (s : Layer) (f : Fresh s) where
  pub fresh_on : member l (set_in n s) ≡ false → Fresh (turned_on n l s)
  fresh_on m =
      cond_both (member l s.below) (back_off l s) (on_held n l s) (λ v. Fresh v)
      (λ _. fresh_back_off l s f)
      (λ e. cond_both (ltb (held_in s) 16) (held_on l s) (held_on l (sent_down n s)) (λ v. Fresh v) (λ _. fresh_held_on l s f e) (λ _. fresh_held_on l (sent_down n s) (fresh_none (set_in n s)) m))

  pub fresh_off : member l (set_in n s) ≡ true → Fresh (turned_off n limit l s)
  fresh_off m =
      let left = back_on l s in
      cond_both (member l s.below) (off_held n limit l left) left (λ v. Fresh v)
      (λ b. cond_both (ltb (held_in left) 16) (held_off l left) (cond (leb (length (set_in n left)) limit) (held_off l (sent_down n left)) (below_off l left)) (λ v. Fresh v)
      (λ _. fresh_held_off l left (fresh_back_on l s f) b)
      (λ _. cond_both (leb (length (set_in n left)) limit) (held_off l (sent_down n left)) (below_off l left) (λ v. Fresh v)
      (λ _. fresh_held_off l (sent_down n left) (fresh_none (set_in n left)) (still_on n l left (not_held_off l s f n m b) b))
      (λ _. fresh_below_off l left (fresh_back_on l s f) (not_held_off l s f n m b))))
      (λ _. fresh_back_on l s f)
