-- A change, and then its undoing.
use Rattle.std.proofs.Common.{◌≡◌, ℕ, ◌+◌, ◌≤◌, Bool, true, false, not, ◌&&◌, ◌||◌, List, [], ◌∷◌, ◌++◌, length, sym, refl, ap, ◌∙◌, ⊎_elim, arith}
use Rattle.std.proofs.lemmas.Bool.{cond_both, cond-true, cond-false, both_ways, cases_Bool, cases_lt, or_cases}
use Rattle.std.proofs.lemmas.List.{length_push}
use Rattle.ordered.specs.Order.{same}
use Rattle.ordered.proofs.Laws.{same_refl, without_none}
use Rattle.links.specs.declared.link.Link.{Link}
use Rattle.links.specs.Sets.{link_before, member, removed, inside}
use Rattle.links.specs.Order.{link_order}
use Rattle.link_edits.proofs.Edits.{member_edited}
use Rattle.held_store.specs.Layers.{Layer, Fresh, layer, set_in, held_in, sent_down, held_on, held_off, back_off, back_on, on_held, off_held, turned_on, turned_off}
use Rattle.held_store.specs.Undoing.{OnUndone, OffUndone}
use Rattle.held_store.proofs.Removing.{removed_push}
use Rattle.held_store.proofs.Changes.{removed_short}
use Rattle.held_store.proofs.Layers.{on_room, on_seventeenth, off_room, off_seventeenth}

removed_shorter : (l : Link) (xs : List Link) → member l xs ≡ true → length (removed l xs) + 1 ≤ length xs
removed_shorter l [] m = absurd (both_ways false refl m)
removed_shorter l (x ∷ xs) m =
    cond_both (same link_before l x) (removed l xs) (x ∷ removed l xs) (λ v. length v + 1 ≤ length (x ∷ xs))
    (λ _. omega (arith, removed_short l xs))
    (λ e. let h = removed_shorter l xs (⊎_elim (λ t. absurd (both_ways (same link_before l x) e t)) (λ t. t) (or_cases (same link_before l x) (member l xs) m)) in omega arith)

-- what was put last is gone again
removed_last : (l : Link) (xs : List Link) → length (removed l (xs ++ l ∷ [])) ≤ length xs
removed_last l xs =
    let e = ap length (removed_push l l xs ∙ ap (λ v. removed l xs ++ v) (cond-true (same link_before l l) [] (l ∷ []) (same_refl link_before link_order l)) ∙ none (removed l xs)) in
    omega (arith, removed_short l xs)
  where
    none : (ys : List Link) → ys ++ [] ≡ ys
    none [] = refl
    none (y ∷ ys) = ap (λ v. y ∷ v) (none ys)

module _ (n limit : ℕ) (l : Link) where
  on_there : (w : Layer) → member l w.below ≡ true → turned_on n l w ≡ back_off l w
  on_there w h = cond-true (member l w.below) (back_off l w) (on_held n l w) h

  on_new : (w : Layer) → member l w.below ≡ false → turned_on n l w ≡ on_held n l w
  on_new w h = cond-false (member l w.below) (back_off l w) (on_held n l w) h

  off_there : (w : Layer) → member l w.below ≡ true → turned_off n limit l w ≡ off_held n limit l (back_on l w)
  off_there w h = cond-true (member l w.below) (off_held n limit l (back_on l w)) (back_on l w) h

  off_new : (w : Layer) → member l w.below ≡ false → turned_off n limit l w ≡ back_on l w
  off_new w h = cond-false (member l w.below) (off_held n limit l (back_on l w)) (back_on l w) h

  -- a change that was held just now
  held_then_off : (w : Layer) → member l w.below ≡ false → held_in (turned_off n limit l (held_on l w)) ≤ held_in w
  held_then_off w h = let e = ap held_in (off_new (held_on l w) h) in omega (arith, removed_last l w.on)

  held_then_on : (w : Layer) → member l w.below ≡ true → held_in (turned_on n l (held_off l w)) ≤ held_in w
  held_then_on w h = let e = ap held_in (on_there (held_off l w) h) in omega (arith, removed_last l w.off)

  module _ (s : Layer) (few : held_in s ≤ 16) where
    -- an off link that is on below is held off, an on link that is off below is held on
    off_held_off : member l (set_in n s) ≡ false → member l s.below ≡ true → member l s.off ≡ true
    off_held_off m b = cases (inside n l && member l s.on) (member l s.off) (member l s.below) b (sym (member_edited n s.off s.on s.below l) ∙ m)
      where
        cases : (i o c : Bool) → c ≡ true → (i || (not o && c)) ≡ false → o ≡ true
        cases i true c h e = refl
        cases true false c h e = absurd (both_ways true e refl)
        cases false false c h e = absurd (both_ways c e h)

    on_held_on : member l (set_in n s) ≡ true → member l s.below ≡ false → member l s.on ≡ true
    on_held_on m b = cases (inside n l) (member l s.on) (not (member l s.off)) (member l s.below) b (sym (member_edited n s.off s.on s.below l) ∙ m)
      where
        cases : (i a o c : Bool) → c ≡ false → ((i && a) || (o && c)) ≡ true → a ≡ true
        cases i true o c h e = refl
        cases i false o true h e = absurd (both_ways true h refl)
        cases true false true false h e = absurd (both_ways false refl e)
        cases true false false false h e = absurd (both_ways false refl e)
        cases false false true false h e = absurd (both_ways false refl e)
        cases false false false false h e = absurd (both_ways false refl e)

    pub on_off : member l (set_in n s) ≡ false → held_in (turned_off n limit l (turned_on n l s)) ≤ held_in s
    on_off m =
        ⊎_elim
        (λ b. let u = back_on l (back_off l s) in
        let short = removed_shorter l s.off (off_held_off m b) in
        let shorter = removed_short l s.on in
        let e = ap (λ v. held_in (turned_off n limit l v)) (on_there s b) ∙ ap held_in (off_there (back_off l s) b ∙ off_room n limit l u (omega arith)) in
        omega (arith, length_push (removed l s.off) l))
        (λ b. let e = ap (λ v. held_in (turned_off n limit l v)) (on_new s b) in
        ⊎_elim
        (λ h. let d = ap (λ v. held_in (turned_off n limit l v)) (on_room n limit l s h) in omega (arith, held_then_off s b))
        (λ h. let d = ap (λ v. held_in (turned_off n limit l v)) (on_seventeenth n limit l s h) in omega (arith, held_then_off (sent_down n s) m))
        (cases_lt (held_in s) 16))
        (cases_Bool (member l s.below))

    pub off_on : Fresh s → length (set_in n s) ≤ limit → member l (set_in n s) ≡ true → held_in (turned_on n l (turned_off n limit l s)) ≤ held_in s
    off_on f k m =
        ⊎_elim
        (λ b. let whole : back_on l s ≡ s = ap (λ v. layer s.below s.off v) (without_none link_before l s.on (⊎_elim (λ t. absurd (both_ways (member l s.below) (f.ons l t) b)) (λ t. t) (cases_Bool (member l s.on)))) in
        let e = ap (λ v. held_in (turned_on n l v)) (off_there s b ∙ ap (off_held n limit l) whole) in
        ⊎_elim
        (λ h. let d = ap (λ v. held_in (turned_on n l v)) (off_room n limit l s h) in omega (arith, held_then_on s b))
        (λ h. let d = ap (λ v. held_in (turned_on n l v)) (off_seventeenth n limit l s h k) in omega (arith, held_then_on (sent_down n s) m))
        (cases_lt (held_in s) 16))
        (λ b. let u = back_on l s in
        let short = removed_shorter l s.on (on_held_on m b) in
        let e = ap (λ v. held_in (turned_on n l v)) (off_new s b) ∙ ap held_in (on_new u b ∙ on_room n limit l u (omega arith)) in
        omega (arith, length_push (removed l s.on) l))
        (cases_Bool (member l s.below))

pub on_undone : OnUndone
on_undone n limit l s few m = on_off n limit l s few m

pub off_undone : OffUndone
off_undone n limit l s few f k m = off_on n limit l s few f k m
