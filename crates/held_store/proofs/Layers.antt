-- What a layer's set becomes when a change is held, taken back or sent down.
use Rattle.std.proofs.Common.{◌≡◌, ℕ, ◌<◌, ◌≤◌, Bool, true, false, cond, not, ◌&&◌, ◌||◌, ltb, leb, List, [], ◌∷◌, ◌++◌, length, sym, refl, ap, ◌∙◌}
use Rattle.std.proofs.lemmas.Bool.{cond_both, cond-true, cond-false, both_ways, lt-ltb, le-ltb, le-leb, lt-leb}
use Rattle.ordered.specs.Order.{same}
use Rattle.ordered.proofs.Laws.{same_refl, ascending_placed, ascending_without}
use Rattle.ordered.proofs.Members.{has_placed, has_without}
use Rattle.links.specs.declared.link.Link.{Link}
use Rattle.links.specs.Sets.{link_before, rising, member, inserted, removed, inside}
use Rattle.links.specs.Order.{link_order}
use Rattle.links.proofs.Order.{same_is, same_members}
use Rattle.link_edits.specs.Kept.{rising_edited}
use Rattle.link_edits.proofs.Edits.{member_edited}
use Rattle.link_edits.proofs.Loops.{member_push}
use Rattle.held_store.specs.Layers.{Layer, layer, set_in, held_in, sent_down, held_on, held_off, back_off, back_on, below_off, on_held, off_held, turned_on, turned_off}

pub layer_is : (b b' f f' o o' : List Link) → b ≡ b' → f ≡ f' → o ≡ o' → layer b f o ≡ layer b' f' o'
layer_is b b' f f' o o' p q r = ap (λ v. layer v f o) p ∙ ap (λ v. layer b' v o) q ∙ ap (λ v. layer b' f' v) r

-- which way a change is held
module _ (n limit : ℕ) (l : Link) (s : Layer) where
  pub on_room : held_in s < 16 → on_held n l s ≡ held_on l s
  on_room h = cond-true (ltb (held_in s) 16) (held_on l s) (held_on l (sent_down n s)) (lt-ltb (held_in s) 16 h)

  pub on_seventeenth : 16 ≤ held_in s → on_held n l s ≡ held_on l (sent_down n s)
  on_seventeenth h = cond-false (ltb (held_in s) 16) (held_on l s) (held_on l (sent_down n s)) (le-ltb (held_in s) 16 h)

  pub off_room : held_in s < 16 → off_held n limit l s ≡ held_off l s
  off_room h = cond-true (ltb (held_in s) 16) (held_off l s) (cond (leb (length (set_in n s)) limit) (held_off l (sent_down n s)) (below_off l s)) (lt-ltb (held_in s) 16 h)

  pub off_seventeenth : 16 ≤ held_in s → length (set_in n s) ≤ limit → off_held n limit l s ≡ held_off l (sent_down n s)
  off_seventeenth h k =
      cond-false (ltb (held_in s) 16) (held_off l s) (cond (leb (length (set_in n s)) limit) (held_off l (sent_down n s)) (below_off l s)) (le-ltb (held_in s) 16 h)
      ∙ cond-true (leb (length (set_in n s)) limit) (held_off l (sent_down n s)) (below_off l s) (le-leb (length (set_in n s)) limit k)

  pub off_past : 16 ≤ held_in s → limit < length (set_in n s) → off_held n limit l s ≡ below_off l s
  off_past h k =
      cond-false (ltb (held_in s) 16) (held_off l s) (cond (leb (length (set_in n s)) limit) (held_off l (sent_down n s)) (below_off l s)) (le-ltb (held_in s) 16 h)
      ∙ cond-false (leb (length (set_in n s)) limit) (held_off l (sent_down n s)) (below_off l s) (lt-leb (length (set_in n s)) limit k)

module _ (n : ℕ) (l : Link) where
  -- a set with the link more, and without it
  abbrev More : List Link → List Link → Type 0
  More old new = (x : Link) → member x new ≡ (same link_before x l || member x old)

  abbrev Less : List Link → List Link → Type 0
  Less old new = (x : Link) → member x new ≡ (not (same link_before x l) && member x old)

  more_is : (old new : List Link) → rising old ≡ true → rising new ≡ true → member l old ≡ false → More old new → new ≡ inserted l old
  more_is old new r s m h = same_members new (inserted l old) s (ascending_placed link_before link_order l old r m) (λ x. h x ∙ sym (has_placed link_before x l old))

  less_is : (old new : List Link) → rising old ≡ true → rising new ≡ true → Less old new → new ≡ removed l old
  less_is old new r s h = same_members new (removed l old) s (ascending_without link_before l old r) (λ x. h x ∙ sym (has_without link_before link_order x l old))

  pub taken_out : (xs : List Link) → member l (removed l xs) ≡ false
  taken_out xs = has_without link_before link_order l l xs ∙ ap (λ v. not v && member l xs) (same_refl link_before link_order l)

  module _ (s : Layer) where
    in_set : (x : Link) → member x (set_in n s) ≡ ((inside n x && member x s.on) || (not (member x s.off) && member x s.below))
    in_set x = member_edited n s.off s.on s.below x

    more_held : inside n l ≡ true → More (set_in n s) (set_in n (held_on l s))
    more_held i x =
        member_edited n s.off (s.on ++ l ∷ []) s.below x
        ∙ ap (λ v. (inside n x && v) || (not (member x s.off) && member x s.below)) (member_push x l s.on)
        ∙ join (inside n x) (member x s.on) (same link_before x l) (not (member x s.off) && member x s.below) (λ e. ap (inside n) (same_is x l e) ∙ i)
        ∙ ap (λ v. same link_before x l || v) (sym (in_set x))
      where
        join : (i m s b : Bool) → (s ≡ true → i ≡ true) → ((i && (m || s)) || b) ≡ (s || ((i && m) || b))
        join true true true b h = refl
        join true true false b h = refl
        join true false true b h = refl
        join true false false b h = refl
        join false m true b h = absurd (both_ways false refl (h refl))
        join false m false b h = refl

    less_held : member l s.on ≡ false → Less (set_in n s) (set_in n (held_off l s))
    less_held m x =
        member_edited n (s.off ++ l ∷ []) s.on s.below x
        ∙ ap (λ v. (inside n x && member x s.on) || (not v && member x s.below)) (member_push x l s.off)
        ∙ join (inside n x) (member x s.on) (same link_before x l) (member x s.off) (member x s.below) (λ e. ap (λ v. member v s.on) (same_is x l e) ∙ m)
        ∙ ap (λ v. not (same link_before x l) && v) (sym (in_set x))
      where
        join : (i m s o b : Bool) → (s ≡ true → m ≡ false) → ((i && m) || (not (o || s) && b)) ≡ (not s && ((i && m) || (not o && b)))
        join i true true o b h = absurd (both_ways true (h refl) refl)
        join true false true true b h = refl
        join true false true false b h = refl
        join false false true true b h = refl
        join false false true false b h = refl
        join i m false true b h = refl
        join i m false false b h = refl

    more_back : member l s.below ≡ true → More (set_in n s) (set_in n (back_off l s))
    more_back m x =
        member_edited n (removed l s.off) s.on s.below x
        ∙ ap (λ v. (inside n x && member x s.on) || (not v && member x s.below)) (has_without link_before link_order x l s.off)
        ∙ join (inside n x && member x s.on) (same link_before x l) (member x s.off) (member x s.below) (λ e. ap (λ v. member v s.below) (same_is x l e) ∙ m)
        ∙ ap (λ v. same link_before x l || v) (sym (in_set x))
      where
        join : (i s o b : Bool) → (s ≡ true → b ≡ true) → (i || (not (not s && o) && b)) ≡ (s || (i || (not o && b)))
        join true true o b h = refl
        join true false o b h = refl
        join false true o b h = h refl
        join false false o b h = refl

    less_back : member l s.below ≡ false → Less (set_in n s) (set_in n (back_on l s))
    less_back m x =
        member_edited n s.off (removed l s.on) s.below x
        ∙ ap (λ v. (inside n x && v) || (not (member x s.off) && member x s.below)) (has_without link_before link_order x l s.on)
        ∙ join (inside n x) (same link_before x l) (member x s.on) (not (member x s.off)) (member x s.below) (λ e. ap (λ v. member v s.below) (same_is x l e) ∙ m)
        ∙ ap (λ v. not (same link_before x l) && v) (sym (in_set x))
      where
        join : (i s m o b : Bool) → (s ≡ true → b ≡ false) → ((i && (not s && m)) || (o && b)) ≡ (not s && ((i && m) || (o && b)))
        join i true m o true h = absurd (both_ways true (h refl) refl)
        join true true m true false h = refl
        join true true m false false h = refl
        join false true m true false h = refl
        join false true m false false h = refl
        join i false m o b h = refl

    less_below : member l s.on ≡ false → Less (set_in n s) (set_in n (below_off l s))
    less_below m x =
        member_edited n s.off s.on (removed l s.below) x
        ∙ ap (λ v. (inside n x && member x s.on) || (not (member x s.off) && v)) (has_without link_before link_order x l s.below)
        ∙ join (inside n x) (member x s.on) (same link_before x l) (not (member x s.off)) (member x s.below) (λ e. ap (λ v. member v s.on) (same_is x l e) ∙ m)
        ∙ ap (λ v. not (same link_before x l) && v) (sym (in_set x))
      where
        join : (i m s o b : Bool) → (s ≡ true → m ≡ false) → ((i && m) || (o && (not s && b))) ≡ (not s && ((i && m) || (o && b)))
        join i true true o b h = absurd (both_ways true (h refl) refl)
        join true false true true b h = refl
        join true false true false b h = refl
        join false false true true b h = refl
        join false false true false b h = refl
        join i m false o b h = refl

    less_after : (new : List Link) → Less (set_in n (back_on l s)) new → Less (set_in n s) new
    less_after new k x =
        k x ∙ ap (λ v. not (same link_before x l) && v) (member_edited n s.off (removed l s.on) s.below x ∙ ap (λ v. (inside n x && v) || (not (member x s.off) && member x s.below)) (has_without link_before link_order x l s.on))
        ∙ join (same link_before x l) (inside n x) (member x s.on) (not (member x s.off) && member x s.below)
        ∙ ap (λ v. not (same link_before x l) && v) (sym (in_set x))
      where
        join : (s i m b : Bool) → (not s && ((i && (not s && m)) || b)) ≡ (not s && ((i && m) || b))
        join true i m b = refl
        join false i m b = refl

  module _ (limit : ℕ) (s : Layer) (r : rising s.below ≡ true) where
    rises : (t : Layer) → rising t.below ≡ true → rising (set_in n t) ≡ true
    rises t h = rising_edited n t.off t.on t.below h

    rises_on : rising (turned_on n l s).below ≡ true
    rises_on =
        cond_both (member l s.below) (back_off l s) (on_held n l s) (λ v. rising v.below ≡ true) (λ _. r)
        (λ _. cond_both (ltb (held_in s) 16) (held_on l s) (held_on l (sent_down n s)) (λ v. rising v.below ≡ true) (λ _. r) (λ _. rises s r))

    -- switching on puts the link into the layer's set
    pub set_on : inside n l ≡ true → member l (set_in n s) ≡ false → set_in n (turned_on n l s) ≡ inserted l (set_in n s)
    set_on i m = more_is (set_in n s) (set_in n (turned_on n l s)) (rises s r) (rises (turned_on n l s) rises_on) m
        (cond_both (member l s.below) (back_off l s) (on_held n l s) (λ v. More (set_in n s) (set_in n v)) (λ e. more_back s e)
        (λ _. cond_both (ltb (held_in s) 16) (held_on l s) (held_on l (sent_down n s)) (λ v. More (set_in n s) (set_in n v)) (λ _. more_held s i) (λ _. more_held (sent_down n s) i)))

    abbrev left : Layer
    left = back_on l s

    rises_off : rising (turned_off n limit l s).below ≡ true
    rises_off =
        cond_both (member l s.below) (off_held n limit l left) left (λ v. rising v.below ≡ true)
        (λ _. cond_both (ltb (held_in left) 16) (held_off l left) (cond (leb (length (set_in n left)) limit) (held_off l (sent_down n left)) (below_off l left)) (λ v. rising v.below ≡ true) (λ _. r)
        (λ _. cond_both (leb (length (set_in n left)) limit) (held_off l (sent_down n left)) (below_off l left) (λ v. rising v.below ≡ true) (λ _. rises left r) (λ _. ascending_without link_before l s.below r)))
        (λ _. r)

    -- and switching off takes it out
    pub set_off : set_in n (turned_off n limit l s) ≡ removed l (set_in n s)
    set_off = less_is (set_in n s) (set_in n (turned_off n limit l s)) (rises s r) (rises (turned_off n limit l s) rises_off)
        (cond_both (member l s.below) (off_held n limit l left) left (λ v. Less (set_in n s) (set_in n v))
        (λ _. cond_both (ltb (held_in left) 16) (held_off l left) (cond (leb (length (set_in n left)) limit) (held_off l (sent_down n left)) (below_off l left)) (λ v. Less (set_in n s) (set_in n v))
        (λ _. less_after s (set_in n (held_off l left)) (less_held left (taken_out s.on)))
        (λ _. cond_both (leb (length (set_in n left)) limit) (held_off l (sent_down n left)) (below_off l left) (λ v. Less (set_in n s) (set_in n v))
        (λ _. less_after s (set_in n (held_off l (sent_down n left))) (less_held (sent_down n left) refl))
        (λ _. less_after s (set_in n (below_off l left)) (less_below left (taken_out s.on)))))
        (λ e. less_back s e))
