-- Members, order and length of an edited set.
use Rattle.std.proofs.Common.{◌≡◌, ℕ, ◌+◌, ◌-◌, ◌<◌, ◌≤◌, Bool, true, false, cond, not, ◌&&◌, ◌||◌, List, [], ◌∷◌, ◌++◌, length, get_or, take, sym, refl, ap, ◌∙◌, ⊎_elim, arith}
use Rattle.std.proofs.lemmas.Bool.{cond_both, and_parts, or_cases, both_ways}
use Rattle.std.proofs.lemmas.List.{take_more}
use Rattle.std.proofs.lemmas.Bool.Decides.{nat_tests}
use mir.Val.{bool_byte}
use Rattle.ordered.specs.Order.{same}
use Rattle.ordered.proofs.Laws.{without_none}
use Rattle.ordered.proofs.Members.{has_placed, has_without, length_placed, length_without}
use Rattle.links.specs.declared.link.Link.{Link}
use Rattle.links.specs.Sets.{LinkSet, link_before, rising, member, inserted, removed, inside, all_inside, link_of}
use Rattle.links.specs.Order.{link_order}
use Rattle.links.proofs.Order.{same_is}
use Rattle.link_edits.specs.declared.adjacency.Direction.{Direction}
use Rattle.link_edits.specs.declared.edit.Edit.{Edit}
use Rattle.link_edits.specs.declared.adjacency.Direction.TheVariants.{Outgoing, Incoming}
use Rattle.link_edits.specs.Adjacencies.{link_with}
use Rattle.link_edits.specs.Kept.{rising_off}
use Rattle.link_edits.specs.Edits.{after, with_link, with_all, without_all, edited}

-- one link on
module _ (n : ℕ) (l : Link) (ls : List Link) where
  pub member_with : (x : Link) → member x (with_link n l ls) ≡ ((inside n x && same link_before x l) || member x ls)
  member_with x =
      cond_both (inside n l && not (member l ls)) (inserted l ls) ls (λ v. member x v ≡ ((inside n x && same link_before x l) || member x ls))
      (λ h. has_placed link_before x l ls ∙ joined (inside n x) (same link_before x l) (member x ls) (λ s. ap (inside n) (same_is x l s) ∙ (and_parts (inside n l) (not (member l ls)) h).0))
      (λ h. there (inside n x) (same link_before x l) (member x ls) (λ i s. ap (λ v. member v ls) (same_is x l s) ∙ absorbed (inside n l) (member l ls) h (sym (ap (inside n) (same_is x l s)) ∙ i)))
    where
      joined : (i s m : Bool) → (s ≡ true → i ≡ true) → (s || m) ≡ ((i && s) || m)
      joined true s m h = refl
      joined false true m h = absurd (both_ways false refl (h refl))
      joined false false m h = refl

      there : (i s m : Bool) → (i ≡ true → s ≡ true → m ≡ true) → m ≡ ((i && s) || m)
      there true true m h = h refl refl
      there true false m h = refl
      there false s m h = refl

      absorbed : (i m : Bool) → (i && not m) ≡ false → i ≡ true → m ≡ true
      absorbed true true h e = refl
      absorbed true false h e = absurd (both_ways true h refl)
      absorbed false m h e = absurd (both_ways false refl e)

  pub length_with : length (with_link n l ls) ≡ cond (inside n l && not (member l ls)) (length ls + 1) (length ls)
  length_with =
      elim (inside n l && not (member l ls)) as (λ b. length (cond b (inserted l ls) ls) ≡ cond b (length ls + 1) (length ls)) [
        | true ↦ length_placed link_before l ls
        | false ↦ refl
      ]

  pub length_off : rising ls ≡ true → length (removed l ls) + cond (member l ls) 1 0 ≡ length ls
  length_off r =
      elim_both (member l ls) (λ h. length_without link_before link_order l ls r h) (λ h. ap length (without_none link_before l ls h))
    where
      elim_both : (b : Bool) → (b ≡ true → length (removed l ls) + 1 ≡ length ls) → (b ≡ false → length (removed l ls) ≡ length ls) → length (removed l ls) + cond b 1 0 ≡ length ls
      elim_both true f g = f refl
      elim_both false f g = let e = g refl in omega arith

-- many links on
module _ (n : ℕ) where
  pub member_with_all : (x : Link) (on ls : List Link) → member x (with_all n on ls) ≡ ((inside n x && member x on) || member x ls)
  member_with_all x [] ls = none (inside n x) (member x ls)
    where
      none : (a b : Bool) → b ≡ ((a && false) || b)
      none true b = refl
      none false b = refl
  member_with_all x (m ∷ ms) ls =
      member_with_all x ms (with_link n m ls) ∙ ap (λ v. (inside n x && member x ms) || v) (member_with n m ls x) ∙ joined (inside n x) (member x ms) (same link_before x m) (member x ls)
    where
      joined : (i m s b : Bool) → ((i && m) || ((i && s) || b)) ≡ ((i && (s || m)) || b)
      joined true true true b = refl
      joined true true false b = refl
      joined true false true b = refl
      joined true false false b = refl
      joined false m s b = refl

  pub with_all_push : (on : List Link) (l : Link) (ls : List Link) → with_all n (on ++ l ∷ []) ls ≡ with_link n l (with_all n on ls)
  with_all_push [] l ls = refl
  with_all_push (m ∷ ms) l ls = with_all_push ms l (with_link n m ls)

-- many links off
pub member_off : (x : Link) (off ls : List Link) → member x (without_all off ls) ≡ (not (member x off) && member x ls)
member_off x [] ls = refl
member_off x (m ∷ ms) ls =
    member_off x ms (removed m ls) ∙ ap (λ v. not (member x ms) && v) (has_without link_before link_order x m ls) ∙ joined (member x ms) (same link_before x m) (member x ls)
  where
    joined : (m s b : Bool) → (not m && (not s && b)) ≡ (not (s || m) && b)
    joined true true b = refl
    joined true false b = refl
    joined false true b = refl
    joined false false b = refl

pub off_push : (off : List Link) (l : Link) (ls : List Link) → without_all (off ++ l ∷ []) ls ≡ removed l (without_all off ls)
off_push [] l ls = refl
off_push (m ∷ ms) l ls = off_push ms l (removed m ls)

-- an edit
module _ (n : ℕ) (off on ls : List Link) where
  pub member_edited : (x : Link) → member x (edited n off on ls) ≡ ((inside n x && member x on) || (not (member x off) && member x ls))
  member_edited x = member_with_all n x on (without_all off ls) ∙ ap (λ v. (inside n x && member x on) || v) (member_off x off ls)

  -- what the edit puts on is on, what else it takes off is off, and the others stay
  pub edited_put : (x : Link) → (inside n x && member x on) ≡ true → true ≡ member x (edited n off on ls)
  edited_put x h = sym (member_edited x ∙ ap (λ v. v || (not (member x off) && member x ls)) h)

  pub edited_taken : (x : Link) → (inside n x && member x on) ≡ false → member x off ≡ true → false ≡ member x (edited n off on ls)
  edited_taken x h m = sym (member_edited x ∙ ap (λ v. v || (not (member x off) && member x ls)) h ∙ ap (λ v. not v && member x ls) m)

  pub edited_stays : (x : Link) → (inside n x && member x on) ≡ false → member x off ≡ false → member x ls ≡ member x (edited n off on ls)
  edited_stays x h m = sym (member_edited x ∙ ap (λ v. v || (not (member x off) && member x ls)) h ∙ ap (λ v. not v && member x ls) m)

-- a member lies inside
pub member_inside : (n : ℕ) (x : Link) (ls : List Link) → all_inside n ls ≡ true → member x ls ≡ true → inside n x ≡ true
member_inside n x [] i m = absurd (both_ways false refl m)
member_inside n x (y ∷ ys) i m =
    let p = and_parts (inside n y) (all_inside n ys) i in
    ⊎_elim (λ s. ap (inside n) (same_is x y s) ∙ p.0) (λ t. member_inside n x ys p.1 t) (or_cases (same link_before x y) (member x ys) m)

pub other_small : (n : ℕ) (ls : List Link) (way : Direction) (node label t : ℕ) → all_inside n ls ≡ true → member (link_with way node label t) ls ≡ true → t < 64 + n
other_small n ls Outgoing node label t i m = let h = member_inside n (link_of node label t) ls i m in grind (arith, nat_tests)
other_small n ls Incoming node label t i m = let h = member_inside n (link_of t label node) ls i m in grind (arith, nat_tests)

-- the set after an edit, by what the edit's lists are
pub edit_is : (g h : LinkSet) (e : Edit) (off on : List Link) → h ≡ g → e.off.now ≡ off → e.on.now ≡ on → (after e h).links ≡ edited g.things off on g.links
edit_is g h e off on p q r = ap (λ v. (after e v).links) p ∙ ap (λ v. edited g.things v e.on.now g.links) q ∙ ap (λ v. edited g.things off v g.links) r

-- whether a link is new after an edit, by what the edit's lists are
pub gains_is : (g h : LinkSet) (e : Edit) (off on : List Link) (l : Link) (t : Bool) → h ≡ g → e.off.now ≡ off → e.on.now ≡ on → t ≡ (inside h.things l && not (member l (after e h).links)) → t ≡ (inside g.things l && not (member l (edited g.things off on g.links)))
gains_is g h e off on l t p q r m = m ∙ ap (λ v. inside v.things l && not (member l (after e v).links)) p ∙ ap (λ v. inside g.things l && not (member l v)) (edit_is g g e off on refl q r)

-- one more of a list, off or on
pub off_more : (off : List Link) (i : ℕ) (d : Link) (ls : List Link) → i < length off → without_all (take (i + 1) off) ls ≡ removed (get_or off i d) (without_all (take i off) ls)
off_more off i d ls l = ap (λ v. without_all v ls) (take_more off i d l) ∙ off_push (take i off) (get_or off i d) ls

pub on_more : (n : ℕ) (on : List Link) (i : ℕ) (d : Link) (ls : List Link) → i < length on → with_all n (take (i + 1) on) ls ≡ with_link n (get_or on i d) (with_all n (take i on) ls)
on_more n on i d ls l = ap (λ v. with_all n v ls) (take_more on i d l) ∙ with_all_push n (take i on) (get_or on i d) ls

-- the count, as a loop goes through the links to be off, and through those to be on
byte : (t : Bool) → bool_byte t ≡ cond t 1 0
byte true = refl
byte false = refl

pub count_off : (off : List Link) (i : ℕ) (d : Link) (ls : List Link) (count r : ℕ) (t : Bool) → rising ls ≡ true → i < length off → count ≡ length (without_all (take i off) ls) → t ≡ member (get_or off i d) (without_all (take i off) ls) → r ≡ bool_byte t → (r ≤ count) × (count - r ≡ length (without_all (take (i + 1) off) ls))
count_off off i d ls count r t h l c m e =
    let k = length_off 0 (get_or off i d) (without_all (take i off) ls) (rising_off (take i off) ls h) in
    let q : r ≡ cond (member (get_or off i d) (without_all (take i off) ls)) 1 0 = e ∙ byte t ∙ ap (λ v. cond v 1 0) m in
    let n = ap length (off_more off i d ls l) in
    (omega arith, omega arith)

pub count_on : (n : ℕ) (on : List Link) (i : ℕ) (d : Link) (ls : List Link) (count r : ℕ) (t : Bool) → i < length on → count ≡ length (with_all n (take i on) ls) → t ≡ (inside n (get_or on i d) && not (member (get_or on i d) (with_all n (take i on) ls))) → r ≡ bool_byte t → count + r ≡ length (with_all n (take (i + 1) on) ls)
count_on n on i d ls count r t l c m e =
    let k = length_with n (get_or on i d) (with_all n (take i on) ls) in
    let q = ap length (on_more n on i d ls l) in
    ap (λ v. v + r) c ∙ ap (λ v. length (with_all n (take i on) ls) + v) (e ∙ byte t) ∙ chosen t (length (with_all n (take i on) ls)) ∙ ap (λ v. cond v (length (with_all n (take i on) ls) + 1) (length (with_all n (take i on) ls))) m ∙ sym (q ∙ k)
  where
    chosen : (t : Bool) (n : ℕ) → n + cond t 1 0 ≡ cond t (n + 1) n
    chosen true n = refl
    chosen false n = omega arith
