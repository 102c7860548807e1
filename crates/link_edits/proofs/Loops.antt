-- One more link of a list that a loop goes through.
use Rattle.std.proofs.Common.{◌≡◌, ℕ, ◌+◌, ◌<◌, ◌≤◌, Bool, true, false, ◌&&◌, ◌||◌, List, [], ◌∷◌, ◌++◌, length, get_or, take, Some, None, Option, sym, refl, ap, ◌∙◌, subst, ⊎_elim, arith}
use Rattle.std.specs.Bool.{then_some}
use Rattle.std.proofs.lemmas.Bool.{and_from, and_parts, both_ways, cases_Bool}
use Rattle.std.proofs.lemmas.List.{take_more}
use Rattle.ordered.proofs.Laws.{same_refl}
use Rattle.links.specs.Order.{link_order}
use Rattle.links.proofs.Order.{same_is}
use Rattle.ordered.specs.Order.{same}
use Rattle.links.specs.declared.link.Link.{Link}
use Rattle.links.specs.Answers.{Least}
use Rattle.links.specs.Sets.{link_before, member, inside}
use Rattle.link_edits.specs.declared.adjacency.Direction.{Direction}
use Rattle.link_edits.specs.declared.adjacency.Direction.TheVariants.{Outgoing, Incoming}
use Rattle.link_edits.specs.Adjacencies.{link_with, other_end, smaller}
use Rattle.link_edits.proofs.Leasts.{least_same, least_or, least_only}

or_none : (a : Bool) → (a || false) ≡ a
or_none true = refl
or_none false = refl

or_assoc : (a b c : Bool) → (a || (b || c)) ≡ ((a || b) || c)
or_assoc true b c = refl
or_assoc false b c = refl

pub member_push : (x y : Link) (xs : List Link) → member x (xs ++ y ∷ []) ≡ (member x xs || same link_before x y)
member_push x y [] = or_none (same link_before x y)
member_push x y (m ∷ ms) = rw (member_push x y ms) (or_assoc (same link_before x m) (member x ms) (same link_before x y))

pub member_more : (x : Link) (xs : List Link) (i : ℕ) (d : Link) → i < length xs → member x (take (i + 1) xs) ≡ (member x (take i xs) || same link_before x (get_or xs i d))
member_more x xs i d l = ap (member x) (take_more xs i d l) ∙ member_push x (get_or xs i d) (take i xs)

-- the smallest so far, with one more
pub added_more : (n : ℕ) (on : List Link) (i : ℕ) (d : Link) (way : Direction) (node label from : ℕ) (a b : Option ℕ) → i < length on
    → Least (λ t. inside n (link_with way node label t) && member (link_with way node label t) (take i on)) from a
    → Least (λ t. inside n (link_with way node label t) && same link_before (link_with way node label t) (get_or on i d)) from b
    → Least (λ t. inside n (link_with way node label t) && member (link_with way node label t) (take (i + 1) on)) from (smaller a b)
added_more n on i d way node label from a b l p q =
    least_same _ _ from (smaller a b)
    (λ t. split (inside n (link_with way node label t)) (member (link_with way node label t) (take i on)) (same link_before (link_with way node label t) (get_or on i d)) ∙ ap (λ v. inside n (link_with way node label t) && v) (sym (member_more (link_with way node label t) on i d l)))
    (least_or _ _ from a b p q)
  where
    split : (i m s : Bool) → ((i && m) || (i && s)) ≡ (i && (m || s))
    split true m s = refl
    split false m s = refl

-- what one link gives a search
module _ (n : ℕ) (way : Direction) (node label from : ℕ) (l : Link) where
  abbrev pub Gives : Option ℕ → Type 0
  Gives = Least (λ t. inside n (link_with way node label t) && same link_before (link_with way node label t) l) from

  end_of : (way : Direction) (t : ℕ) → other_end way (link_with way node label t) ≡ t
  end_of Outgoing t = refl
  end_of Incoming t = refl

  only : (t : ℕ) → same link_before (link_with way node label t) l ≡ true → t ≡ other_end way l
  only t s = sym (end_of way t) ∙ ap (other_end way) (same_is (link_with way node label t) l s)

  none : ((t : ℕ) → from ≤ t → inside n (link_with way node label t) ≡ true → same link_before (link_with way node label t) l ≡ true → ⊥) → Gives None
  none h t k = ⊎_elim (λ e. absurd (let p = and_parts (inside n (link_with way node label t)) (same link_before (link_with way node label t) l) e in h t k p.0 p.1)) (λ e. e) (cases_Bool (inside n (link_with way node label t) && same link_before (link_with way node label t) l))

  pub one_below : other_end way l < from → Gives None
  one_below h = none (λ t k i s. let e = only t s in omega arith)

  pub one_outside : inside n l ≡ false → Gives None
  one_outside h = none (λ t k i s. both_ways (inside n l) h (sym (ap (inside n) (same_is (link_with way node label t) l s)) ∙ i))

  pub one_other : same link_before l (link_with way node label (other_end way l)) ≡ false → Gives None
  one_other h = none (λ t k i s. both_ways (same link_before l (link_with way node label (other_end way l))) h
      (ap (same link_before l) (sym (ap (link_with way node label) (only t s)) ∙ same_is (link_with way node label t) l s) ∙ same_refl link_before link_order l))

  pub one_found : from ≤ other_end way l → inside n l ≡ true → same link_before l (link_with way node label (other_end way l)) ≡ true → Gives (Some (other_end way l))
  one_found h i s =
      let e = same_is l (link_with way node label (other_end way l)) s in
      least_only (λ t. inside n (link_with way node label t) && same link_before (link_with way node label t) l) from (other_end way l) h
      (subst (λ v. (inside n v && same link_before v l) ≡ true) e (and_from (inside n l) (same link_before l l) i (same_refl link_before link_order l)))
      (λ t p. only t (and_parts (inside n (link_with way node label t)) (same link_before (link_with way node label t) l) p).1)

  pub one_told : (r : Bool) → from ≤ other_end way l → inside n l ≡ true → r ≡ same link_before l (link_with way node label (other_end way l)) → Gives (then_some r (other_end way l))
  one_told true h i e = one_found h i (sym e)
  one_told false h i e = one_other (sym e)
