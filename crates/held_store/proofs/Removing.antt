-- A list with a link left out.
use Rattle.std.proofs.Common.{◌≡◌, Bool, true, false, cond, not, List, [], ◌∷◌, ◌++◌, filter, refl, ap, ◌∙◌}
use Rattle.ordered.specs.Order.{same}
use Rattle.links.specs.declared.link.Link.{Link}
use Rattle.links.specs.contracts.link.LinkPartialEq.TheImpl.{ghosts as equality}
use Rattle.links.specs.Sets.{link_before, removed}
use Rattle.links.proofs.Equality.{eq_is_same}

pub removed_push : (l y : Link) (xs : List Link) → removed l (xs ++ y ∷ []) ≡ removed l xs ++ cond (same link_before l y) [] (y ∷ [])
removed_push l y [] = refl
removed_push l y (x ∷ xs) =
    elim (same link_before l x) as (λ b. cond b (removed l (xs ++ y ∷ [])) (x ∷ removed l (xs ++ y ∷ [])) ≡ cond b (removed l xs) (x ∷ removed l xs) ++ cond (same link_before l y) [] (y ∷ [])) [
      | true ↦ removed_push l y xs
      | false ↦ ap (λ v. x ∷ v) (removed_push l y xs)
    ]

-- keeping what differs from a link leaves it out
pub others_kept : (l : Link) (xs : List Link) → filter (λ x. not (equality.eq x l)) xs ≡ removed l xs
others_kept l [] = refl
others_kept l (x ∷ xs) =
    ap (λ v. cond (not v) (x ∷ filter (λ x. not (equality.eq x l)) xs) (filter (λ x. not (equality.eq x l)) xs)) (eq_is_same l x)
    ∙ ap (λ v. cond (not (same link_before l x)) (x ∷ v) v) (others_kept l xs)
    ∙ turned (same link_before l x)
  where
    turned : (s : Bool) → cond (not s) (x ∷ removed l xs) (removed l xs) ≡ cond s (removed l xs) (x ∷ removed l xs)
    turned true = refl
    turned false = refl
