-- The next target, by what stands at the place where it would.
use Rattle.std.proofs.Common.{◌≡◌, ℕ, ◌<◌, ◌≤◌, Bool, true, false, ◌&&◌, eqb, List, length, get_or, Some, None, Option, sym, ap, ◌∙◌, subst, arith}
use Rattle.std.specs.Bool.{then_some}
use Rattle.std.proofs.lemmas.Bool.{and_parts, eqb-true}
use Rattle.std.proofs.lemmas.Bool.Decides.{nat_tests}
use Rattle.ordered.specs.Order.{rank}
use Rattle.ordered.proofs.Members.{none_past, none_between, rank_past, has_get_d}
use Rattle.links.specs.declared.link.Link.{Link}
use Rattle.links.specs.Answers.{Least}
use Rattle.links.specs.Sets.{link_of, link_before, member, rising}
use Rattle.links.specs.Order.{link_order}

-- a later target of one source and label is not before an earlier one
not_before : (s b x y : ℕ) → x ≤ y → link_before (link_of s b y) (link_of s b x) ≡ false
not_before s b x y h = grind (arith, nat_tests)

target_least : (s b x : ℕ) (e : Link) → e.source ≡ s → e.label ≡ b → link_before e (link_of s b x) ≡ false → x ≤ e.target
target_least s b x e p q h = grind (arith, nat_tests)

target_before : (s b y : ℕ) (e : Link) → e.source ≡ s → e.label ≡ b → y < e.target → link_before (link_of s b y) e ≡ true
target_before s b y e p q h = grind (arith, nat_tests)

other_before : (s b x y : ℕ) (e : Link) → (eqb e.source s && eqb e.label b) ≡ false → link_before e (link_of s b x) ≡ false → link_before (link_of s b y) e ≡ true
other_before s b x y e n h = grind (arith, nat_tests)

module _ (ls : List Link) (r : rising ls ≡ true) (s b from at : ℕ) (is : at ≡ rank link_before (link_of s b from) ls) where
  pub next_end : at ≡ length ls → Least (λ t. member (link_of s b t) ls) from None
  next_end l n h = none_past link_before link_order (link_of s b from) (link_of s b n) (not_before s b from n h) ls (sym is ∙ l)

  module _ (e : Link) (l : at < length ls) (g : (d : Link) → e ≡ get_or ls at d) where
    at_rank : e ≡ get_or ls (rank link_before (link_of s b from) ls) e
    at_rank = g e ∙ ap (λ v. get_or ls v e) is

    below : rank link_before (link_of s b from) ls < length ls
    below = subst (λ v. v < length ls) is l

    past : link_before e (link_of s b from) ≡ false
    past = rank_past link_before link_order (link_of s b from) e ls below at_rank

    nothing : (n : ℕ) → from ≤ n → link_before (link_of s b n) e ≡ true → member (link_of s b n) ls ≡ false
    nothing n h k = none_between link_before link_order (link_of s b from) (link_of s b n) (not_before s b from n h) e ls r below at_rank k

    there : member e ls ≡ true
    there = subst (λ v. member v ls ≡ true) (sym (g e)) (has_get_d link_before link_order e ls at l)

    next_here : e.source ≡ s → e.label ≡ b → Least (λ t. member (link_of s b t) ls) from (Some e.target)
    next_here p q = (
      target_least s b from e p q past,
      subst (λ v. member (link_of s v e.target) ls ≡ true) q (subst (λ v. member (link_of v e.label e.target) ls ≡ true) p there),
      λ n h k. nothing n h (target_before s b n e p q k),
    )

    next_other : (eqb e.source s && eqb e.label b) ≡ false → Least (λ t. member (link_of s b t) ls) from None
    next_other o n h = nothing n h (other_before s b from n e o past)

    pub next_record : (w : Bool) (o : Option ℕ) → (eqb e.source s && eqb e.label b) ≡ w → o ≡ then_some w e.target → Least (λ t. member (link_of s b t) ls) from o
    next_record true o h q = let p = and_parts (eqb e.source s) (eqb e.label b) h in rw q (next_here (eqb-true e.source s p.0) (eqb-true e.label b p.1))
    next_record false o h q = rw q (next_other h)
