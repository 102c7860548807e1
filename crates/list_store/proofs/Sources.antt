-- The next source, among the things from a first one on.
use Rattle.std.proofs.Common.{◌≡◌, ℕ, ◌+◌, ◌<◌, ◌≤◌, max, true, false, List, MatchOption, Some, None, Option, ⊎_elim, arith}
use Rattle.std.proofs.lemmas.Bool.{cases_lt}
use Rattle.links.specs.declared.link.Link.{Link}
use Rattle.links.specs.Answers.{Least}
use Rattle.links.specs.Sets.{all_inside, link_of, member}
use Rattle.links.proofs.Inside.{member_outside, outside_marks, outside_source}

module _ (ls : List Link) (t n b x from first : ℕ) (things : n ≡ t) (is : first ≡ max from 64) (within : all_inside t ls ≡ true) where
  below_first : (s : ℕ) → from ≤ s → s < first → member (link_of s b x) ls ≡ false
  below_first s h l = member_outside t (link_of s b x) ls (outside_marks t s b x (omega arith)) within

  pub least_source : (r : Option ℕ) → MatchOption r ((s : ℕ) → first ≤ s → s < 64 + n → member (link_of s b x) ls ≡ false) (λ i. (first ≤ i) × (i < 64 + n) × (member (link_of i b x) ls ≡ true) × ((s : ℕ) → first ≤ s → s < i → member (link_of s b x) ls ≡ false)) → Least (λ s. member (link_of s b x) ls) from r
  least_source None h =
      λ s l. ⊎_elim
      (λ k. below_first s l k)
      (λ k. ⊎_elim (λ m. h s k m) (λ m. member_outside t (link_of s b x) ls (outside_source t s b x (omega (arith, things))) within) (cases_lt s (64 + n)))
      (cases_lt s first)
  least_source (Some i) h =
      (omega (arith, h.0), h.2, λ s l k. ⊎_elim (λ m. below_first s l m) (λ m. h.3 s m k) (cases_lt s first))
