-- What a search through a rising list finds.
use Rattle.std.proofs.Common.{◌≡◌, ℕ, ◌<◌, ◌≤◌, Bool, true, false, List, length, get_or, Ok, Err, Result, Some, None, Option, MatchResult, sym, ◌∙◌, subst, ⊎_elim, arith}
use Rattle.std.specs.Result.{result_ok}
use Rattle.std.specs.List.Sorted.{IsPartitionPoint, IsPartitionedBy}
use Rattle.std.proofs.lemmas.Bool.{cases_eq}
use Rattle.ordered.specs.Answers.{Sought}
use Rattle.ordered.specs.Order.{KeyOrder, ascending, has, rank}
use Rattle.ordered.proofs.Laws.{ascending_at, rank_is}

module _ {K : Type 0} (b : K → K → Bool) (x : K) (xs : List K) where
  -- what comes before x stands before what does not
  pub parted : KeyOrder b → ascending b xs ≡ true → IsPartitionedBy (λ y. b y x) xs
  parted o h i j d l m t =
      ⊎_elim
      (λ e. subst (λ v. b (get_or xs v d) x ≡ true) (sym e) t)
      (λ ne. o.transitive (get_or xs i d) (get_or xs j d) x (ascending_at b xs i j d h (omega arith) m) t)
      (cases_eq i j)

  -- x's rank is where the records that come before it end
  pub point_rank : (at : ℕ) → at ≤ length xs → IsPartitionPoint (λ y. b y x ≡ true) (λ y. b y x ≡ false) xs at → at ≡ rank b x xs
  point_rank at l p = rank_is b x xs at l (λ k d h. p.0 k d (omega arith) h) (λ d h. p.1 at d (omega arith) h)

  -- the place that a search found, and that it found none
  pub sought_ok : (n : ℕ) (r : Result ℕ ℕ) (o : Option ℕ) (at : ℕ) → o ≡ result_ok r → o ≡ Some at → MatchResult r (λ i. i < n) (λ i. i ≤ n) → Sought b x xs r → (at < n) × (has b x xs ≡ true) × (at ≡ rank b x xs)
  sought_ok n (Ok i) o at e w l s = let q : Some i ≡ Some at = sym e ∙ w in let p : i ≡ at = cc in (omega (arith, l), s.0, sym p ∙ s.1)
  sought_ok n (Err i) o at e w l s = absurd (let q : None ≡ Some at = sym e ∙ w in let z : ◌≡◌ {A = ℕ} 0 1 = cc in omega arith)

  pub sought_err : (r : Result ℕ ℕ) (o : Option ℕ) → o ≡ result_ok r → o ≡ None → Sought b x xs r → has b x xs ≡ false
  sought_err (Ok i) o e w s = absurd (let q : Some i ≡ None = sym e ∙ w in let z : ◌≡◌ {A = ℕ} 0 1 = cc in omega arith)
  sought_err (Err i) o e w s = s.0
