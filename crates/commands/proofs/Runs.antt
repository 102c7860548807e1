-- How many bytes in front pass a test, found by the first that does not.
use Rattle.std.proofs.Common.{◌≡◌, ℕ, suc, ◌+◌, ◌≤◌, ◌&&◌, eqb, Bool, true, false, cond, not, ltb, List, [], ◌∷◌, length, Some, None, Option, refl, ap, ◌∙◌, arith}
use Rattle.std.proofs.lemmas.Grind.{common_steps}
use Rattle.std.proofs.lemmas.List.Sums.{prefix_len-le-length}
use Rattle.std.specs.List.{prefix_len, position_or_len, list_all}
use Rattle.std.specs.Option.{unwrap_or}

twice : (b : Bool) → not (not b) ≡ b
twice true = refl
twice false = refl

same_run : (p q : ℕ → Bool) → ((b : ℕ) → p b ≡ q b) → (bs : List ℕ) → prefix_len p bs ≡ prefix_len q bs
same_run p q h [] = refl
same_run p q h (b ∷ bs) = λ i. cond (h b i) (1 + same_run p q h bs i) 0

placed : (n m : ℕ) → n ≤ m → unwrap_or (cond (ltb n m) (Some n) None) m ≡ n
placed n m h = grind (arith, common_steps)

pub run_by_position : (test : ℕ → Bool) (bs : List ℕ) (o : Option ℕ) (n : ℕ) → n ≡ unwrap_or o (length bs)
    → o ≡ cond (ltb (position_or_len (λ b. not (test b)) bs) (length bs)) (Some (position_or_len (λ b. not (test b)) bs)) None → n ≡ prefix_len test bs
run_by_position test bs o n e k =
    e ∙ ap (λ r. unwrap_or r (length bs)) k ∙ placed _ _ (prefix_len-le-length _ bs) ∙ same_run _ test (λ b. twice (test b)) bs

more : (t : Bool) (n m : ℕ) (r : Bool) → r ≡ eqb n m → (t && r) ≡ eqb (cond t (1 + n) 0) (suc m)
more true n m r e = e ∙ grind arith
more false n m r e = grind arith

-- all pass where the run is the whole
pub whole_run : (test : ℕ → Bool) (bs : List ℕ) → list_all test bs ≡ eqb (prefix_len test bs) (length bs)
whole_run test [] = refl
whole_run test (b ∷ bs) = more (test b) _ _ _ (whole_run test bs)
