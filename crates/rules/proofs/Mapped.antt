-- a result whose error a function maps: what it was, by what it is
use Rattle.std.proofs.Common.{◌≡◌, ℕ, true, false, Ok, Err, Result, MatchResult, is_ok, refl, sym, ap, arith}

value : {A E : Type 0} → A → Result A E → A
value z (Ok x) = x
value z (Err e) = z

-- a value is kept
pub mapped_ok : {A E : Type 0} (D : Type 0) (R : E → Type 0) (r : Result A E) (x : A) → MatchResult r (λ y. ◌≡◌ {A = Result A D} (Ok x) (Ok y)) R → true ≡ is_ok r → r ≡ Ok x
unfolding value
mapped_ok D R (Ok y) x k t = ap Ok (sym (ap (value x) k))
mapped_ok D R (Err e) x k t = let z : ◌≡◌ {A = ℕ} 0 1 = cc in absurd (omega arith)

-- an error was an error
pub mapped_err : {A E : Type 0} (Q : A → Type 0) (R : E → Type 0) (r : Result A E) → MatchResult r Q R → false ≡ is_ok r → (e : E) × (r ≡ Err e) × R e
mapped_err Q R (Ok y) k t = let z : ◌≡◌ {A = ℕ} 0 1 = cc in absurd (omega arith)
mapped_err Q R (Err e) k t = (e, refl, k)
