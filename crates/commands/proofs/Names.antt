-- A word that is known byte by byte.
use Rattle.std.proofs.Common.{◌≡◌, ℕ, true, eqb, ◌&&◌, Bool, List, [], ◌∷◌, length, get_or, bytes_eq, refl, arith}

more : (p a : ℕ) (t : Bool) → p ≡ a → t ≡ true → (eqb p a && t) ≡ true
more p a t h e = grind arith

pub five : (w : List ℕ) (a b c d e : ℕ) → length w ≡ 5 → get_or w 0 0 ≡ a → get_or w 1 0 ≡ b → get_or w 2 0 ≡ c → get_or w 3 0 ≡ d → get_or w 4 0 ≡ e → bytes_eq w (a ∷ b ∷ c ∷ d ∷ e ∷ []) ≡ true
five (p ∷ q ∷ r ∷ s ∷ t ∷ []) a b c d e l h i j k m = more _ _ _ h (more _ _ _ i (more _ _ _ j (more _ _ _ k (more _ _ _ m refl))))
five w a b c d e l h i j k m = absurd (omega arith)

pub six : (w : List ℕ) (a b c d e f : ℕ) → length w ≡ 6 → get_or w 0 0 ≡ a → get_or w 1 0 ≡ b → get_or w 2 0 ≡ c → get_or w 3 0 ≡ d → get_or w 4 0 ≡ e → get_or w 5 0 ≡ f → bytes_eq w (a ∷ b ∷ c ∷ d ∷ e ∷ f ∷ []) ≡ true
six (p ∷ q ∷ r ∷ s ∷ t ∷ u ∷ []) a b c d e f l h i j k m n = more _ _ _ h (more _ _ _ i (more _ _ _ j (more _ _ _ k (more _ _ _ m (more _ _ _ n refl)))))
six w a b c d e f l h i j k m n = absurd (omega arith)
