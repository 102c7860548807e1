-- What stands before the first dash.
use Rattle.std.proofs.Common.{◌≡◌, ℕ, ◌+◌, ◌≤◌, Bool, true, false, cond, eqb, ltb, ◌==◌, List, take, drop, Some, None, position, sym, ap, ◌∙◌, arith}
use Rattle.std.proofs.lemmas.Bool.{cond-false}
use Rattle.std.proofs.lemmas.Grind.{common_steps}
use Rattle.std.proofs.lemmas.List.Sums.{prefix_len-le-length}
use Rattle.std.specs.Option.{option_map}
use Rattle.commands.specs.Words.{dashless, decimal}
use Rattle.commands.specs.Parts.{before_dash}

abbrev dash : ℕ → Bool
dash b = b == 45

at_end : (n m : ℕ) → n ≤ m → cond (ltb n m) (Some n) None ≡ None → eqb n m ≡ true
at_end n m h e = grind (arith, common_steps)

inside : (n m k : ℕ) → cond (ltb n m) (Some n) None ≡ Some k → (k ≡ n) × (eqb n m ≡ false)
inside n m k e = grind (arith, common_steps)

pub without : (bs : List ℕ) → position dash bs ≡ None → before_dash bs ≡ None
without bs e = grind (arith, at_end _ _ (prefix_len-le-length dashless bs) e)

pub dashed : (bs : List ℕ) (n : ℕ) → position dash bs ≡ Some n → before_dash bs ≡ option_map (λ k. (k, drop (n + 1) bs)) (decimal (take n bs))
dashed bs n e =
    let i = inside _ _ _ e in
    cond-false _ _ _ i.1 ∙ ap (λ m. option_map (λ k. (k, drop (m + 1) bs)) (decimal (take m bs))) (sym i.0)
