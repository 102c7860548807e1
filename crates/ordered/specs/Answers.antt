-- What the calls of an ordered list answer, and what they leave.
use Rattle.std.specs.Prelude.{◌≡◌, ℕ, ◌<◌, Bool, true, false, List, length, Ok, Err, Result}
use Rattle.ordered.specs.declared.refusal.InsertRefusal.{InsertRefusal}
use Rattle.ordered.specs.declared.refusal.InsertRefusal.TheVariants.{AlreadyThere, Full}
use Rattle.ordered.specs.Order.{has, placed, rank}

-- An insertion of x into xs, with memory for n records in all, that leaves ys.
-- A key that is there already is told before a list that is full.
abbrev pub Inserted : {K : Type 0} → (K → K → Bool) → ℕ → K → List K → Result (Unit {0}) InsertRefusal → List K → Type 0
Inserted b n x xs (Ok _) ys = (has b x xs ≡ false) × (length xs < n) × (ys ≡ placed b x xs)
Inserted b n x xs (Err AlreadyThere) ys = (has b x xs ≡ true) × (ys ≡ xs)
Inserted b n x xs (Err Full) ys = (has b x xs ≡ false) × (length xs ≡ n) × (ys ≡ xs)

-- Where the key of x stands among xs, or would stand.
abbrev pub Sought : {K : Type 0} → (K → K → Bool) → K → List K → Result ℕ ℕ → Type 0
Sought b x xs (Ok at) = (has b x xs ≡ true) × (at ≡ rank b x xs)
Sought b x xs (Err at) = (has b x xs ≡ false) × (at ≡ rank b x xs)
