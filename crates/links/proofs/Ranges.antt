-- What a search through a range of numbers finds.
use Rattle.std.proofs.Common.{◌≡◌, ℕ, ◌+◌, ◌-◌, ◌<◌, ◌≤◌, Bool, true, false, List, length, Option, MatchOption, MatchBool, arith, subst, ◌∙◌, refl}
use Rattle.std.specs.Fn.{Called}
use Rattle.std.specs.Iterator.{YieldsThen}
use Rattle.std.specs.List.{range_with_len, FoldsTo, AllWithin, HoldsAt}
use Rattle.std.proofs.lemmas.Iterator.{YieldsList-from_range, cases_from_any}
use Rattle.std.proofs.lemmas.List.FromFn.{get_or-range_with_len, length-range_with_len}
use Rattle.std.proofs.iter.Yields.{nat_range_steps}
use denote.Param.Members.{Mut}

-- each of the numbers, by its distance from the first
pub each_in_range : (a n : ℕ) (P : ℕ → Type 0) (low high : ℕ) → AllWithin P (range_with_len a n) low high → high ≤ n → (x : ℕ) → a + low ≤ x → x < a + high → P x
each_in_range a n P low high h l x from below =
    let at : a + (x - a) ≡ x = omega arith in
    subst P (get_or-range_with_len a n (x - a) 0 (omega arith) ∙ at) (h (x - a) 0 (omega arith) (omega arith))

one_in_range : (a n : ℕ) (P : ℕ → Type 0) (k : ℕ) → k < n → HoldsAt P (range_with_len a n) k → P (a + k)
one_in_range a n P k l h = subst P (get_or-range_with_len a n k 0 l) (h 0)

in_numbers : (a b : ℕ) (Yes No : ℕ → Type 0) (r : Bool) → MatchBool r ((k : ℕ) × (k < length (range_with_len a (b - a))) × HoldsAt Yes (range_with_len a (b - a)) k) (AllWithin No (range_with_len a (b - a)) 0 (length (range_with_len a (b - a)))) → MatchBool r ((x : ℕ) × (a ≤ x) × (x < b) × Yes x) ((x : ℕ) → a ≤ x → x < b → No x)
in_numbers a b Yes No true h =
    let n : length (range_with_len a (b - a)) ≡ b - a = length-range_with_len a (b - a) in
    let l : h.0 < b - a = omega (arith, n, h.1) in
    (a + h.0, omega arith, omega arith, one_in_range a (b - a) Yes h.0 l h.2)
in_numbers a b Yes No false h = λ x from below.
    let n : length (range_with_len a (b - a)) ≡ b - a = length-range_with_len a (b - a) in
    each_in_range a (b - a) No 0 (length (range_with_len a (b - a))) h (omega (arith, n)) x (omega arith) (omega (arith, n))

-- what `any` over the numbers from a to b says, by what a call says of one
pub any_in_range : {F : Type 0} {g : Mut F (ℕ × Unit {0}) Bool} {s : _} (a b : ℕ) (u : _) (f : F) (r : Bool) (Yes No : ℕ → Type 0) → (xs : List ℕ) × (o : Option ℕ) × (j : F) × YieldsThen nat_range_steps s xs o u × FoldsTo (λ p x q. Called g p (x, tt) false q) f xs j × MatchOption o (r ≡ false) (λ x. (r ≡ true) × ((h : F) × Called g j (x, tt) true h)) → s ≡ record { start = a; end = b } → ((x : ℕ) (q : F) → Called g f (x, tt) true q → Yes x) → ((x : ℕ) (q : F) → Called g f (x, tt) false q → (q ≡ f) × No x) → MatchBool r ((x : ℕ) × (a ≤ x) × (x < b) × Yes x) ((x : ℕ) → a ≤ x → x < b → No x)
any_in_range a b u f r Yes No ran e h k =
    in_numbers a b Yes No r (cases_from_any u f r Yes No ran (YieldsList-from_range a b (b - a) e refl) h k)
