-- One binary digit of a word, and of a list of words.
use Rattle.std.proofs.Common.{◌≡◌, ℕ, zero, suc, ◌+◌, ◌-◌, ◌/◌, ◌%◌, ◌^◌, ◌<◌, eqb, List, length, get_or, set, sym, refl, ap, ◌∙◌, subst, ⊎_elim, arith}
use native.Mathlib.Nat.{div_self, div-eq_of_lt, mul-mod_left}
use lib.Bits.{bit_or, bit_xor, or_zero_r, xor_zero_r}
use Rattle.std.proofs.lemmas.Nat.{pow_pos, pow-add, pow_below, shl-shr, or_shr, or_mod, xor_shr, xor_mod, mod_below}
use Rattle.std.proofs.lemmas.List.{get_or-set_same, get_or-set_other}
use Rattle.std.proofs.lemmas.Bool.{cases_order, cases_eq}
use Rattle.bit_store.specs.Places.{bit_on}

power_above : (d j : ℕ) → 2 ^ (d + 1 + j) / 2 ^ j % 2 ≡ 0
power_above d j =
    ap (λ (x : ℕ). x / 2 ^ j % 2) (pow-add 2 (d + 1) j) ∙ ap (λ (x : ℕ). x % 2) (shl-shr (2 ^ (d + 1)) j ∙ pow-add 2 d 1) ∙ mul-mod_left (2 ^ d) 2

pub power_same : (k : ℕ) → 2 ^ k / 2 ^ k % 2 ≡ 1
power_same k = ap (λ (x : ℕ). x % 2) (div_self (pow_pos k))

pub power_other : (k j : ℕ) → (j ≡ k → ⊥) → 2 ^ k / 2 ^ j % 2 ≡ 0
power_other k j ne =
    ⊎_elim (λ e. absurd (ne e))
    (⊎_elim
    (λ l. let e : k - j - 1 + 1 + j ≡ k = omega arith in subst (λ (x : ℕ). 2 ^ x / 2 ^ j % 2 ≡ 0) e (power_above (k - j - 1) j))
    (λ l. ap (λ (x : ℕ). x % 2) (div-eq_of_lt (pow_below k j l))))
    (cases_order j k)

or_digit : (w v j : ℕ) → bit_or w v / 2 ^ j % 2 ≡ bit_or (w / 2 ^ j % 2) (v / 2 ^ j % 2)
or_digit w v j = ap (λ (x : ℕ). x % 2) (or_shr w v j) ∙ or_mod (w / 2 ^ j) (v / 2 ^ j) 1

xor_digit : (w v j : ℕ) → bit_xor w v / 2 ^ j % 2 ≡ bit_xor (w / 2 ^ j % 2) (v / 2 ^ j % 2)
xor_digit w v j = ap (λ (x : ℕ). x % 2) (xor_shr w v j) ∙ xor_mod (w / 2 ^ j) (v / 2 ^ j) 1

or_one : (x : ℕ) → x < 2 → bit_or x 1 ≡ 1
or_one zero h = refl
or_one (suc zero) h = refl
or_one (suc (suc x)) h = absurd (omega arith)

-- the digit k of w | 2 ^ k is set, and no other changes
pub or_power_same : (w k : ℕ) → bit_or w (2 ^ k) / 2 ^ k % 2 ≡ 1
or_power_same w k = or_digit w (2 ^ k) k ∙ ap (λ (x : ℕ). bit_or (w / 2 ^ k % 2) x) (power_same k) ∙ or_one (w / 2 ^ k % 2) (mod_below (w / 2 ^ k) 2 (omega arith))

pub or_power_other : (w k j : ℕ) → (j ≡ k → ⊥) → bit_or w (2 ^ k) / 2 ^ j % 2 ≡ w / 2 ^ j % 2
or_power_other w k j ne = or_digit w (2 ^ k) j ∙ ap (λ (x : ℕ). bit_or (w / 2 ^ j % 2) x) (power_other k j ne) ∙ or_zero_r (w / 2 ^ j % 2)

pub xor_power_same : (w k : ℕ) → w / 2 ^ k % 2 ≡ 1 → bit_xor w (2 ^ k) / 2 ^ k % 2 ≡ 0
xor_power_same w k h = xor_digit w (2 ^ k) k ∙ ap (λ (x : ℕ). bit_xor (w / 2 ^ k % 2) x) (power_same k) ∙ ap (λ (x : ℕ). bit_xor x 1) h

pub xor_power_other : (w k j : ℕ) → (j ≡ k → ⊥) → bit_xor w (2 ^ k) / 2 ^ j % 2 ≡ w / 2 ^ j % 2
xor_power_other w k j ne = xor_digit w (2 ^ k) j ∙ ap (λ (x : ℕ). bit_xor (w / 2 ^ j % 2) x) (power_other k j ne) ∙ xor_zero_r (w / 2 ^ j % 2)

-- a list of words with one word written: the bit there, and the others
pub bit_on_written : (ws : List ℕ) (b v : ℕ) → b / 32 < length ws → bit_on (set ws (b / 32) v) b ≡ eqb (v / 2 ^ (b % 32) % 2) 1
unfolding bit_on
bit_on_written ws b v h = ap (λ (x : ℕ). eqb (x / 2 ^ (b % 32) % 2) 1) (get_or-set_same ws (b / 32) v 0 h)

pub bit_on_kept : (ws : List ℕ) (b v c : ℕ) → b / 32 < length ws → ((j : ℕ) → (j ≡ b % 32 → ⊥) → v / 2 ^ j % 2 ≡ get_or ws (b / 32) 0 / 2 ^ j % 2) → (c ≡ b → ⊥) → bit_on (set ws (b / 32) v) c ≡ bit_on ws c
unfolding bit_on
bit_on_kept ws b v c h k ne =
    ⊎_elim
    (λ e. ap (λ (i : ℕ). eqb (get_or (set ws (b / 32) v) i 0 / 2 ^ (c % 32) % 2) 1) e
    ∙ ap (λ (x : ℕ). eqb (x / 2 ^ (c % 32) % 2) 1) (get_or-set_same ws (b / 32) v 0 h)
    ∙ ap (λ (x : ℕ). eqb x 1) (k (c % 32) (λ m. ne (omega arith)))
    ∙ ap (λ (i : ℕ). eqb (get_or ws i 0 / 2 ^ (c % 32) % 2) 1) (sym e))
    (λ d. ap (λ (x : ℕ). eqb (x / 2 ^ (c % 32) % 2) 1) (get_or-set_other ws (b / 32) (c / 32) v 0 d))
    (cases_eq (c / 32) (b / 32))
