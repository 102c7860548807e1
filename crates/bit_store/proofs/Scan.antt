-- The lowest digit that is set, of a word and of a list of words from a place on.
use Rattle.std.proofs.Common.{◌≡◌, ℕ, zero, suc, ◌+◌, ◌-◌, ◌*◌, ◌/◌, ◌%◌, ◌^◌, ◌<◌, ◌≤◌, Bool, true, false, eqb, ltb, List, get_or, Option, sym, refl, ap, ◌∙◌, subst, ⊎_elim, div-one, add-one, one-add, arith}
use native.Mathlib.Nat.{div-eq_of_lt, zero-div}
use lib.Count.{count_trailing_zeros, under}
use Rattle.std.proofs.lemmas.Nat.{shr-shr, shr_le, shr_below, pow_below, mod_below}
use Rattle.std.specs.Bool.{then_some}
use Rattle.std.proofs.lemmas.Bool.{cases_lt, ltb-true, ltb-false}
use Rattle.bit_store.specs.Places.{LeastBelow, bit_on}
use Rattle.bit_store.proofs.Kept.{bit_cleared}

digit_next : (n j : ℕ) → n / 2 ^ suc j % 2 ≡ n / 2 / 2 ^ j % 2
digit_next n j = ap (λ (x : ℕ). x % 2) (sym (shr-shr n 1 j ∙ ap (λ (x : ℕ). n / 2 ^ x) (one-add j)))

digit_first : (n : ℕ) → n / 2 ^ zero % 2 ≡ n % 2
digit_first n = ap (λ (x : ℕ). x % 2) (div-one n)

-- t is the place of the lowest digit of n that is set
pub record Lowest (n t : ℕ) : Type 0 where
  pub here : n / 2 ^ t % 2 ≡ 1
  pub below : (j : ℕ) → j < t → n / 2 ^ j % 2 ≡ 0

lowest_under : (n d t : ℕ) → n % 2 ≡ d → (d ≡ 0 → Lowest (n / 2) t) → Lowest n (under d t)
lowest_under n zero t e h =
    let r = h refl in
    record { here = digit_next n t ∙ r.here; below = λ j l. at j l }
  where
    at : (j : ℕ) → j < suc t → n / 2 ^ j % 2 ≡ 0
    at zero l = digit_first n ∙ e
    at (suc j) l = digit_next n j ∙ (h refl).below j (omega arith)
lowest_under n (suc d) t e h = record { here = digit_first n ∙ (let m = mod_below n 2 (omega arith) in omega arith); below = λ j l. absurd (omega arith) }

pub lowest_trailing : (k n : ℕ) → 0 < n → n < 2 ^ k → Lowest n (count_trailing_zeros k n)
unfolding count_trailing_zeros
lowest_trailing zero n p l = absurd (omega arith)
lowest_trailing (suc k) n p l =
    lowest_under n (n % 2) (count_trailing_zeros k (n / 2)) refl
    (λ e. lowest_trailing k (n / 2) (omega arith) (shr_below n k 1 (subst (λ (x : ℕ). n < 2 ^ x) (sym (add-one k)) l)))

-- the bit j above b, while it lies in b's word
pub bit_above : (ws : List ℕ) (b j : ℕ) → b % 32 + j < 32 → bit_on ws (b + j) ≡ eqb (get_or ws (b / 32) 0 / 2 ^ (b % 32) / 2 ^ j % 2) 1
unfolding bit_on
bit_above ws b j h =
    let d : (b + j) / 32 ≡ b / 32 = omega arith in
    let m : (b + j) % 32 ≡ b % 32 + j = omega arith in
    rw (d, m, shr-shr (get_or ws (b / 32) 0) (b % 32) j)

-- a digit that is set lies below the length
pub digit_inside : (n m t : ℕ) → n < 2 ^ m → n / 2 ^ t % 2 ≡ 1 → t < m
digit_inside n m t l e =
    ⊎_elim (λ h. h) (λ h. absurd (let z : n / 2 ^ t ≡ 0 = div-eq_of_lt (small h) in let y = ap (λ (x : ℕ). x % 2) z in omega arith)) (cases_lt t m)
  where
    small : m ≤ t → n < 2 ^ t
    small h = ⊎_elim (λ q. let r = pow_below m t q in omega arith) (λ q. let e : m ≡ t = omega arith in subst (λ (x : ℕ). n < 2 ^ x) e l) (cases_lt m t)

module _ (ws : List ℕ) (b : ℕ) (fits : get_or ws (b / 32) 0 < 2 ^ 32) where
  -- nothing from b on in its word: nothing before the next word
  pub word_clear : get_or ws (b / 32) 0 / 2 ^ (b % 32) ≡ 0 → (t : ℕ) → b ≤ t → t < (b / 32 + 1) * 32 → bit_on ws t ≡ false
  word_clear z t h l =
      let e : b + (t - b) ≡ t = omega arith in
      subst (λ (x : ℕ). bit_on ws x ≡ false) e
      (bit_above ws b (t - b) (omega arith) ∙ ap (λ (x : ℕ). eqb (x / 2 ^ (t - b) % 2) 1) z ∙ ap (λ (x : ℕ). eqb (x % 2) 1) (zero-div (2 ^ (t - b))))

  module _ (some : 0 < get_or ws (b / 32) 0 / 2 ^ (b % 32)) (r : ℕ) (is : r ≡ count_trailing_zeros 32 (get_or ws (b / 32) 0 / 2 ^ (b % 32))) where
    abbrev rest : ℕ
    rest = get_or ws (b / 32) 0 / 2 ^ (b % 32)

    lowest : Lowest rest r
    lowest = subst (Lowest rest) (sym is) (lowest_trailing 32 rest some (omega (arith, shr_le (get_or ws (b / 32) 0) (b % 32))))

    short : rest < 2 ^ (32 - b % 32)
    short =
        let e : 32 ≡ 32 - b % 32 + b % 32 = omega arith in
        shr_below (get_or ws (b / 32) 0) (32 - b % 32) (b % 32) (subst (λ (x : ℕ). get_or ws (b / 32) 0 < 2 ^ x) e fits)

    -- it lies in b's word
    pub found_near : b % 32 + r < 32
    found_near = let l = digit_inside rest (32 - b % 32) r short lowest.here in omega arith

    pub found_here : bit_on ws (b + r) ≡ true
    found_here = bit_above ws b r found_near ∙ ap (λ (x : ℕ). eqb x 1) lowest.here

    pub found_below : (t : ℕ) → b ≤ t → t < b + r → bit_on ws t ≡ false
    found_below t h l =
        let e : b + (t - b) ≡ t = omega arith in
        subst (λ (x : ℕ). bit_on ws x ≡ false) e
        (bit_above ws b (t - b) (let n = found_near in omega arith) ∙ ap (λ (x : ℕ). eqb x 1) (lowest.below (t - b) (omega arith)))

-- f is the first place from b on whose bit is on
pub record First (ws : List ℕ) (b f : ℕ) : Type 0 where
  pub from : b ≤ f
  pub on : bit_on ws f ≡ true
  pub before : (t : ℕ) → b ≤ t → t < f → bit_on ws t ≡ false

-- it is what a search that ends at `end` answers, if it comes before
pub least_first : (ws : List ℕ) (b f end : ℕ) (w : Bool) (o : Option ℕ) → First ws b f → w ≡ ltb f end → o ≡ then_some w f → LeastBelow (bit_on ws) b end o
least_first ws b f end true o h e q = rw q (h.from, ltb-true f end (sym e), h.on, h.before)
least_first ws b f end false o h e q = let l : end ≤ f = ltb-false f end (sym e) in rw q (λ t m k. h.before t m (omega arith))

module _ (ws : List ℕ) (b : ℕ) (fits : get_or ws (b / 32) 0 < 2 ^ 32) where
  pub first_near : 0 < get_or ws (b / 32) 0 / 2 ^ (b % 32) → First ws b (b + count_trailing_zeros 32 (get_or ws (b / 32) 0 / 2 ^ (b % 32)))
  first_near some = record { from = omega arith; on = found_here ws b fits some _ refl; before = found_below ws b fits some _ refl }

  module _ (clear : get_or ws (b / 32) 0 / 2 ^ (b % 32) ≡ 0) where
    -- nothing in its word, nor in the words up to n
    pub clear_before : (n : ℕ) → ((k : ℕ) → b / 32 + 1 ≤ k → k < n → get_or ws k 0 ≡ 0) → (t : ℕ) → b ≤ t → t < n * 32 → bit_on ws t ≡ false
    clear_before n zeros t h l =
        ⊎_elim
        (λ k. word_clear ws b fits clear t h k)
        (λ k. bit_cleared ws t (zeros (t / 32) (omega arith) (omega arith)))
        (cases_lt t ((b / 32 + 1) * 32))

    pub first_far : (n : ℕ) → b / 32 + 1 ≤ n → get_or ws n 0 < 2 ^ 32 → 0 < get_or ws n 0 → ((k : ℕ) → b / 32 + 1 ≤ k → k < n → get_or ws k 0 ≡ 0) → First ws b (n * 32 + count_trailing_zeros 32 (get_or ws n 0))
    first_far n past small some zeros =
        let d : n * 32 / 32 ≡ n = omega arith in
        let m : n * 32 % 32 ≡ 0 = omega arith in
        let word : get_or ws (n * 32 / 32) 0 / 2 ^ (n * 32 % 32) ≡ get_or ws n 0 = rw (d, m) (div-one (get_or ws n 0)) in
        let near : First ws (n * 32) (n * 32 + count_trailing_zeros 32 (get_or ws n 0)) = subst (λ v. First ws (n * 32) (n * 32 + count_trailing_zeros 32 v)) word (first_near' (rw d small) (rw word some)) in
        record {
          from = omega arith;
          on = near.on;
          before = λ t h l. ⊎_elim (λ k. clear_before n zeros t h k) (λ k. near.before t k l) (cases_lt t (n * 32));
        }
      where
        first_near' : get_or ws (n * 32 / 32) 0 < 2 ^ 32 → 0 < get_or ws (n * 32 / 32) 0 / 2 ^ (n * 32 % 32) → First ws (n * 32) (n * 32 + count_trailing_zeros 32 (get_or ws (n * 32 / 32) 0 / 2 ^ (n * 32 % 32)))
        first_near' f s = record { from = omega arith; on = found_here ws (n * 32) f s _ refl; before = found_below ws (n * 32) f s _ refl }
