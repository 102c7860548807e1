-- Reading a number digit by digit.
use Rattle.std.proofs.Common.{◌≡◌, ℕ, ◌+◌, ◌-◌, ◌*◌, ◌^◌, ◌<◌, ◌≤◌, Bool, true, false, cond, ◌&&◌, ltb, List, [], ◌∷◌, length, Some, None, fold, Option, sym, refl, ap, ◌∙◌, arith, ltb-false, ltb-true, le-ltb, lt-ltb}
use Rattle.std.proofs.lemmas.Bool.{cond-true, cond-false}
use Rattle.commands.specs.Words.{all_digits, decimal, is_digit, read_from, with_digit}

abbrev digits_from : Option ℕ → List ℕ → Option ℕ
digits_from o bs = read_from with_digit o bs

abbrev more : ℕ → List ℕ → ℕ
more v bs = fold (λ v b. v * 10 + (b - 48)) v bs

grows : (v : ℕ) (bs : List ℕ) → v ≤ more v bs
grows v [] = omega arith
grows v (b ∷ bs) = omega (arith, grows (v * 10 + (b - 48)) bs)

-- what the digits make, as one test of them all
abbrev whole : ℕ → List ℕ → Option ℕ
whole v bs = cond (all_digits bs && ltb (more v bs) (2 ^ 32)) (Some (more v bs)) None

and_no : (x y : Bool) → y ≡ false → (x && y) ≡ false
and_no true y e = e
and_no false y e = refl

none_from : (bs : List ℕ) → digits_from None bs ≡ None
none_from [] = refl
none_from (b ∷ bs) = refl

stepped : (d t : Bool) (w : ℕ) (bs : List ℕ) → ltb w (2 ^ 32) ≡ t → (w < 2 ^ 32 → digits_from (Some w) bs ≡ whole w bs) → digits_from (cond (d && t) (Some w) None) bs ≡ cond ((d && all_digits bs) && ltb (more w bs) (2 ^ 32)) (Some (more w bs)) None
stepped true true w bs e go = go (ltb-true w (2 ^ 32) e)
stepped true false w bs e go =
    let far : 2 ^ 32 ≤ more w bs = omega (arith, ltb-false w (2 ^ 32) e, grows w bs) in
    none_from bs ∙ sym (cond-false _ _ _ (and_no (all_digits bs) _ (le-ltb (more w bs) (2 ^ 32) far)))
stepped false t w bs e go = none_from bs

read : (v : ℕ) (bs : List ℕ) → v < 2 ^ 32 → digits_from (Some v) bs ≡ whole v bs
read v [] h = sym (cond-true _ _ _ (lt-ltb v (2 ^ 32) h))
read v (b ∷ bs) h = stepped (is_digit b) _ (v * 10 + (b - 48)) bs refl (read (v * 10 + (b - 48)) bs)

-- of a word that is not empty
pub full : (bs : List ℕ) → 0 < length bs → digits_from (Some 0) bs ≡ decimal bs
full bs h = read 0 bs (omega arith) ∙ sym (ap (λ t. cond (t && (all_digits bs && ltb (more 0 bs) (2 ^ 32))) (Some (more 0 bs)) None) (lt-ltb 0 (length bs) h))
