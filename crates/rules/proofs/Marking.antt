-- the first word that has a fault
use Rattle.std.proofs.Common.{◌≡◌, ℕ, zero, suc, ◌+◌, ◌-◌, ◌^◌, ◌≤◌, min, Bool, true, false, not, cond, ltb, ◌&&◌, List, [], ◌∷◌, map, length, take, drop, Some, None, Ok, Err, Option, sym, refl, ap, ◌∙◌, arith}
use mathlib.Core.List.{map-append}
use Rattle.std.proofs.lemmas.Bool.{ltb-true, ltb-false, lt-ltb, le-ltb}
use Rattle.std.proofs.lemmas.List.Folds.{list_all-append, list_all-map}
use Rattle.std.proofs.lemmas.List.FromFn.{map-range_with_len_more, length-enumerate_from}
use Rattle.std.proofs.lemmas.List.Quantifiers.{position-Some}
use Rattle.std.specs.List.{enumerate_from, list_all, position, position_or_len, range_with_len}
use Rattle.std.specs.Option.{option_map}
use Rattle.words.specs.declared.items.PatternLink.{PatternLink}
use Rattle.words.specs.Words.{share_of}
use Rattle.words.specs.declared.faults.RuleFault.{RuleFault}
use Rattle.words.specs.declared.faults.RuleFault.TheVariants.{SharesTwice}
use Rattle.rules.specs.declared.faults.PlacedFault.{PlacedFault}
use Rattle.rules.specs.Anchors.{some, anchors, anchored, shares_again}
use Rattle.rules.proofs.Walking.{split}
use Rattle.rules.specs.Marks.{fault_if, or_else, placed, first_mark, share_marks, passed, fault_in, in_rule, marks_by}

-- what a pass answers where another follows it
pub passed_first : {F : Type 0} (o p : Option F) (x : F) → passed o ≡ Err x → passed (or_else o p) ≡ Err x
passed_first None p x e = let z : ◌≡◌ {A = ℕ} 0 1 = cc in absurd (omega arith)
passed_first (Some y) p x e = e

pub passed_next : {F : Type 0} (o p : Option F) → passed o ≡ Ok tt → passed (or_else o p) ≡ passed p
passed_next None p e = refl
passed_next (Some y) p e = let z : ◌≡◌ {A = ℕ} 0 1 = cc in absurd (omega arith)

pub passed_first_in : (n : ℕ) (o : Option PlacedFault) (x : PlacedFault) → passed o ≡ Err x → passed (in_rule n o) ≡ Err (fault_in n x)
passed_first_in n None x e = let z : ◌≡◌ {A = ℕ} 0 1 = cc in absurd (omega arith)
passed_first_in n (Some y) x e = let q : y ≡ x = cc in ap (λ z. Err (fault_in n z)) q

pub passed_next_in : (n : ℕ) (o : Option PlacedFault) → passed o ≡ Ok tt → passed (in_rule n o) ≡ Ok tt
passed_next_in n None e = refl
passed_next_in n (Some y) e = let z : ◌≡◌ {A = ℕ} 0 1 = cc in absurd (omega arith)

-- each variable below n is anchored, counted up or down
and_swapped : (a b : Bool) → (a && (b && true)) ≡ (b && a)
and_swapped true true = refl
and_swapped true false = refl
and_swapped false true = refl
and_swapped false false = refl

pub anchored_is : (n : ℕ) (ls : List PatternLink) → list_all (λ v. some (anchors v) ls) (range_with_len 0 n) ≡ anchored n ls
anchored_is zero ls = refl
anchored_is (suc n) ls =
    let p : ℕ → Bool = λ v. some (anchors v) ls in
    let one : Bool → Bool = λ b. b in
    let q : suc n ≡ n + 1 = omega arith in
    sym (list_all-map one p (range_with_len 0 (suc n))) ∙ ap (λ z. list_all one (map p (range_with_len 0 z))) q ∙ ap (list_all one) (map-range_with_len_more p 0 n n (omega arith)) ∙ list_all-append one (map p (range_with_len 0 n)) (p n ∷ [])
    ∙ and_swapped (list_all one (map p (range_with_len 0 n))) (p n) ∙ ap (λ b. p n && b) (list_all-map one p (range_with_len 0 n) ∙ anchored_is n ls)

-- the marks of words by a test, and the first word that passes it
module _ (t : ℕ → ℕ → Bool) (f : RuleFault) (place : ℕ) where
  abbrev first : ℕ → List ℕ → Option ℕ
  first n ws = position (λ (p : ℕ × ℕ). t p.0 p.1) (enumerate_from n ws)

  abbrev at_word : ℕ → ℕ → PlacedFault
  at_word n k = record { place = place + n + k; fault = f }

  shift : (n m l : ℕ) (c : Bool) → ltb m l ≡ c → option_map (at_word (n + 1)) (cond (ltb m l) (Some m) None) ≡ option_map (at_word n) (cond (ltb (1 + m) (suc l)) (Some (1 + m)) None)
  shift n m l true e =
      let a : ltb (1 + m) (suc l) ≡ true = let z = ltb-true m l e in lt-ltb (1 + m) (suc l) (omega arith) in
      let q : place + (n + 1) + m ≡ place + n + (1 + m) = omega arith in
      ap (λ b. option_map (at_word (n + 1)) (cond b (Some m) None)) e ∙ ap (λ z. Some (record { place = z; fault = f })) q ∙ sym (ap (λ b. option_map (at_word n) (cond b (Some (1 + m)) None)) a)
  shift n m l false e =
      let a : ltb (1 + m) (suc l) ≡ false = let z = ltb-false m l e in le-ltb (1 + m) (suc l) (omega arith) in
      ap (λ b. option_map (at_word (n + 1)) (cond b (Some m) None)) e ∙ sym (ap (λ b. option_map (at_word n) (cond b (Some (1 + m)) None)) a)

  both : (n : ℕ) (b : Bool) (m l : ℕ) (next : Option PlacedFault) → next ≡ option_map (at_word (n + 1)) (cond (ltb m l) (Some m) None) → or_else (placed (place + n) (fault_if b f)) next ≡ option_map (at_word n) (cond (ltb (cond (not b) (1 + m) 0) (suc l)) (Some (cond (not b) (1 + m) 0)) None)
  both n true m l next e =
      let a : ltb 0 (suc l) ≡ true = lt-ltb 0 (suc l) (omega arith) in
      let q : place + n ≡ place + n + 0 = omega arith in
      ap (λ z. Some (record { place = z; fault = f })) q ∙ sym (ap (λ b. option_map (at_word n) (cond b (Some 0) None)) a)
  both n false m l next e = e ∙ shift n m l (ltb m l) refl

  pub marks_found : (n : ℕ) (ws : List ℕ) → first_mark (place + n) (marks_by t f n ws) ≡ option_map (at_word n) (first n ws)
  marks_found n [] = refl
  marks_found n (w ∷ ws) =
      let q : place + n + 1 ≡ place + (n + 1) = omega arith in
      both n (t n w) (position_or_len (λ (p : ℕ × ℕ). t p.0 p.1) (enumerate_from (n + 1) ws)) (length (enumerate_from (n + 1) ws)) (first_mark (place + n + 1) (marks_by t f (n + 1) ws))
      (ap (λ z. first_mark z (marks_by t f (n + 1) ws)) q ∙ marks_found (n + 1) ws)

  module _ (ws : List ℕ) (o : Option ℕ) (e : o ≡ first 0 ws) where
    told : first_mark place (marks_by t f 0 ws) ≡ option_map (at_word 0) o
    told = let q : place + 0 ≡ place = omega arith in ap (λ z. first_mark z (marks_by t f 0 ws)) (sym q) ∙ marks_found 0 ws ∙ ap (option_map (at_word 0)) (sym e)

    pub refused : (at p : ℕ) → o ≡ Some at → p ≡ min (place + at) (2 ^ 64 - 1) → place + length ws ≤ 1024 → Err (record { place = p; fault = f }) ≡ passed (first_mark place (marks_by t f 0 ws))
    refused at p s q l =
        let b = (position-Some (λ (p : ℕ × ℕ). t p.0 p.1) (enumerate_from 0 ws) at (0, 0) (sym e ∙ s)).0 in
        let n = length-enumerate_from 0 ws in
        let r : p ≡ place + 0 + at = omega arith in
        ap (λ z. Err (record { place = z; fault = f })) r ∙ sym (ap passed (told ∙ ap (option_map (at_word 0)) s))

    pub accepted : o ≡ None → Ok tt ≡ passed (first_mark place (marks_by t f 0 ws))
    accepted s = sym (ap passed (told ∙ ap (option_map (at_word 0)) s))

-- marks by a test of the word alone
pub marks_alone : (t : ℕ → Bool) (f : RuleFault) (n : ℕ) (ws : List ℕ) → marks_by (λ _ w. t w) f n ws ≡ map (λ w. fault_if (t w) f) ws
marks_alone t f n [] = refl
marks_alone t f n (w ∷ ws) = ap (λ z. fault_if (t w) f ∷ z) (marks_alone t f (n + 1) ws)

-- marks of ban variables, each after those before
marks_past : (all : List ℕ) (i : ℕ) (ws : List ℕ) → drop i all ≡ ws → marks_by (λ i w. shares_again (map share_of (take i all)) (share_of w)) SharesTwice i ws ≡ share_marks (map share_of (take i all)) (map share_of ws)
marks_past all i [] e = refl
marks_past all i (w ∷ ws) e =
    let s = split all i w ws e in
    ap (λ z. fault_if (shares_again (map share_of (take i all)) (share_of w)) SharesTwice ∷ z) (marks_past all (i + 1) ws s.after ∙ ap (λ z. share_marks z (map share_of ws)) (ap (map share_of) s.before ∙ map-append share_of (take i all) (w ∷ [])))

pub marks_after : (ws : List ℕ) → marks_by (λ i w. shares_again (map share_of (take i ws)) (share_of w)) SharesTwice 0 ws ≡ share_marks [] (map share_of ws)
marks_after ws = marks_past ws 0 ws refl
