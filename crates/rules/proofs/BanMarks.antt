-- the bans of a rule, one after another
use Rattle.std.proofs.Common.{◌≡◌, ℕ, ◌+◌, ◌≤◌, List, [], ◌∷◌, ◌++◌, length, take, drop, Some, None, Ok, Err, Option, Result, sym, refl, ap, ◌∙◌, arith, length-append}
use Rattle.std.proofs.lemmas.List.{drop_all}
use Rattle.rules.specs.declared.faults.PlacedFault.{PlacedFault}
use Rattle.rules.specs.declared.bans.BanRun.{BanRun}
use Rattle.rules.specs.declared.parts.RuleRun.{RuleRun}
use Rattle.rules.specs.Rules.{Ban, Rule, bans_words, ban_words}
use Rattle.rules.specs.Parts.{BanHere, RuleAt}
use Rattle.rules.specs.Handed.{BanIs}
use Rattle.rules.specs.Marks.{passed, or_else, first_mark, ban_marks, bans_marks}
use Rattle.rules.proofs.RuleMarks.{first_append, ban_marks_length}
use Rattle.rules.proofs.Marking.{passed_first, passed_next}
use Rattle.rules.proofs.Walking.{split, joined_push}

-- the ban that a rule hands out by its number
abbrev pub BanHanded : RuleRun → ℕ → Option BanRun → Type 0
BanHanded q i o = (r : Rule) → RuleAt q r → BanIs r.variables (q.place + 1 + length r.needs + length (bans_words (take i r.bans))) (drop i r.bans) o

abbrev pub BansFrom : ℕ → List Ban → ℕ → Type 0
BansFrom p bs i = passed (first_mark (p + length (bans_words (take i bs))) (bans_marks (drop i bs))) ≡ passed (first_mark p (bans_marks bs))

pub bans_first : (p : ℕ) (bs : List Ban) → BansFrom p bs 0
bans_first p bs = let q : p + length (bans_words []) ≡ p = omega arith in ap (λ z. passed (first_mark z (bans_marks bs))) q

module _ (n p : ℕ) (bs : List Ban) (i : ℕ) (v : BansFrom p bs i) where
  abbrev at : ℕ
  at = p + length (bans_words (take i bs))

  end_cases : (l : List Ban) → drop i bs ≡ l → BanIs n at l None → Ok tt ≡ passed (first_mark p (bans_marks bs))
  end_cases [] e b = sym (ap (λ z. passed (first_mark at (bans_marks z))) e) ∙ v
  end_cases (x ∷ xs) e b = absurd b

  pub bans_end : BanIs n at (drop i bs) None → Ok tt ≡ passed (first_mark p (bans_marks bs))
  bans_end b = end_cases (drop i bs) refl b

  pub bans_all : length bs ≤ i → Ok tt ≡ passed (first_mark p (bans_marks bs))
  bans_all h = sym (ap (λ z. passed (first_mark at (bans_marks z))) (drop_all i bs h)) ∙ v

  -- what the check of one ban answers
  module _ (q : BanRun) (o : Result (Unit {0}) PlacedFault) (f : (n : ℕ) (b : Ban) → BanHere q.place q.words.now n b → o ≡ passed (first_mark q.place (ban_marks b))) where
    here : (b : Ban) (xs : List Ban) → drop i bs ≡ b ∷ xs → q.place ≡ at → passed (first_mark p (bans_marks bs)) ≡ passed (or_else (first_mark q.place (ban_marks b)) (first_mark (at + length (ban_marks b)) (bans_marks xs)))
    here b xs e h =
        sym v
        ∙ ap passed (ap (λ z. first_mark at (bans_marks z)) e ∙ first_append at (ban_marks b) (bans_marks xs)
        ∙ ap (λ z. or_else (first_mark z (ban_marks b)) (first_mark (at + length (ban_marks b)) (bans_marks xs))) (sym h))

    hit_cases : (x : PlacedFault) (l : List Ban) → drop i bs ≡ l → BanIs n at l (Some q) → o ≡ Err x → Err x ≡ passed (first_mark p (bans_marks bs))
    hit_cases x [] e b u = absurd b
    hit_cases x (b ∷ xs) e h u = sym (here b xs e h.0 ∙ passed_first (first_mark q.place (ban_marks b)) (first_mark (at + length (ban_marks b)) (bans_marks xs)) x (sym (f n b h.1) ∙ u))

    pub bans_hit : (x : PlacedFault) → BanIs n at (drop i bs) (Some q) → o ≡ Err x → Err x ≡ passed (first_mark p (bans_marks bs))
    bans_hit x b u = hit_cases x (drop i bs) refl b u

    miss_cases : (l : List Ban) → drop i bs ≡ l → BanIs n at l (Some q) → o ≡ Ok tt → BansFrom p bs (i + 1)
    miss_cases [] e b u = absurd b
    miss_cases (b ∷ xs) e h u =
        let s = split bs i b xs e in
        let w : bans_words (take (i + 1) bs) ≡ bans_words (take i bs) ++ ban_words b = ap bans_words s.before ∙ joined_push ban_words bans_words refl (λ _ _. refl) (take i bs) b in
        let l : length (bans_words (take (i + 1) bs)) ≡ length (bans_words (take i bs)) + length (ban_words b) = ap length w ∙ length-append (bans_words (take i bs)) (ban_words b) in
        let m = ban_marks_length b in
        let g : p + length (bans_words (take (i + 1) bs)) ≡ at + length (ban_marks b) = omega arith in
        ap (λ z. passed (first_mark z (bans_marks (drop (i + 1) bs)))) g ∙ ap (λ z. passed (first_mark (at + length (ban_marks b)) (bans_marks z))) s.after
        ∙ sym (here b xs e h.0 ∙ passed_next (first_mark q.place (ban_marks b)) (first_mark (at + length (ban_marks b)) (bans_marks xs)) (sym (f n b h.1) ∙ u))

    pub bans_miss : BanIs n at (drop i bs) (Some q) → o ≡ Ok tt → BansFrom p bs (i + 1)
    bans_miss b u = miss_cases (drop i bs) refl b u
