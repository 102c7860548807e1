-- the rules of a set, found one after another
use Rattle.std.proofs.Common.{◌≡◌, ℕ, ◌+◌, ◌-◌, ◌<◌, ◌≤◌, true, false, cond, ltb, List, [], ◌∷◌, ◌++◌, length, take, drop, Some, None, Ok, Err, Option, Result, sym, refl, ap, ◌∙◌, subst, append_assoc, append-nil, arith, length-append, length-drop}
use Rattle.std.proofs.lemmas.List.{drop_all}
use Rattle.std.proofs.lemmas.Bool.{lt-ltb, le-ltb, leb-true}
use Rattle.std.specs.List.{AllByRecursion}
use Rattle.words.specs.declared.items.Item.TheVariants.{Opens, Makes, Ends}
use Rattle.words.specs.Words.{word_of}
use Rattle.words.proofs.Coding.{kind_of_word}
use Rattle.rules.specs.declared.faults.PlacedFault.{PlacedFault}
use Rattle.rules.specs.declared.faults.SetFault.{SetFault}
use Rattle.rules.specs.declared.parts.RuleRun.{RuleRun}
use Rattle.rules.specs.declared.sets.RuleSet.{RuleSet}
use Rattle.rules.specs.Rules.{Making, Rule, rule_words, encode, link_words, bans_words, need_words, thing_words, makes_words}
use Rattle.rules.specs.Formed.{FormedMaking, FormedRule}
use Rattle.rules.specs.Runs.{span, end_of, rule_end}
use Rattle.rules.specs.Parts.{RuleHere}
use Rattle.rules.specs.Handed.{RuleIs}
use Rattle.rules.specs.Marks.{passed, or_else, first_mark, rule_marks, fault_in, in_rule, second_fault}
use Rattle.rules.specs.Sets.{SetHere, RuleStart}
use Rattle.rules.proofs.Complete.{six}
use Rattle.rules.proofs.Spans.{Kinds, in_kind}
use Rattle.rules.proofs.WordKinds.{kinds_links, kinds_things, kinds_wider, kinds_join, end_at, run_at}
use Rattle.rules.proofs.Walking.{Suffixes, suffix_at, split, past, Reached, reached_element, reached_more, joined_push}
use Rattle.rules.proofs.RuleMarks.{front_of, front_kinds}
use Rattle.rules.proofs.Marking.{passed_first, passed_next, passed_first_in, passed_next_in}

-- all words of a rule but its last
abbrev pub body_of : Rule → List ℕ
body_of r = front_of r ++ (thing_words r.struck_things ++ makes_words r.makes)

body_list : (a b c d e : List ℕ) (o w : ℕ) → o ∷ (a ++ (b ++ (c ++ (d ++ (e ++ w ∷ []))))) ≡ ((o ∷ (a ++ (b ++ c))) ++ (d ++ e)) ++ w ∷ []
body_list a b c d e o w = simp append_assoc

pub body_words : (r : Rule) → rule_words r ≡ body_of r ++ word_of Ends ∷ []
body_words r = body_list (link_words r.needs) (bans_words r.bans) (need_words r.struck_needs) (thing_words r.struck_things) (makes_words r.makes) (word_of (Opens r.variables)) (word_of Ends)

kinds_makes : (n : ℕ) (m : Option Making) → n ≤ 6 → FormedMaking n m → Kinds 1 8 (makes_words m)
kinds_makes n None h v = tt
kinds_makes n (Some m) h v =
    let k = leb-true m.things 4 v.0 in (
      in_kind 1 8 8 (word_of (Makes m.things)) (kind_of_word (Makes m.things) (omega arith)) (omega arith) (omega arith),
      kinds_wider 2 3 1 8 (link_words m.links) (omega arith) (omega arith) (kinds_links (n + m.things) m.links (omega arith) v.2.ranges),
    )

pub body_kinds : (r : Rule) → FormedRule r → Kinds 1 8 (body_of r)
body_kinds r v =
    let s = six r.variables v.variables in
    kinds_join 1 8 (front_of r) (thing_words r.struck_things ++ makes_words r.makes) (front_kinds r v 8 (omega arith))
    (kinds_join 1 8 (thing_words r.struck_things) (makes_words r.makes) (kinds_wider 7 7 1 8 (thing_words r.struck_things) (omega arith) (omega arith) (kinds_things r.variables r.struck_things (omega arith) v.struck_things)) (kinds_makes r.variables r.makes s.1 v.makes))

-- a rule ends with its last word
rule_ends : (ws : List ℕ) (at : ℕ) (r : Rule) (rest : List ℕ) → FormedRule r → drop at ws ≡ rule_words r ++ rest → rule_end ws at ≡ at + length (rule_words r)
rule_ends ws at r rest v e =
    let d : drop at ws ≡ body_of r ++ (word_of Ends ∷ rest) = e ∙ ap (λ z. z ++ rest) (body_words r) ∙ append_assoc (body_of r) (word_of Ends ∷ []) rest in
    let x : end_of 1 8 ws at ≡ at + length (body_of r) = end_at 1 8 ws at (body_of r) (word_of Ends ∷ rest) d (body_kinds r v) (omega arith) in
    let l : length ws - at ≡ length (body_of r) + length (word_of Ends ∷ rest) = sym (length-drop at ws) ∙ ap length d ∙ length-append (body_of r) (word_of Ends ∷ rest) in
    let w : length (rule_words r) ≡ length (body_of r) + 1 = ap length (body_words r) ∙ length-append (body_of r) (word_of Ends ∷ []) in
    let t : ltb (end_of 1 8 ws at) (length ws) ≡ true = lt-ltb (end_of 1 8 ws at) (length ws) (omega arith) in
    ap (λ b. cond b (end_of 1 8 ws at + 1) (end_of 1 8 ws at)) t ∙ (let g : end_of 1 8 ws at + 1 ≡ at + length (rule_words r) = omega arith in g)

no_rule : (ws : List ℕ) (at : ℕ) → drop at ws ≡ [] → at ≤ length ws → rule_end ws at ≡ at
no_rule ws at e h =
    let p = past ws at e in
    let x : end_of 1 8 ws at ≡ at = ap (λ z. at + span 1 8 z) e ∙ omega arith in
    let t : ltb (end_of 1 8 ws at) (length ws) ≡ false = le-ltb (end_of 1 8 ws at) (length ws) (omega arith) in
    ap (λ b. cond b (end_of 1 8 ws at + 1) (end_of 1 8 ws at)) t ∙ x

pub rule_first : (ws : List ℕ) (rs : List Rule) → ws ≡ encode rs → RuleStart ws rs 0 0
rule_first ws rs e = (refl, e)

abbrev Fine : Rule → List Rule → Type 0
Fine r rs = FormedRule r

fines : (rs : List Rule) → AllByRecursion FormedRule rs → Suffixes Fine rs
fines [] v = tt
fines (r ∷ rs) v = (v.0, fines rs v.1)

module _ (ws : List ℕ) (rs : List Rule) (f : AllByRecursion FormedRule rs) (k at : ℕ) (p : RuleStart ws rs k at) (h : at ≤ length ws) where
  reached : Reached rule_words encode refl (λ _ _. refl) ws [] 0 rs k at
  reached = record { place = let q = p.0 in omega arith; rest = p.1 ∙ sym (append-nil (encode (drop k rs))) }

  element : (x : Rule) (ys : List Rule) → drop k rs ≡ x ∷ ys → drop at ws ≡ rule_words x ++ (encode ys ++ [])
  element x ys e = reached_element rule_words encode refl (λ _ _. refl) ws [] 0 rs k at at reached x ys e

  pub rule_more : (next : ℕ) → next ≡ rule_end ws at → RuleStart ws rs (k + 1) next
  rule_more next n =
      let q = reached_more rule_words encode refl (λ _ _. refl) ws [] 0 rs k at next reached
      (λ x ys e. n ∙ rule_ends ws at x (encode ys ++ []) (suffix_at Fine rs k x ys (fines rs f) e) (element x ys e))
      (λ e. n ∙ no_rule ws at (p.1 ∙ ap encode e) h) in
      (let z = q.place in omega arith, q.rest ∙ append-nil (encode (drop (k + 1) rs)))

  handed_cases : (end : ℕ) (q : RuleRun) (l : List Rule) → drop k rs ≡ l → k < length rs → length ws ≤ 1024 → end ≡ rule_end ws at → q.place ≡ at → q.words.now ≡ take (end - at) (drop at ws) → RuleIs (length (encode (take k rs))) l (Some q)
  handed_cases end q [] e b i n a w = let z = past rs k e in absurd (omega arith)
  handed_cases end q (x ∷ ys) e b i n a w =
      let v = suffix_at Fine rs k x ys (fines rs f) e in
      let d = element x ys e in
      let t : q.words.now ≡ rule_words x = w ∙ run_at ws at end (rule_words x) (encode ys ++ []) d (n ∙ rule_ends ws at x (encode ys ++ []) v d) in
      let l : length ws - at ≡ length (rule_words x) + length (encode ys ++ []) = sym (length-drop at ws) ∙ ap length d ∙ length-append (rule_words x) (encode ys ++ []) in
      let m : length q.words.now ≡ length (rule_words x) = ap length t in
      (a ∙ p.0, record { formed = v; written = t; inside = omega arith })

  pub rule_handed : (end : ℕ) (q : RuleRun) → k < length rs → length ws ≤ 1024 → end ≡ rule_end ws at → q.place ≡ at → q.words.now ≡ take (end - at) (drop at ws) → RuleIs (length (encode (take k rs))) (drop k rs) (Some q)
  rule_handed end q b i n a w = handed_cases end q (drop k rs) refl b i n a w

pub no_rule_left : (rs : List Rule) (i place : ℕ) → length rs ≤ i → RuleIs place (drop i rs) None
no_rule_left rs i place h = subst (λ z. RuleIs place z None) (sym (drop_all i rs h)) tt

-- the rule that a set hands out by its number
abbrev pub RuleHanded : RuleSet → ℕ → Option RuleRun → Type 0
RuleHanded s i o = (rs : List Rule) → SetHere s rs → RuleIs (length (encode (take i rs))) (drop i rs) o

-- the second pass over the rules
abbrev pub FaultsFrom : List Rule → ℕ → Type 0
FaultsFrom rs i = passed (second_fault i (length (encode (take i rs))) (drop i rs)) ≡ passed (second_fault 0 0 rs)

module _ (rs : List Rule) (i : ℕ) (v : FaultsFrom rs i) where
  abbrev at : ℕ
  at = length (encode (take i rs))

  end_cases : (l : List Rule) → drop i rs ≡ l → RuleIs at l None → Ok tt ≡ passed (second_fault 0 0 rs)
  end_cases [] e b = sym (ap (λ z. passed (second_fault i at z)) e) ∙ v
  end_cases (x ∷ xs) e b = absurd b

  pub faults_end : RuleIs at (drop i rs) None → Ok tt ≡ passed (second_fault 0 0 rs)
  faults_end b = end_cases (drop i rs) refl b

  pub faults_all : length rs ≤ i → Ok tt ≡ passed (second_fault 0 0 rs)
  faults_all h = sym (ap (λ z. passed (second_fault i at z)) (drop_all i rs h)) ∙ v

  -- what the check of one rule answers
  module _ (q : RuleRun) (o : Result (Unit {0}) PlacedFault) (f : (r : Rule) → RuleHere q.place q.words.now r → o ≡ passed (first_mark q.place (rule_marks r))) where
    abbrev one : Rule → Option PlacedFault
    one r = first_mark q.place (rule_marks r)

    abbrev others : Rule → List Rule → Option SetFault
    others r xs = second_fault (i + 1) (at + length (rule_words r)) xs

    here : (r : Rule) (xs : List Rule) → drop i rs ≡ r ∷ xs → q.place ≡ at → passed (second_fault 0 0 rs) ≡ passed (or_else (in_rule i (one r)) (others r xs))
    here r xs e h = sym v ∙ ap passed (ap (second_fault i at) e ∙ ap (λ z. or_else (in_rule i (first_mark z (rule_marks r))) (others r xs)) (sym h))

    hit_cases : (x : PlacedFault) (l : List Rule) → drop i rs ≡ l → RuleIs at l (Some q) → o ≡ Err x → Err (fault_in i x) ≡ passed (second_fault 0 0 rs)
    hit_cases x [] e b u = absurd b
    hit_cases x (r ∷ xs) e h u = sym (here r xs e h.0 ∙ passed_first (in_rule i (one r)) (others r xs) (fault_in i x) (passed_first_in i (one r) x (sym (f r h.1) ∙ u)))

    pub faults_hit : (x : PlacedFault) → RuleIs at (drop i rs) (Some q) → o ≡ Err x → Err (fault_in i x) ≡ passed (second_fault 0 0 rs)
    faults_hit x b u = hit_cases x (drop i rs) refl b u

    miss_cases : (l : List Rule) → drop i rs ≡ l → RuleIs at l (Some q) → o ≡ Ok tt → FaultsFrom rs (i + 1)
    miss_cases [] e b u = absurd b
    miss_cases (r ∷ xs) e h u =
        let s = split rs i r xs e in
        let g : length (encode (take (i + 1) rs)) ≡ at + length (rule_words r) = ap (λ z. length (encode z)) s.before ∙ ap length (joined_push rule_words encode refl (λ _ _. refl) (take i rs) r) ∙ length-append (encode (take i rs)) (rule_words r) in
        ap (λ z. passed (second_fault (i + 1) z (drop (i + 1) rs))) g ∙ ap (λ z. passed (second_fault (i + 1) (at + length (rule_words r)) z)) s.after
        ∙ sym (here r xs e h.0 ∙ passed_next (in_rule i (one r)) (others r xs) (passed_next_in i (one r) (sym (f r h.1) ∙ u)))

    pub faults_miss : RuleIs at (drop i rs) (Some q) → o ≡ Ok tt → FaultsFrom rs (i + 1)
    faults_miss b u = miss_cases (drop i rs) refl b u
