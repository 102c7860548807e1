-- the rule of a fault is the number of rules that end before its place
use Rattle.std.proofs.Common.{◌≡◌, ℕ, ◌+◌, ◌-◌, ◌/◌, ◌<◌, ◌≤◌, true, cond, eqb, leb, List, [], ◌∷◌, ◌++◌, length, take, Some, None, Ok, Err, Option, Result, sym, refl, ap, ◌∙◌, append_assoc, arith, length-append}
use lib.Seq.{take-append-add}
use Rattle.std.proofs.lemmas.List.{length_push, length-map, take_at, take-append-le}
use Rattle.std.proofs.ByRecursion.{All-take}
use Rattle.std.proofs.lemmas.Bool.{and_parts, leb-true, ne_eqb, le-ltb}
use Rattle.std.specs.List.{AllByRecursion}
use Rattle.words.specs.declared.items.Item.{Item}
use Rattle.words.specs.declared.items.Item.TheVariants.{Opens, Link, Bans, Shares, StrikesNeed, StrikesThing, Makes, Ends}
use Rattle.words.specs.declared.items.Target.{Target}
use Rattle.words.specs.declared.items.Target.TheVariants.{Variable, Mark}
use Rattle.words.specs.declared.faults.RuleFault.{RuleFault}
use Rattle.words.specs.declared.faults.RuleFault.TheVariants.{MadeAtStruck}
use Rattle.words.specs.declared.faults.Cause.{Cause}
use Rattle.words.specs.declared.faults.Cause.TheVariants.{TooManyWords}
use Rattle.words.specs.declared.steps.State.{State}
use Rattle.words.specs.Words.{word_of, target_kind}
use Rattle.words.specs.Steps.{next_of}
use Rattle.words.proofs.Coding.{kind_of, item_kind}
use Rattle.rules.specs.declared.faults.SetFault.{SetFault}
use Rattle.rules.specs.declared.faults.PlacedFault.{PlacedFault}
use Rattle.rules.specs.Rules.{Making, Rule, Partial, outside, in_needs, in_shares, in_links, in_struck_needs, in_struck_things, in_makes, numbers, read_of, fault_at, ended, go_on, run, scanned, encode, rule_words, link_words, bans_words, need_words, thing_words, makes_words}
use Rattle.rules.specs.Formed.{FormedRule}
use Rattle.rules.specs.Runs.{within}
use Rattle.rules.specs.Anchors.{touches}
use Rattle.rules.specs.Marks.{fault_if, or_else, first_mark, bans_marks, makes_marks, unmarked, rule_marks, fault_in, in_rule, second_fault, unless_fault, settled}
use Rattle.rules.specs.Reading.{reading_of, ends}
use Rattle.rules.proofs.Readings.{numbers_grown}
use Rattle.rules.proofs.Sound.{read_some_item, scanned_encode}
use Rattle.rules.proofs.Keeping.{scanned_valid}
use Rattle.rules.proofs.Spans.{Kinds}
use Rattle.rules.proofs.RuleMarks.{bans_marks_length}
use Rattle.rules.proofs.SetRuns.{body_of, body_words, body_kinds}

ends_append : (a b : List ℕ) → ends (a ++ b) ≡ ends a + ends b
ends_append [] b = omega arith
ends_append (w ∷ a) b = let k = ends_append a b in omega arith

-- one word
link_no_end : (t : Target) → ◌≡◌ {A = ℕ} (cond (eqb (target_kind t / 268435456) 9) 1 0) 0
link_no_end (Variable v) = refl
link_no_end (Mark m) = refl

counted_next : (s : State) (i : Item) → (next_of s i).rules ≡ s.rules + cond (eqb (kind_of i) 9) 1 0
counted_next s (Opens n) = omega arith
counted_next s (Link l) = let e = link_no_end l.target in omega arith
counted_next s (Bans n) = omega arith
counted_next s (Shares x) = omega arith
counted_next s (StrikesNeed n) = omega arith
counted_next s (StrikesThing n) = omega arith
counted_next s (Makes n) = omega arith
counted_next s Ends = omega arith

read_ends : (p : Partial) (w : ℕ) (q : Partial) → read_of p w ≡ Ok q → (numbers q).rules ≡ (numbers p).rules + cond (eqb (w / 268435456) 9) 1 0
read_ends p w q h =
    let r = read_some_item p w q h in
    ap (λ z. (numbers z).rules) (sym r.1.grows) ∙ ap (λ z. z.rules) (numbers_grown p r.0 r.1.may) ∙ counted_next (numbers p) r.0
    ∙ ap (λ k. (numbers p).rules + cond (eqb k 9) 1 0) (sym (item_kind w r.0 r.1.item))

-- the first pass
at_end : (pre ws : List ℕ) (p : Partial) (c : Cause) (f : SetFault) → f ≡ fault_at (length pre) p c → (numbers p).rules ≡ ends pre → f.rule ≡ ends (take f.place (pre ++ ws))
at_end pre ws p c f e n =
    ap (λ z. z.rule) e ∙ n ∙ ap ends (sym (take_at pre ws (length pre) refl)) ∙ ap (λ z. ends (take z.place (pre ++ ws))) (sym e)

err_same : {X : Type 0} (f g : SetFault) → ◌≡◌ {A = Result X SetFault} (Err f) (Err g) → g ≡ f
err_same f g e = cc

ended_rule : (pre : List ℕ) (p : Partial) (f : SetFault) → ended (length pre) p ≡ Err f → (numbers p).rules ≡ ends pre → f.rule ≡ ends (take f.place (pre ++ []))
ended_rule pre (outside rs) f e n = let z : ◌≡◌ {A = ℕ} 0 1 = cc in absurd (omega arith)
ended_rule pre (in_needs rs k ls) f e n = at_end pre [] (in_needs rs k ls) _ f (err_same _ f e) n
ended_rule pre (in_shares h m ss) f e n = at_end pre [] (in_shares h m ss) _ f (err_same _ f e) n
ended_rule pre (in_links h m ss ls) f e n = at_end pre [] (in_links h m ss ls) _ f (err_same _ f e) n
ended_rule pre (in_struck_needs h sn) f e n = at_end pre [] (in_struck_needs h sn) _ f (err_same _ f e) n
ended_rule pre (in_struck_things h sn st) f e n = at_end pre [] (in_struck_things h sn st) _ f (err_same _ f e) n
ended_rule pre (in_makes h sn st k ls) f e n = at_end pre [] (in_makes h sn st k ls) _ f (err_same _ f e) n

step_rule : (w : ℕ) (ws pre : List ℕ) (at : ℕ) (p : Partial) (f : SetFault) (x : Result Partial Cause) → at ≡ length pre → read_of p w ≡ x → go_on at p (λ q. run (at + 1) q ws) x ≡ Err f → (numbers p).rules ≡ ends pre → ((before : List ℕ) (n : ℕ) (q : Partial) → n ≡ length before → run n q ws ≡ Err f → (numbers q).rules ≡ ends before → f.rule ≡ ends (take f.place (before ++ ws))) → f.rule ≡ ends (take f.place (pre ++ w ∷ ws))
step_rule w ws pre at p f (Err c) a r e n k = at_end pre (w ∷ ws) p c f (err_same _ f e ∙ ap (λ z. fault_at z p c) a) n
step_rule w ws pre at p f (Ok q) a r e n k =
    let g : (numbers q).rules ≡ ends (pre ++ w ∷ []) = let y = read_ends p w q r in let l = ends_append pre (w ∷ []) in omega arith in
    k (pre ++ w ∷ []) (at + 1) q (let l = length_push pre w in omega arith) e g ∙ ap (λ z. ends (take f.place z)) (append_assoc pre (w ∷ []) ws)

run_rule : (ws pre : List ℕ) (at : ℕ) (p : Partial) (f : SetFault) → at ≡ length pre → run at p ws ≡ Err f → (numbers p).rules ≡ ends pre → f.rule ≡ ends (take f.place (pre ++ ws))
run_rule [] pre at p f a e n = ended_rule pre p f (ap (λ z. ended z p) (sym a) ∙ e) n
run_rule (w ∷ ws) pre at p f a e n = step_rule w ws pre at p f (read_of p w) a refl e n (λ before m q. run_rule ws before m q f)

-- the second pass
not_nine : (w : ℕ) → within 1 8 w ≡ true → ◌≡◌ {A = ℕ} (cond (eqb (w / 268435456) 9) 1 0) 0
not_nine w h =
    let p = and_parts (leb 1 (w / 268435456)) (leb (w / 268435456) 8) h in
    let q = leb-true (w / 268435456) 8 p.1 in
    ap {B = ℕ} (λ b. cond b 1 0) (ne_eqb (w / 268435456) 9 (λ e. omega arith))

no_ends : (ws : List ℕ) → Kinds 1 8 ws → ends ws ≡ 0
no_ends [] k = refl
no_ends (w ∷ ws) k = let a = not_nine w k.0 in let b = no_ends ws k.1 in omega arith

rule_ends_one : (r : Rule) → FormedRule r → ends (rule_words r) ≡ 1
rule_ends_one r v =
    let a = ends_append (body_of r) (word_of Ends ∷ []) in
    let b = no_ends (body_of r) (body_kinds r v) in
    let c : ends (rule_words r) ≡ ends (body_of r ++ word_of Ends ∷ []) = ap ends (body_words r) in
    let d : ends (word_of Ends ∷ []) ≡ 1 = omega arith in
    omega arith

first_bounds : (p : ℕ) (ms : List (Option RuleFault)) (x : PlacedFault) → first_mark p ms ≡ Some x → (p ≤ x.place) × (x.place < p + length ms)
first_bounds p [] x e = let z : ◌≡◌ {A = ℕ} 0 1 = cc in absurd (omega arith)
first_bounds p (None ∷ ms) x e = let k = first_bounds (p + 1) ms x e in (omega arith, omega arith)
first_bounds p (Some f ∷ ms) x e = let q : p ≡ x.place = cc in (omega arith, omega arith)

unmarked_length : {X : Type 0} (xs : List X) → length (unmarked xs) ≡ length xs
unmarked_length [] = refl
unmarked_length (x ∷ xs) = let k = unmarked_length xs in omega arith

makes_marks_length : (st : List ℕ) (m : Option Making) → length (makes_marks st m) ≡ length (makes_words m)
makes_marks_length st None = refl
makes_marks_length st (Some m) = let a = length-map m.links (λ l. word_of (Link l)) in let b = length-map m.links (λ l. fault_if (touches st l) MadeAtStruck) in omega arith

rule_marks_length : (r : Rule) → length (rule_marks r) ≡ length (rule_words r)
rule_marks_length r =
    let m3 = makes_marks r.struck_things r.makes ++ None ∷ [] in
    let w3 = makes_words r.makes ++ word_of Ends ∷ [] in
    let a1 = length-append (unmarked r.needs) (bans_marks r.bans ++ (unmarked r.struck_needs ++ (unmarked r.struck_things ++ m3))) in
    let a2 = length-append (bans_marks r.bans) (unmarked r.struck_needs ++ (unmarked r.struck_things ++ m3)) in
    let a3 = length-append (unmarked r.struck_needs) (unmarked r.struck_things ++ m3) in
    let a4 = length-append (unmarked r.struck_things) m3 in
    let a5 = length-append (makes_marks r.struck_things r.makes) (None ∷ []) in
    let b1 = length-append (link_words r.needs) (bans_words r.bans ++ (need_words r.struck_needs ++ (thing_words r.struck_things ++ w3))) in
    let b2 = length-append (bans_words r.bans) (need_words r.struck_needs ++ (thing_words r.struck_things ++ w3)) in
    let b3 = length-append (need_words r.struck_needs) (thing_words r.struck_things ++ w3) in
    let b4 = length-append (thing_words r.struck_things) w3 in
    let b5 = length-append (makes_words r.makes) (word_of Ends ∷ []) in
    let c1 = unmarked_length r.needs in
    let c2 = unmarked_length r.struck_needs in
    let c3 = unmarked_length r.struck_things in
    let c4 = bans_marks_length r.bans in
    let c5 = makes_marks_length r.struck_things r.makes in
    let d1 = length-map r.needs (λ l. word_of (Link l)) in
    let d2 = length-map r.struck_needs (λ k. word_of (StrikesNeed k)) in
    let d3 = length-map r.struck_things (λ k. word_of (StrikesThing k)) in
    omega arith

inside_rule : (pre rest : List ℕ) (r : Rule) (at : ℕ) → FormedRule r → length pre ≤ at → at < length pre + length (rule_words r) → ends (take at (pre ++ (rule_words r ++ rest))) ≡ ends pre
inside_rule pre rest r at v lo hi =
    let j = at - length pre in
    let q : at ≡ length pre + j = omega arith in
    let l : length (rule_words r) ≡ length (body_of r) + 1 = ap length (body_words r) ∙ length-append (body_of r) (word_of Ends ∷ []) in
    let b : j ≤ length (body_of r) = omega arith in
    let w : rule_words r ++ rest ≡ body_of r ++ (word_of Ends ∷ rest) = ap (λ z. z ++ rest) (body_words r) ∙ append_assoc (body_of r) (word_of Ends ∷ []) rest in
    let t : take j (rule_words r ++ rest) ≡ take j (body_of r) = ap (take j) w ∙ take-append-le j (body_of r) (word_of Ends ∷ rest) b in
    let z : ends (take j (body_of r)) ≡ 0 = no_ends (take j (body_of r)) (All-take (λ w. within 1 8 w ≡ true) j (body_of r) (body_kinds r v)) in
    let s = ends_append pre (take j (rule_words r ++ rest)) in
    let u : ends (take j (rule_words r ++ rest)) ≡ 0 = ap ends t ∙ z in
    let x : ends (take at (pre ++ (rule_words r ++ rest))) ≡ ends (pre ++ take j (rule_words r ++ rest)) = ap (λ n. ends (take n (pre ++ (rule_words r ++ rest)))) q ∙ ap ends (take-append-add pre (rule_words r ++ rest) j) in
    omega arith

second_step : (r : Rule) (rs : List Rule) (pre : List ℕ) (n at : ℕ) (f : SetFault) (o : Option PlacedFault) → FormedRule r → at ≡ length pre → n ≡ ends pre → first_mark at (rule_marks r) ≡ o → or_else (in_rule n o) (second_fault (n + 1) (at + length (rule_words r)) rs) ≡ Some f → ((before : List ℕ) (m a : ℕ) → a ≡ length before → m ≡ ends before → second_fault m a rs ≡ Some f → f.rule ≡ ends (take f.place (before ++ encode rs))) → f.rule ≡ ends (take f.place (pre ++ (rule_words r ++ encode rs)))
second_step r rs pre n at f (Some x) v a e m s k =
    let b = first_bounds at (rule_marks r) x m in
    let l = rule_marks_length r in
    let g : fault_in n x ≡ f = cc in
    let i = inside_rule pre (encode rs) r x.place v (omega arith) (omega arith) in
    ap (λ z. z.rule) (sym g) ∙ e ∙ sym i ∙ ap (λ z. ends (take z.place (pre ++ (rule_words r ++ encode rs)))) g
second_step r rs pre n at f None v a e m s k =
    let w = pre ++ rule_words r in
    let l : at + length (rule_words r) ≡ length w = let z = length-append pre (rule_words r) in omega arith in
    let g : n + 1 ≡ ends w = let z = ends_append pre (rule_words r) in let y = rule_ends_one r v in omega arith in
    k w (n + 1) (at + length (rule_words r)) l g s ∙ ap (λ z. ends (take f.place z)) (append_assoc pre (rule_words r) (encode rs))

second_rule : (rs : List Rule) (pre : List ℕ) (n at : ℕ) (f : SetFault) → AllByRecursion FormedRule rs → at ≡ length pre → n ≡ ends pre → second_fault n at rs ≡ Some f → f.rule ≡ ends (take f.place (pre ++ encode rs))
second_rule [] pre n at f v a e s = let z : ◌≡◌ {A = ℕ} 0 1 = cc in absurd (omega arith)
second_rule (r ∷ rs) pre n at f v a e s = second_step r rs pre n at f (first_mark at (rule_marks r)) v.0 a e refl s (λ before m a. second_rule rs before m a f v.1)

faulted : (x : Option SetFault) (rs : List Rule) (f : SetFault) → unless_fault x rs ≡ Err f → x ≡ Some f
faulted None rs f e = let z : ◌≡◌ {A = ℕ} 0 1 = cc in absurd (omega arith)
faulted (Some g) rs f e = ap Some (sym (err_same _ f e))

settled_rule : (ws : List ℕ) (x : Result (List Rule) SetFault) (f : SetFault) → scanned ws ≡ x → settled x ≡ Err f → f.rule ≡ ends (take f.place ws)
settled_rule ws (Err g) f e s = run_rule ws [] 0 (outside []) f refl (e ∙ s) refl
settled_rule ws (Ok rs) f e s =
    let w = scanned_encode ws rs e in
    second_rule rs [] 0 0 f (scanned_valid ws rs e).each refl refl (faulted (second_fault 0 0 rs) rs f s) ∙ ap (λ z. ends (take f.place z)) (sym w)

pub rule_told : (ws : List ℕ) (f : SetFault) → length ws ≤ 1024 → reading_of ws ≡ Err f → f.rule ≡ ends (take f.place ws)
rule_told ws f h e =
    let q : reading_of ws ≡ settled (scanned ws) = ap (λ b. cond b (Err (record { place = 1024; rule = 0; cause = TooManyWords })) (settled (scanned ws))) (le-ltb 1024 (length ws) h) in
    settled_rule ws (scanned ws) f refl (sym q ∙ e)
