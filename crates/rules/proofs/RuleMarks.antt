-- the marks of a rule, part by part
use Rattle.std.proofs.Common.{◌≡◌, ℕ, ◌+◌, ◌-◌, ◌/◌, ◌%◌, ◌^◌, ◌≤◌, min, Bool, true, false, cond, ◌&&◌, ltb, leb, List, [], ◌∷◌, ◌++◌, map, length, take, drop, Some, None, Ok, Err, Option, Result, sym, refl, ap, ◌∙◌, append_assoc, arith, length-append, length-drop}
use mathlib.Core.List.{map-append}
use Rattle.std.proofs.lemmas.List.{length-map, take_rest}
use Rattle.std.proofs.lemmas.Bool.{ltb-true, leb-true}
use Rattle.std.specs.List.{AllByRecursion}
use Rattle.words.specs.declared.items.PatternLink.{PatternLink}
use Rattle.words.specs.declared.items.Target.{Target}
use Rattle.words.specs.declared.items.Target.TheVariants.{Mark}
use Rattle.words.specs.declared.items.Share.{Share}
use Rattle.words.specs.declared.items.Item.TheVariants.{Opens, Link, Shares, StrikesNeed, StrikesThing, Makes, Ends}
use Rattle.words.specs.declared.faults.RuleFault.{RuleFault}
use Rattle.words.specs.declared.faults.RuleFault.TheVariants.{Unanchored, SharesNothing, LinksShared, MadeAtStruck}
use Rattle.words.specs.Words.{word_of, link_of, share_of}
use Rattle.words.proofs.Coding.{kind_of_word}
use Rattle.rules.specs.declared.faults.PlacedFault.{PlacedFault}
use Rattle.rules.specs.Rules.{Ban, Making, Rule, link_words, share_words, ban_words, bans_words, need_words, thing_words, makes_words}
use Rattle.rules.specs.Formed.{FormedMaking, FormedRule}
use Rattle.rules.specs.Anchors.{some, anchored, is_shared, aims, joins_shared, touches}
use Rattle.rules.specs.Runs.{end_of}
use Rattle.rules.specs.Parts.{RuleHere, BanHere}
use Rattle.rules.specs.Marks.{fault_if, or_else, placed, first_mark, passed, share_marks, link_marks, ban_marks, bans_marks, makes_marks, unmarked, rule_marks, last_marks, last_place, low_of, made_mark}
use Rattle.rules.proofs.Complete.{six}
use Rattle.rules.proofs.Spans.{Kinds, in_kind}
use Rattle.rules.proofs.Marking.{passed_first, passed_next}
use Rattle.rules.proofs.WordKinds.{kinds_links, kinds_needs, kinds_things, kinds_bans, kinds_wider, kinds_join, links_back, shares_back, starts_makes, starts_things, past_at, end_at, run_at}

-- the first of the first, else the first of the second
pub first_append : (place : ℕ) (a b : List (Option RuleFault)) → first_mark place (a ++ b) ≡ or_else (first_mark place a) (first_mark (place + length a) b)
first_append place [] b = ap (λ z. first_mark z b) (omega arith)
first_append place (None ∷ ms) b = first_append (place + 1) ms b ∙ ap (λ z. or_else (first_mark (place + 1) ms) (first_mark z b)) (omega arith)
first_append place (Some f ∷ ms) b = refl

first_unmarked : {X : Type 0} (place : ℕ) (xs : List X) (b : List (Option RuleFault)) → first_mark place (unmarked xs ++ b) ≡ first_mark (place + length xs) b
first_unmarked place [] b = ap (λ z. first_mark z b) (omega arith)
first_unmarked place (x ∷ xs) b = first_unmarked (place + 1) xs b ∙ ap (λ z. first_mark z b) (omega arith)

share_marks_length : (before ss : List Share) → length (share_marks before ss) ≡ length ss
share_marks_length before [] = refl
share_marks_length before (s ∷ ss) = let k = share_marks_length (before ++ s ∷ []) ss in omega arith

pub ban_marks_length : (b : Ban) → length (ban_marks b) ≡ length (ban_words b)
ban_marks_length b =
    let a = length-append (share_marks [] b.shares) (link_marks b.shares b.links) in
    let c = length-append (share_words b.shares) (link_words b.links) in
    let d = share_marks_length [] b.shares in
    let e = length-map b.shares (λ s. word_of (Shares s)) in
    let f = length-map b.links (λ l. word_of (Link l)) in
    let g = length-map b.links (λ l. fault_if (joins_shared b.shares l) LinksShared) in
    omega arith

pub bans_marks_length : (bs : List Ban) → length (bans_marks bs) ≡ length (bans_words bs)
bans_marks_length [] = refl
bans_marks_length (b ∷ bs) =
    let a = length-append (ban_marks b) (bans_marks bs) in
    let c = length-append (ban_words b) (bans_words bs) in
    let d = ban_marks_length b in
    let e = bans_marks_length bs in
    omega arith

-- one ban
module _ (place : ℕ) (ws : List ℕ) (n : ℕ) (b : Ban) (h : BanHere place ws n b) (v : ℕ) (ss ls : List ℕ) (vs : v ≡ b.variables) (sw : ss ≡ share_words b.shares) (lw : ls ≡ link_words b.links) where
  shares_read : map share_of ss ≡ b.shares
  shares_read = ap (map share_of) sw ∙ shares_back n b.shares (let z = h.few in omega arith) h.formed.shares

  links_read : map link_of ls ≡ b.links
  links_read = ap (map link_of) lw ∙ links_back b.variables b.links (omega (arith, six b.variables h.formed.variables)) h.formed.links.ranges

  anchored_read : anchored v (map link_of ls) ≡ anchored b.variables b.links
  anchored_read = ap (λ z. anchored z (map link_of ls)) vs ∙ ap (anchored b.variables) links_read

  abbrev rest : Option PlacedFault
  rest = first_mark (place + 1) (share_marks [] b.shares ++ link_marks b.shares b.links)

  abbrev opening : Bool → Bool → Option PlacedFault
  opening x y = or_else (placed place (cond x (cond y None (Some SharesNothing)) (Some Unanchored))) rest

  pub ban_unanchored : anchored v (map link_of ls) ≡ false → Some (record { place = place; fault = Unanchored }) ≡ first_mark place (ban_marks b)
  ban_unanchored e = sym (ap (λ z. opening z (some is_shared b.shares)) (sym anchored_read ∙ e))

  pub ban_unshared : anchored v (map link_of ls) ≡ true → some is_shared (map share_of ss) ≡ false → Some (record { place = place; fault = SharesNothing }) ≡ first_mark place (ban_marks b)
  ban_unshared e f = sym (ap (λ z. opening z (some is_shared b.shares)) (sym anchored_read ∙ e) ∙ ap (opening true) (ap (some is_shared) (sym shares_read) ∙ f))

  module _ (e : anchored v (map link_of ls) ≡ true) (f : some is_shared (map share_of ss) ≡ true) (sp lp : ℕ) (ps : sp ≡ place + 1) (pl : lp ≡ place + 1 + length b.shares) where
    ban_rest : first_mark place (ban_marks b) ≡ or_else (first_mark sp (share_marks [] (map share_of ss))) (first_mark lp (link_marks (map share_of ss) (map link_of ls)))
    ban_rest =
        let q : place + 1 + length (share_marks [] b.shares) ≡ lp = let z = share_marks_length [] b.shares in omega arith in
        ap (λ z. opening z (some is_shared b.shares)) (sym anchored_read ∙ e) ∙ ap (opening true) (ap (some is_shared) (sym shares_read) ∙ f)
        ∙ first_append (place + 1) (share_marks [] b.shares) (link_marks b.shares b.links)
        ∙ ap (λ z. or_else (first_mark (place + 1) (share_marks [] b.shares)) (first_mark z (link_marks b.shares b.links))) q
        ∙ ap (λ z. or_else (first_mark z (share_marks [] b.shares)) (first_mark lp (link_marks b.shares b.links))) (sym ps)
        ∙ ap (λ z. or_else (first_mark sp (share_marks [] z)) (first_mark lp (link_marks z b.links))) (sym shares_read)
        ∙ ap (λ z. or_else (first_mark sp (share_marks [] (map share_of ss))) (first_mark lp (link_marks (map share_of ss) z))) (sym links_read)

    size : (sp + length ss ≤ 1024) × (lp + length ls ≤ 1024)
    size =
        let i = h.inside in
        let a : length ws ≡ length (ban_words b) = ap length h.written in
        let c = length-append (share_words b.shares) (link_words b.links) in
        let d = length-map b.shares (λ s. word_of (Shares s)) in
        let g = length-map b.links (λ l. word_of (Link l)) in
        let x : length ss ≡ length (share_words b.shares) = ap length sw in
        let y : length ls ≡ length (link_words b.links) = ap length lw in
        (omega arith, omega arith)

    pub ban_found : (o : Result (Unit {0}) PlacedFault) (x : PlacedFault) → (sp + length ss ≤ 1024 → o ≡ passed (first_mark sp (share_marks [] (map share_of ss)))) → o ≡ Err x → Err x ≡ passed (first_mark place (ban_marks b))
    ban_found o x g u = sym (ap passed ban_rest ∙ passed_first (first_mark sp (share_marks [] (map share_of ss))) (first_mark lp (link_marks (map share_of ss) (map link_of ls))) x (sym (g size.0) ∙ u))

    pub ban_links : (o p : Result (Unit {0}) PlacedFault) → (sp + length ss ≤ 1024 → o ≡ passed (first_mark sp (share_marks [] (map share_of ss)))) → o ≡ Ok tt → (lp + length ls ≤ 1024 → p ≡ passed (first_mark lp (link_marks (map share_of ss) (map link_of ls)))) → p ≡ passed (first_mark place (ban_marks b))
    ban_links o p g u k = k size.1 ∙ sym (ap passed ban_rest ∙ passed_next (first_mark sp (share_marks [] (map share_of ss))) (first_mark lp (link_marks (map share_of ss) (map link_of ls))) (sym (g size.0) ∙ u))

-- the opening and the rest of a rule
module _ (place : ℕ) (ws : List ℕ) (r : Rule) (h : RuleHere place ws r) where
  pub needs_read : map link_of (link_words r.needs) ≡ r.needs
  needs_read = links_back r.variables r.needs (omega (arith, six r.variables h.formed.variables)) h.formed.needs.ranges

  module _ (v : ℕ) (ls : List ℕ) (vs : v ≡ r.variables) (lw : ls ≡ link_words r.needs) where
    rule_anchor : anchored v (map link_of ls) ≡ anchored r.variables r.needs
    rule_anchor = ap (λ z. anchored z (map link_of ls)) vs ∙ ap (anchored r.variables) (ap (map link_of) lw ∙ needs_read)

    abbrev later : List (Option RuleFault)
    later = unmarked r.needs ++ (bans_marks r.bans ++ (unmarked r.struck_needs ++ (unmarked r.struck_things ++ last_marks r)))

    pub rule_unanchored : anchored v (map link_of ls) ≡ false → Some (record { place = place; fault = Unanchored }) ≡ first_mark place (rule_marks r)
    rule_unanchored e = sym (ap (λ z. or_else (placed place (cond z None (Some Unanchored))) (first_mark (place + 1) later)) (sym rule_anchor ∙ e))

    rule_anchored : anchored v (map link_of ls) ≡ true → first_mark place (rule_marks r) ≡ or_else (first_mark (place + 1 + length r.needs) (bans_marks r.bans)) (first_mark (last_place place r) (last_marks r))
    rule_anchored e =
        let p = place + 1 + length r.needs in
        let q = p + length (bans_marks r.bans) in
        let b = bans_marks_length r.bans in
        let g : q + length r.struck_needs + length r.struck_things ≡ last_place place r = omega arith in
        ap (λ z. or_else (placed place (cond z None (Some Unanchored))) (first_mark (place + 1) later)) (sym rule_anchor ∙ e)
        ∙ first_unmarked (place + 1) r.needs (bans_marks r.bans ++ (unmarked r.struck_needs ++ (unmarked r.struck_things ++ last_marks r)))
        ∙ first_append p (bans_marks r.bans) (unmarked r.struck_needs ++ (unmarked r.struck_things ++ last_marks r))
        ∙ ap (or_else (first_mark p (bans_marks r.bans))) (first_unmarked q r.struck_needs (unmarked r.struck_things ++ last_marks r) ∙ first_unmarked (q + length r.struck_needs) r.struck_things (last_marks r) ∙ ap (λ z. first_mark z (last_marks r)) g)

    pub rule_found : (x : PlacedFault) → anchored v (map link_of ls) ≡ true → Err x ≡ passed (first_mark (place + 1 + length r.needs) (bans_marks r.bans)) → Err x ≡ passed (first_mark place (rule_marks r))
    rule_found x e g = sym (ap passed (rule_anchored e) ∙ passed_first (first_mark (place + 1 + length r.needs) (bans_marks r.bans)) (first_mark (last_place place r) (last_marks r)) x (sym g))

    pub rule_last : (o : Result (Unit {0}) PlacedFault) → anchored v (map link_of ls) ≡ true → Ok tt ≡ passed (first_mark (place + 1 + length r.needs) (bans_marks r.bans)) → o ≡ passed (first_mark (last_place place r) (last_marks r)) → o ≡ passed (first_mark place (rule_marks r))
    rule_last o e g k = k ∙ sym (ap passed (rule_anchored e) ∙ passed_next (first_mark (place + 1 + length r.needs) (bans_marks r.bans)) (first_mark (last_place place r) (last_marks r)) (sym g))

-- struck things and the last words
pub things_back : (n : ℕ) (st : List ℕ) → n ≤ 256 → AllByRecursion (λ k. ltb k n ≡ true) st → map low_of (thing_words st) ≡ st
things_back n [] h v = refl
things_back n (k ∷ ks) h v =
    let z = ltb-true k n v.0 in
    let e : (1879048192 + k) % 256 ≡ k = omega arith in
    ap (λ x. x ∷ map low_of (thing_words ks)) e ∙ ap (λ x. k ∷ x) (things_back n ks h v.1)

made_links : (st : List ℕ) (ls : List PatternLink) (ws : List ℕ) → Kinds 2 3 ws → map link_of ws ≡ ls → map (made_mark st) ws ≡ map (λ l. fault_if (touches st l) MadeAtStruck) ls
made_links st ls [] k e = ap (map (λ l. fault_if (touches st l) MadeAtStruck)) e
made_links st ls (w ∷ ws) k e =
    ap (λ b. fault_if (b && touches st (link_of w)) MadeAtStruck ∷ map (made_mark st) ws) k.0
    ∙ ap (λ z. fault_if (touches st (link_of w)) MadeAtStruck ∷ z) (made_links st (map link_of ws) ws k.1 refl)
    ∙ ap (map (λ l. fault_if (touches st l) MadeAtStruck)) e

not_link : (st : List ℕ) (w : ℕ) → w / 268435456 ≡ 8 → made_mark st w ≡ None
not_link st w e = ap (λ k. fault_if ((leb 2 k && leb k 3) && touches st (link_of w)) MadeAtStruck) e

last_words_marks : (n : ℕ) (st : List ℕ) (m : Option Making) → n ≤ 6 → FormedMaking n m → map (made_mark st) (makes_words m ++ word_of Ends ∷ []) ≡ makes_marks st m ++ None ∷ []
last_words_marks n st None h v = refl
last_words_marks n st (Some m) h v =
    let k = leb-true m.things 4 v.0 in
    let w = word_of (Makes m.things) in
    let us = link_words m.links in
    ap (λ z. z ∷ map (made_mark st) (us ++ word_of Ends ∷ [])) (not_link st w (kind_of_word (Makes m.things) (omega arith)))
    ∙ ap (λ z. None ∷ z) (map-append (made_mark st) us (word_of Ends ∷ []) ∙ ap (λ z. z ++ None ∷ []) (made_links st m.links us (kinds_links (n + m.things) m.links (omega arith) v.2.ranges) (links_back (n + m.things) m.links (omega arith) v.2.ranges)))

-- the words of a rule before its struck things
abbrev pub front_of : Rule → List ℕ
front_of r = word_of (Opens r.variables) ∷ (link_words r.needs ++ (bans_words r.bans ++ need_words r.struck_needs))

pub front_kinds : (r : Rule) → FormedRule r → (high : ℕ) → 6 ≤ high → Kinds 1 high (front_of r)
front_kinds r v high q =
    let s = six r.variables v.variables in
    let f = v.needs.few in (
      in_kind 1 high 1 (word_of (Opens r.variables)) (kind_of_word (Opens r.variables) (omega arith)) (omega arith) (omega arith),
      kinds_join 1 high (link_words r.needs) (bans_words r.bans ++ need_words r.struck_needs) (kinds_wider 2 3 1 high (link_words r.needs) (omega arith) (omega arith) (kinds_links r.variables r.needs (omega arith) v.needs.ranges))
          (kinds_join 1 high (bans_words r.bans) (need_words r.struck_needs) (kinds_wider 2 5 1 high (bans_words r.bans) (omega arith) (omega arith) (kinds_bans r.variables r.bans s.1 v.bans))
          (kinds_wider 6 6 1 high (need_words r.struck_needs) (omega arith) (omega arith) (kinds_needs (length r.needs) r.struck_needs (omega arith) v.struck_needs))),
    )

module _ (place : ℕ) (ws : List ℕ) (r : Rule) (h : RuleHere place ws r) where
  abbrev final : List ℕ
  final = makes_words r.makes ++ word_of Ends ∷ []

  split_things : (a b c d e : List ℕ) (o : ℕ) → o ∷ (a ++ (b ++ (c ++ (d ++ e)))) ≡ (o ∷ (a ++ (b ++ c))) ++ (d ++ e)
  split_things a b c d e o = simp append_assoc

  front_words : ws ≡ (front_of r) ++ (thing_words r.struck_things ++ final)
  front_words = h.written ∙ split_things (link_words r.needs) (bans_words r.bans) (need_words r.struck_needs) (thing_words r.struck_things) final (word_of (Opens r.variables))

  front_end : end_of 1 6 ws 0 ≡ length (front_of r)
  front_end =
      let s = six r.variables h.formed.variables in
      let e = end_at 1 6 ws 0 (front_of r) (thing_words r.struck_things ++ final) front_words (front_kinds r h.formed 6 (omega arith)) (starts_things r.variables s.1 r.struck_things r.makes h.formed.struck_things h.formed.makes) in
      omega arith

  pub things_found : (from end : ℕ) → from ≡ end_of 1 6 ws 0 → end ≡ end_of 7 7 ws from → take (end - from) (drop from ws) ≡ thing_words r.struck_things
  things_found from end f e =
      let s = six r.variables h.formed.variables in
      let a : from ≡ length (front_of r) = f ∙ front_end in
      let g : 0 + length (front_of r) ≡ from = omega arith in
      let d : drop from ws ≡ thing_words r.struck_things ++ final = ap (λ z. drop z ws) (sym g) ∙ past_at ws 0 (front_of r) (thing_words r.struck_things ++ final) front_words in
      run_at ws from end (thing_words r.struck_things) final d (e ∙ end_at 7 7 ws from (thing_words r.struck_things) final d (kinds_things r.variables r.struck_things (omega arith) h.formed.struck_things) (starts_makes r.variables s.1 r.makes h.formed.makes))

  last_words : ws ≡ ((front_of r) ++ thing_words r.struck_things) ++ final
  last_words = front_words ∙ sym (append_assoc (front_of r) (thing_words r.struck_things) final)

  last_end : (from : ℕ) → from ≡ end_of 1 7 ws 0 → from ≡ length ((front_of r) ++ thing_words r.struck_things)
  last_end from f =
      let s = six r.variables h.formed.variables in
      let e = end_at 1 7 ws 0 ((front_of r) ++ thing_words r.struck_things) final last_words (kinds_join 1 7 (front_of r) (thing_words r.struck_things) (front_kinds r h.formed 7 (omega arith)) (kinds_wider 7 7 1 7 (thing_words r.struck_things) (omega arith) (omega arith) (kinds_things r.variables r.struck_things (omega arith) h.formed.struck_things))) (starts_makes r.variables s.1 r.makes h.formed.makes) in
      omega arith

  last_length : length ((front_of r) ++ thing_words r.struck_things) ≡ 1 + length r.needs + length (bans_words r.bans) + length r.struck_needs + length r.struck_things
  last_length =
      let a = length-append (front_of r) (thing_words r.struck_things) in
      let b = length-append (link_words r.needs) (bans_words r.bans ++ need_words r.struck_needs) in
      let c = length-append (bans_words r.bans) (need_words r.struck_needs) in
      let d = length-map r.needs (λ l. word_of (Link l)) in
      let e = length-map r.struck_needs (λ k. word_of (StrikesNeed k)) in
      let f = length-map r.struck_things (λ k. word_of (StrikesThing k)) in
      omega arith

  pub made_found : (things rest : List ℕ) (from p : ℕ) (o : Result (Unit {0}) PlacedFault) → things ≡ thing_words r.struck_things → from ≡ end_of 1 7 ws 0 → from ≤ length ws → rest ≡ take (length ws - from) (drop from ws) → p ≡ min (place + from) (2 ^ 64 - 1) → (p + length rest ≤ 1024 → o ≡ passed (first_mark p (map (made_mark (map low_of things)) rest))) → o ≡ passed (first_mark (last_place place r) (last_marks r))
  made_found things rest from p o t f l w q k =
      let s = six r.variables h.formed.variables in
      let i = h.inside in
      let n : from ≡ length ((front_of r) ++ thing_words r.struck_things) = last_end from f in
      let m = last_length in
      let g : 0 + length ((front_of r) ++ thing_words r.struck_things) ≡ from = omega arith in
      let d : rest ≡ final = w ∙ take_rest ws from ∙ ap (λ z. drop z ws) (sym g) ∙ past_at ws 0 ((front_of r) ++ thing_words r.struck_things) final last_words in
      let x : length rest ≡ length ws - from = ap length (w ∙ take_rest ws from) ∙ length-drop from ws in
      let y : p ≡ last_place place r = omega arith in
      k (omega arith)
      ∙ ap passed (ap (λ z. first_mark z (map (made_mark (map low_of things)) rest)) y
      ∙ ap (λ z. first_mark (last_place place r) (map (made_mark (map low_of things)) z)) d
      ∙ ap (λ z. first_mark (last_place place r) (map (made_mark z) final)) (ap (map low_of) t ∙ things_back r.variables r.struck_things (omega arith) h.formed.struck_things)
      ∙ ap (first_mark (last_place place r)) (last_words_marks r.variables r.struck_things r.makes s.1 h.formed.makes))

pub mark_touches : (st : List ℕ) (m : ℕ) → some (λ k. aims k (Mark m)) st ≡ false
mark_touches [] m = refl
mark_touches (k ∷ ks) m = mark_touches ks m

pub touches_mark : (st : List ℕ) (t : Target) {m : ℕ} → t ≡ Mark m → some (λ k. aims k t) st ≡ false
touches_mark st t {m = m} e = ap (λ t. some (λ k. aims k t) st) e ∙ mark_touches st m
