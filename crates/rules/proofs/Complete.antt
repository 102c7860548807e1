-- what is written is read
use Rattle.std.proofs.Common.{◌≡◌, ℕ, ◌+◌, ◌<◌, ◌≤◌, true, false, cond, ◌&&◌, eqb, ltb, leb, List, [], ◌∷◌, ◌++◌, map, length, Some, None, Ok, Option, sym, refl, ap, ◌∙◌, subst, append_assoc, append-nil, arith, length-append}
use Rattle.std.specs.List.{AllByRecursion}
use Rattle.std.proofs.lemmas.List.{length_push}
use Rattle.std.proofs.lemmas.Bool.{and_parts, or_parts, or_from, lt-leb, ltb-true, leb-true, eqb-false, ne_eqb, eq-eqb, and_left, false≢true}
use Rattle.words.specs.declared.items.PatternLink.{PatternLink}
use Rattle.words.specs.declared.items.Target.{Target}
use Rattle.words.specs.declared.items.Target.TheVariants.{Variable, Mark}
use Rattle.words.specs.declared.items.Share.{Share}
use Rattle.words.specs.declared.items.Share.TheVariants.{New, With, Neither}
use Rattle.words.specs.declared.items.Item.{Item}
use Rattle.words.specs.declared.items.Item.TheVariants.{Opens, Link, Bans, Shares, StrikesNeed, StrikesThing, Makes, Ends}
use Rattle.words.specs.declared.stages.Stage.{Stage}
use Rattle.words.specs.declared.stages.Stage.TheVariants.{Opened, Needs, BanReady, BanLinks, MakesOpened, Made}
use Rattle.words.specs.Words.{word_of, target_number}
use Rattle.words.specs.Steps.{has, may, in_range, in_six, target_in, link_in, share_in, listed, too_many, many, judged, and_then, worded, after_need, after_thing}
use Rattle.rules.specs.Rules.{Ban, Making, Rule, Head, Partial, outside, in_needs, in_shares, in_links, in_struck_needs, in_struck_things, in_makes, grown, head_of, struck_needs_of, struck_things_of, makes_of, made, numbers, staged, tail, read_of, go_on, run, scanned, encode, rule_words, link_words, share_words, need_words, thing_words, ban_words, bans_words, makes_words}
use Rattle.rules.specs.Formed.{Distinct, Links, FormedBan, FormedMaking, FormedRule, FormedRules}
use Rattle.words.proofs.Coding.{Fits, said_item}
use Rattle.rules.proofs.Machine.{passes}

pub read_ok : (p : Partial) (i : Item) → Fits i → may (numbers p).stage i ≡ true → in_range (numbers p) i ≡ true → (listed (numbers p).stage i && has (word_of i) (tail p)) ≡ false → too_many (numbers p) i ≡ false → read_of p (word_of i) ≡ Ok (grown p i)
read_ok p i f m r o t =
    let s = numbers p in
    let d = has (word_of i) (tail p) in
    ap (λ x. and_then (worded x) (λ i. judged s i d (grown p i))) (said_item i f) ∙ passes (may s.stage i) (in_range s i) (listed s.stage i && d) (too_many s i) (many i) (grown p i) m r o t

-- reading some words leads from one reading to another
abbrev pub Reach : Partial → List ℕ → Partial → Type 0
Reach p [] q = p ≡ q
Reach p (w ∷ ws) q = (r : Partial) × (read_of p w ≡ Ok r) × Reach r ws q

pub reach_append : (p : Partial) (a b : List ℕ) (q r : Partial) → Reach p a q → Reach q b r → Reach p (a ++ b) r
reach_append p [] b q r x y = subst (λ z. Reach z b r) (sym x) y
reach_append p (w ∷ a) b q r x y = (x.0, x.1, reach_append x.0 a b q r x.2 y)

pub reach_run : (n : ℕ) (p : Partial) (ws : List ℕ) (rs : List Rule) → Reach p ws (outside rs) → run n p ws ≡ Ok rs
reach_run n p [] rs x = rw x refl
reach_run n p (w ∷ ws) rs x = ap (go_on n p (λ q. run (n + 1) q ws)) x.1 ∙ reach_run (n + 1) x.0 ws rs x.2

sections : {X : Type 0} (f : X → ℕ) (P : List X → Partial) (all : List X) → ((xs : List X) (y : X) (ys : List X) → all ≡ xs ++ y ∷ ys → read_of (P xs) (f y) ≡ Ok (P (xs ++ y ∷ []))) → (xs ys : List X) → all ≡ xs ++ ys → Reach (P xs) (map f ys) (P all)
sections f P all step xs [] e = ap P (sym (e ∙ append-nil xs))
sections f P all step xs (y ∷ ys) e = (P (xs ++ y ∷ []), step xs y ys e, sections f P all step (xs ++ y ∷ []) ys (e ∙ sym (append_assoc xs (y ∷ []) ys)))

all_mid : {X : Type 0} (Q : X → Type 0) (xs : List X) (y : X) (ys : List X) → AllByRecursion Q (xs ++ y ∷ ys) → Q y
all_mid Q [] y ys h = h.0
all_mid Q (x ∷ xs) y ys h = all_mid Q xs y ys h.1

has_mid : {X : Type 0} (f : X → ℕ) (v : ℕ) (xs : List X) (y : X) (ys : List X) → has v (map f (xs ++ y ∷ ys)) ≡ false → eqb (f y) v ≡ false
has_mid f v [] y ys h = (or_parts (eqb (f y) v) (has v (map f ys)) h).0
has_mid f v (x ∷ xs) y ys h = has_mid f v xs y ys (or_parts (eqb (f x) v) (has v (map f (xs ++ y ∷ ys))) h).1

distinct_mid : {X : Type 0} (f : X → ℕ) (xs : List X) (y : X) (ys : List X) → Distinct (map f (xs ++ y ∷ ys)) → has (f y) (map f xs) ≡ false
distinct_mid f [] y ys h = refl
distinct_mid f (x ∷ xs) y ys h =
    let a = eqb-false (f y) (f x) (has_mid f (f x) xs y ys h.0) in
    or_from (eqb (f x) (f y)) (has (f y) (map f xs)) (ne_eqb (f x) (f y) (λ e. a (sym e))) (distinct_mid f xs y ys h.1)

short : {X : Type 0} (xs : List X) (y : X) (ys all : List X) (most : ℕ) → all ≡ xs ++ y ∷ ys → length all ≤ most → length xs < most
short xs y ys all most e h = let a : length all ≡ length xs + length (y ∷ ys) = ap length e ∙ length-append xs (y ∷ ys) in omega arith

target_fits : (limit : ℕ) (t : Target) → limit ≤ 256 → target_in limit t ≡ true → target_number t < 256
target_fits limit (Variable v) h e = omega (arith, ltb-true v limit e)
target_fits limit (Mark m) h e = omega (arith, ltb-true m 64 e)

pub link_fits : (limit : ℕ) (l : PatternLink) → limit ≤ 256 → link_in limit l ≡ true → Fits (Link l)
link_fits limit l h e =
    let p = and_parts (ltb l.label 16) (ltb l.source limit && target_in limit l.target) e in
    let q = and_parts (ltb l.source limit) (target_in limit l.target) p.1 in
    let a = ltb-true l.label 16 p.0 in
    let b = ltb-true l.source limit q.0 in
    (omega arith, omega arith, target_fits limit l.target h q.1)

-- the links of a pattern or of the makes
module _ (P : List PatternLink → Partial) (limit most : ℕ)
    (grows : (xs : List PatternLink) (y : PatternLink) → grown (P xs) (Link y) ≡ P (xs ++ y ∷ []))
    (mays : (xs : List PatternLink) (y : PatternLink) → may (numbers (P xs)).stage (Link y) ≡ true)
    (limits : (xs : List PatternLink) → (numbers (P xs)).limit ≡ limit)
    (mosts : (xs : List PatternLink) → (numbers (P xs)).most ≡ most)
    (seens : (xs : List PatternLink) → (numbers (P xs)).seen ≡ length xs)
    (tails : (xs : List PatternLink) → tail (P xs) ≡ link_words xs) where
  links_reach : (ls : List PatternLink) → Links limit most ls → limit ≤ 256 → Reach (P []) (link_words ls) (P ls)
  links_reach ls v h =
      sections (λ l. word_of (Link l)) P ls
      (λ xs y ys e.
      let r : link_in limit y ≡ true = all_mid (λ l. link_in limit l ≡ true) xs y ys (subst (AllByRecursion (λ l. link_in limit l ≡ true)) e v.ranges) in
      let o : has (word_of (Link y)) (tail (P xs)) ≡ false = ap (has (word_of (Link y))) (tails xs) ∙ distinct_mid (λ l. word_of (Link l)) xs y ys (subst (λ z. Distinct (link_words z)) e v.once) in
      let k : length xs < most = short xs y ys ls most e v.few in
      let t : leb (numbers (P xs)).most (numbers (P xs)).seen ≡ false = lt-leb (numbers (P xs)).most (numbers (P xs)).seen (omega (arith, mosts xs, seens xs)) in
      read_ok (P xs) (Link y) (link_fits limit y h r) (mays xs y) (ap (λ z. link_in z y) (limits xs) ∙ r) o t ∙ ap Ok (grows xs y))
      [] ls refl

may_staged : {X : Type 0} (xs : List X) (a b : Stage) (i : Item) → may a i ≡ true → may b i ≡ true → may (staged xs a b) i ≡ true
may_staged [] a b i p q = p
may_staged (x ∷ xs) a b i p q = q

needs_reach : (rs : List Rule) (n : ℕ) (ls : List PatternLink) → Links n 12 ls → n ≤ 256 → Reach (in_needs rs n []) (link_words ls) (in_needs rs n ls)
needs_reach rs n ls v h = links_reach (in_needs rs n) n 12 (λ _ _. refl) (λ xs y. may_staged xs Opened Needs (Link y) refl refl) (λ _. refl) (λ _. refl) (λ _. refl) (λ _. refl) ls v h

ban_links_reach : (h : Head) (m : ℕ) (ss : List Share) (ls : List PatternLink) → Links m 8 ls → m ≤ 256 → Reach (in_links h m ss []) (link_words ls) (in_links h m ss ls)
ban_links_reach h m ss ls v k = links_reach (in_links h m ss) m 8 (λ _ _. refl) (λ xs y. may_staged xs BanReady BanLinks (Link y) refl refl) (λ _. refl) (λ _. refl) (λ _. refl) (λ _. refl) ls v k

makes_links_reach : (h : Head) (sn st : List ℕ) (n : ℕ) (ls : List PatternLink) → Links (h.variables + n) 12 ls → h.variables + n ≤ 256 → Reach (in_makes h sn st n []) (link_words ls) (in_makes h sn st n ls)
makes_links_reach h sn st n ls v k = links_reach (in_makes h sn st n) (h.variables + n) 12 (λ _ _. refl) (λ xs y. may_staged xs MakesOpened Made (Link y) refl refl) (λ _. refl) (λ _. refl) (λ _. refl) (λ _. refl) ls v k

pub share_fits : (n : ℕ) (s : Share) → n ≤ 256 → share_in n s ≡ true → Fits (Shares s)
share_fits n New h e = tt
share_fits n (With v) h e = let l = ltb-true v n e in omega arith
share_fits n (Neither m) h e = absurd (false≢true e)

pub six : (n : ℕ) → in_six n ≡ true → (1 ≤ n) × (n ≤ 6)
six n h = let p = and_parts (leb 1 n) (leb n 6) h in (leb-true 1 n p.0, leb-true n 6 p.1)

-- the variables of a ban
module _ (h : Head) (m : ℕ) (b : in_six m ≡ true) (v : h.variables ≤ 256) where
  abbrev sharing : List Share → Partial
  sharing xs = cond (eqb (length xs) m) (in_links h m xs []) (in_shares h m xs)

  shares_reach : (ss : List Share) → length ss ≡ m → AllByRecursion (λ s. share_in h.variables s ≡ true) ss → Reach (in_shares h m []) (share_words ss) (in_links h m ss [])
  shares_reach ss l r =
      let lo : 1 ≤ m = (six m b).0 in
      let z : eqb 0 m ≡ false = ne_eqb 0 m (λ e. omega arith) in
      let y : eqb (length ss) m ≡ true = eq-eqb (length ss) m l in
      let from : sharing [] ≡ in_shares h m [] = ap (λ t. cond t (in_links h m [] []) (in_shares h m [])) z in
      let to : sharing ss ≡ in_links h m ss [] = ap (λ t. cond t (in_links h m ss []) (in_shares h m ss)) y in
      let all : Reach (sharing []) (share_words ss) (sharing ss) =
      sections (λ s. word_of (Shares s)) sharing ss
      (λ xs x ys e.
      let k : length xs < m = short xs x ys ss m e (omega arith) in
      let q : eqb (length xs) m ≡ false = ne_eqb (length xs) m (λ e. omega arith) in
      let g : share_in h.variables x ≡ true = all_mid (λ s. share_in h.variables s ≡ true) xs x ys (subst (AllByRecursion (λ s. share_in h.variables s ≡ true)) e r) in
      ap (λ t. read_of (cond t (in_links h m xs []) (in_shares h m xs)) (word_of (Shares x))) q
      ∙ read_ok (in_shares h m xs) (Shares x) (share_fits h.variables x v g) refl g refl refl
      ∙ ap (λ t. Ok (cond (eqb t m) (in_links h m (xs ++ x ∷ []) []) (in_shares h m (xs ++ x ∷ [])))) (sym (length_push xs x)))
      [] ss refl in
      subst (λ t. Reach (in_shares h m []) (share_words ss) t) to (subst (λ t. Reach t (share_words ss) (sharing ss)) from all)

-- a reading whose open part is whole
pub record Ready (p : Partial) (h : Head) (sn st : List ℕ) : Type 0 where
  pub head : head_of p ≡ h
  pub needs : struck_needs_of p ≡ sn
  pub things : struck_things_of p ≡ st
  pub nothing : makes_of p ≡ None
  pub variables : (numbers p).variables ≡ h.variables
  pub count : (numbers p).needs ≡ length h.needs
  pub bans : (numbers p).bans ≡ length h.bans
  pub makes : (k : ℕ) → may (numbers p).stage (Makes k) ≡ true
  pub ends : may (numbers p).stage Ends ≡ true

pub record Things (p : Partial) : Type 0 where
  pub may : (k : ℕ) → may (numbers p).stage (StrikesThing k) ≡ true
  pub first : after_thing (numbers p).stage ≡ false

pub record Open (p : Partial) : Type 0 where
  pub bans : (k : ℕ) → may (numbers p).stage (Bans k) ≡ true
  pub needs : (k : ℕ) → may (numbers p).stage (StrikesNeed k) ≡ true
  pub first : after_need (numbers p).stage ≡ false
  pub things : Things p

ready_needs : (rs : List Rule) (n : ℕ) (ls : List PatternLink) → 0 < length ls → Ready (in_needs rs n ls) (head_of (in_needs rs n ls)) [] [] × Open (in_needs rs n ls)
ready_needs rs n [] h = absurd (omega arith)
ready_needs rs n (x ∷ xs) h = (
  record { head = refl; needs = refl; things = refl; nothing = refl; variables = refl; count = refl; bans = refl; makes = λ _. refl; ends = refl },
  record { bans = λ _. refl; needs = λ _. refl; first = refl; things = record { may = λ _. refl; first = refl } },
)

ready_links : (g : Head) (m : ℕ) (ss : List Share) (ls : List PatternLink) → 0 < length ls → Ready (in_links g m ss ls) (head_of (in_links g m ss ls)) [] [] × Open (in_links g m ss ls)
ready_links g m ss [] h = absurd (omega arith)
ready_links g m ss (x ∷ xs) h = (
  record { head = refl; needs = refl; things = refl; nothing = refl; variables = refl; count = refl; bans = sym (length_push g.bans _); makes = λ _. refl; ends = refl },
  record { bans = λ _. refl; needs = λ _. refl; first = refl; things = record { may = λ _. refl; first = refl } },
)

abbrev plus : Head → List Ban → Head
plus h bs = record { rules = h.rules; variables = h.variables; needs = h.needs; bans = h.bans ++ bs }

ban_reach : (p : Partial) (h : Head) (b : Ban) → Ready p h [] [] → Open p → h.variables ≤ 6 → length h.bans < 4 → FormedBan h.variables b → Reach p (ban_words b) (in_links h b.variables b.shares b.links)
ban_reach p h b r o n f v =
    let s = six b.variables v.variables in
    let a : read_of p (word_of (Bans b.variables)) ≡ Ok (in_shares h b.variables []) =
    read_ok p (Bans b.variables) (omega arith) (o.bans b.variables) v.variables refl (lt-leb 4 (numbers p).bans (omega (arith, r.bans))) ∙ ap (λ t. Ok (in_shares t b.variables [])) r.head in (
      in_shares h b.variables [],
      a,
      reach_append (in_shares h b.variables []) (share_words b.shares) (link_words b.links) (in_links h b.variables b.shares []) (in_links h b.variables b.shares b.links)
          (shares_reach h b.variables v.variables (omega arith) b.shares v.all v.shares)
          (ban_links_reach h b.variables b.shares b.links v.links (omega arith)),
    )

bans_reach : (bs : List Ban) (p : Partial) (h : Head) → Ready p h [] [] → Open p → h.variables ≤ 6 → length h.bans + length bs ≤ 4 → AllByRecursion (FormedBan h.variables) bs → (q : Partial) × Reach p (bans_words bs) q × Ready q (plus h bs) [] [] × Open q
bans_reach [] p h r o n f v = (p, refl, subst (λ t. Ready p (record { rules = h.rules; variables = h.variables; needs = h.needs; bans = t }) [] []) (sym (append-nil h.bans)) r, o)
bans_reach (b ∷ bs) p h r o n f v =
    let q = in_links h b.variables b.shares b.links in
    let c = ready_links h b.variables b.shares b.links v.0.some in
    let k = bans_reach bs q (head_of q) c.0 c.1 n (omega (arith, length_push h.bans b)) v.1 in (
      k.0,
      reach_append p (ban_words b) (bans_words bs) q k.0 (ban_reach p h b r o n (omega arith) v.0) k.1,
      subst (λ t. Ready k.0 (record { rules = h.rules; variables = h.variables; needs = h.needs; bans = t }) [] []) (append_assoc h.bans (b ∷ []) bs) k.2,
      k.3,
    )

-- strikes
strike_fits : (n b k : ℕ) → n ≡ b → ltb k b ≡ true → ltb k n ≡ true
strike_fits n b k e h = ap (ltb k) e ∙ h

needs_struck : (sn : List ℕ) (p : Partial) (h : Head) → Ready p h [] [] → Open p → length h.needs ≤ 12 → AllByRecursion (λ k. ltb k (length h.needs) ≡ true) sn → Distinct (need_words sn) → (q : Partial) × Reach p (need_words sn) q × Ready q h sn [] × Things q
needs_struck [] p h r o f v d = (p, refl, r, o.things)
needs_struck (k ∷ ks) p h r o f v d =
    let a : read_of p (word_of (StrikesNeed k)) ≡ Ok (in_struck_needs h (k ∷ [])) =
    read_ok p (StrikesNeed k) (let z = ltb-true k (length h.needs) v.0 in omega arith) (o.needs k) (strike_fits (numbers p).needs (length h.needs) k r.count v.0) (and_left (after_need (numbers p).stage) (has (word_of (StrikesNeed k)) (tail p)) o.first) refl
    ∙ ap (λ t. Ok (in_struck_needs (head_of p) (t ++ k ∷ []))) r.needs ∙ ap (λ t. Ok (in_struck_needs t (k ∷ []))) r.head in
    let b : Reach (in_struck_needs h (k ∷ [])) (need_words ks) (in_struck_needs h (k ∷ ks)) =
    sections (λ k. word_of (StrikesNeed k)) (in_struck_needs h) (k ∷ ks)
    (λ xs y ys e.
    let g : ltb y (length h.needs) ≡ true = all_mid (λ k. ltb k (length h.needs) ≡ true) xs y ys (subst (AllByRecursion (λ k. ltb k (length h.needs) ≡ true)) e v) in
    read_ok (in_struck_needs h xs) (StrikesNeed y) (let z = ltb-true y (length h.needs) g in omega arith) refl g (distinct_mid (λ k. word_of (StrikesNeed k)) xs y ys (subst (λ t. Distinct (need_words t)) e d)) refl)
    (k ∷ []) ks refl in (
      in_struck_needs h (k ∷ ks),
      (in_struck_needs h (k ∷ []), a, b),
      record { head = refl; needs = refl; things = refl; nothing = refl; variables = refl; count = refl; bans = refl; makes = λ _. refl; ends = refl },
      record { may = λ _. refl; first = refl },
    )

things_struck : (st : List ℕ) (p : Partial) (h : Head) (sn : List ℕ) → Ready p h sn [] → Things p → h.variables ≤ 6 → AllByRecursion (λ k. ltb k h.variables ≡ true) st → Distinct (thing_words st) → (q : Partial) × Reach p (thing_words st) q × Ready q h sn st
things_struck [] p h sn r o f v d = (p, refl, r)
things_struck (k ∷ ks) p h sn r o f v d =
    let a : read_of p (word_of (StrikesThing k)) ≡ Ok (in_struck_things h sn (k ∷ [])) =
    read_ok p (StrikesThing k) (let z = ltb-true k h.variables v.0 in omega arith) (o.may k) (strike_fits (numbers p).variables h.variables k r.variables v.0) (and_left (after_thing (numbers p).stage) (has (word_of (StrikesThing k)) (tail p)) o.first) refl
    ∙ ap (λ t. Ok (in_struck_things (head_of p) (struck_needs_of p) (t ++ k ∷ []))) r.things ∙ ap (λ t. Ok (in_struck_things (head_of p) t (k ∷ []))) r.needs ∙ ap (λ t. Ok (in_struck_things t sn (k ∷ []))) r.head in
    let b : Reach (in_struck_things h sn (k ∷ [])) (thing_words ks) (in_struck_things h sn (k ∷ ks)) =
    sections (λ k. word_of (StrikesThing k)) (in_struck_things h sn) (k ∷ ks)
    (λ xs y ys e.
    let g : ltb y h.variables ≡ true = all_mid (λ k. ltb k h.variables ≡ true) xs y ys (subst (AllByRecursion (λ k. ltb k h.variables ≡ true)) e v) in
    read_ok (in_struck_things h sn xs) (StrikesThing y) (let z = ltb-true y h.variables g in omega arith) refl g (distinct_mid (λ k. word_of (StrikesThing k)) xs y ys (subst (λ t. Distinct (thing_words t)) e d)) refl)
    (k ∷ []) ks refl in (
      in_struck_things h sn (k ∷ ks),
      (in_struck_things h sn (k ∷ []), a, b),
      record { head = refl; needs = refl; things = refl; nothing = refl; variables = refl; count = refl; bans = refl; makes = λ _. refl; ends = refl },
    )

-- the makes and the end
end_reach : (p : Partial) (h : Head) (sn st : List ℕ) (m : Option Making) → head_of p ≡ h → struck_needs_of p ≡ sn → struck_things_of p ≡ st → makes_of p ≡ m → may (numbers p).stage Ends ≡ true → Reach p (word_of Ends ∷ []) (outside (h.rules ++ made h sn st m ∷ []))
end_reach p h sn st m a b c d e = (
  grown p Ends,
  read_ok p Ends tt e refl refl refl,
  ap (λ t. outside (t.rules ++ made t (struck_needs_of p) (struck_things_of p) (makes_of p) ∷ [])) a ∙ ap (λ t. outside (h.rules ++ made h t (struck_things_of p) (makes_of p) ∷ [])) b
      ∙ ap (λ t. outside (h.rules ++ made h sn t (makes_of p) ∷ [])) c ∙ ap (λ t. outside (h.rules ++ made h sn st t ∷ [])) d,
)

made_ends : (h : Head) (sn st : List ℕ) (k : ℕ) (ls : List PatternLink) → 0 < length ls → may (numbers (in_makes h sn st k ls)).stage Ends ≡ true
made_ends h sn st k [] e = absurd (omega arith)
made_ends h sn st k (x ∷ xs) e = refl

makes_reach : (m : Option Making) (p : Partial) (h : Head) (sn st : List ℕ) → Ready p h sn st → h.variables ≤ 6 → FormedMaking h.variables m → Reach p (makes_words m ++ word_of Ends ∷ []) (outside (h.rules ++ made h sn st m ∷ []))
makes_reach None p h sn st r f v = end_reach p h sn st None r.head r.needs r.things r.nothing r.ends
makes_reach (Some m) p h sn st r f v =
    let k : m.things ≤ 4 = leb-true m.things 4 v.0 in
    let a : read_of p (word_of (Makes m.things)) ≡ Ok (in_makes h sn st m.things []) =
    read_ok p (Makes m.things) (omega arith) (r.makes m.things) v.0 refl refl
    ∙ ap (λ t. Ok (in_makes t (struck_needs_of p) (struck_things_of p) m.things [])) r.head ∙ ap (λ t. Ok (in_makes h t (struck_things_of p) m.things [])) r.needs ∙ ap (λ t. Ok (in_makes h sn t m.things [])) r.things in
    let q = in_makes h sn st m.things m.links in (
      in_makes h sn st m.things [],
      a,
      reach_append (in_makes h sn st m.things []) (link_words m.links) (word_of Ends ∷ []) q (outside (h.rules ++ made h sn st (Some m) ∷ []))
          (makes_links_reach h sn st m.things m.links v.2 (omega arith))
          (end_reach q h sn st (Some m) refl refl refl refl (made_ends h sn st m.things m.links v.1)),
    )

pub rule_reach : (rs : List Rule) (r : Rule) → length rs < 16 → FormedRule r → Reach (outside rs) (rule_words r) (outside (rs ++ r ∷ []))
rule_reach rs r f v =
    let n : r.variables ≤ 6 = (six r.variables v.variables).1 in
    let p = in_needs rs r.variables r.needs in
    let g = head_of p in
    let c = ready_needs rs r.variables r.needs v.some in
    let b = bans_reach r.bans p g c.0 c.1 n (omega (arith, v.few)) v.bans in
    let h = plus g r.bans in
    let s = needs_struck r.struck_needs b.0 h b.2 b.3 v.needs.few v.struck_needs v.needs_once in
    let t = things_struck r.struck_things s.0 h r.struck_needs s.2 s.3 n v.struck_things v.things_once in
    let z = outside (rs ++ r ∷ []) in
    let me = makes_words r.makes ++ word_of Ends ∷ [] in (
      in_needs rs r.variables [],
      read_ok (outside rs) (Opens r.variables) (omega arith) refl v.variables refl (lt-leb 16 (length rs) f),
      reach_append (in_needs rs r.variables []) (link_words r.needs) (bans_words r.bans ++ (need_words r.struck_needs ++ (thing_words r.struck_things ++ me))) p z (needs_reach rs r.variables r.needs v.needs (omega arith))
          (reach_append p (bans_words r.bans) (need_words r.struck_needs ++ (thing_words r.struck_things ++ me)) b.0 z b.1
          (reach_append b.0 (need_words r.struck_needs) (thing_words r.struck_things ++ me) s.0 z s.1
          (reach_append s.0 (thing_words r.struck_things) me t.0 z t.1
          (makes_reach r.makes t.0 h r.struck_needs r.struck_things t.2 n v.makes)))),
    )

rules_reach : (qs rs : List Rule) → length qs + length rs ≤ 16 → AllByRecursion FormedRule rs → Reach (outside qs) (encode rs) (outside (qs ++ rs))
rules_reach qs [] f v = ap outside (sym (append-nil qs))
rules_reach qs (r ∷ rs) f v =
    reach_append (outside qs) (rule_words r) (encode rs) (outside (qs ++ r ∷ [])) (outside (qs ++ r ∷ rs))
    (rule_reach qs r (omega arith) v.0)
    (subst (λ t. Reach (outside (qs ++ r ∷ [])) (encode rs) (outside t)) (append_assoc qs (r ∷ []) rs) (rules_reach (qs ++ r ∷ []) rs (omega (arith, length_push qs r)) v.1))

pub encode_scanned : (rs : List Rule) → FormedRules rs → scanned (encode rs) ≡ Ok rs
encode_scanned rs v = reach_run 0 (outside []) (encode rs) rs (rules_reach [] rs (omega (arith, v.few)) v.each)

pub encode_injective : (rs qs : List Rule) → FormedRules rs → FormedRules qs → encode rs ≡ encode qs → rs ≡ qs
encode_injective rs qs v u e = let a = encode_scanned rs v in let b = encode_scanned qs u in let c : scanned (encode rs) ≡ scanned (encode qs) = ap scanned e in cc
