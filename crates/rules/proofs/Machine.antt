-- the machine over numbers goes with the reading
use Rattle.std.proofs.Common.{◌≡◌, ℕ, ◌+◌, ◌-◌, ◌<◌, ◌≤◌, Bool, true, false, cond, ◌&&◌, eqb, leb, List, [], ◌∷◌, ◌++◌, length, get_or, take, drop, Ok, Err, Result, sym, refl, ap, ◌∙◌, subst, arith, length-append}
use Rattle.std.proofs.lemmas.List.{at_drop_more, at_drop_all, take_more, drop_at, drop-take, length-take-le, length-map}
use Rattle.std.proofs.lemmas.Bool.{and_parts, leb-true}
use Rattle.words.specs.declared.items.Item.{Item}
use Rattle.words.specs.declared.items.Item.TheVariants.{Opens, Link, Bans, Shares, StrikesNeed, StrikesThing, Makes, Ends}
use Rattle.words.specs.declared.faults.WordFault.{WordFault}
use Rattle.words.specs.declared.faults.RuleFault.TheVariants.{OutOfPlace, OutOfRange, Twice}
use Rattle.words.specs.declared.faults.Cause.{Cause}
use Rattle.words.specs.declared.faults.Cause.TheVariants.{InRule}
use Rattle.words.specs.declared.steps.State.{State}
use Rattle.words.specs.declared.stages.Stage.{Stage}
use Rattle.words.specs.declared.stages.Stage.TheVariants.{Outside, Opened, Needs, BanOpened, BanReady, BanLinks, StruckNeeds, StruckThings, MakesOpened, Made}
use Rattle.words.specs.Words.{item_of}
use Rattle.words.specs.Steps.{has, may, in_range, listed, too_many, many, judged, next_of, and_then, worded, step_of, Small, struck_needs, struck_things}
use Rattle.rules.specs.Rules.{Partial, outside, in_needs, in_shares, in_links, in_struck_needs, in_struck_things, in_makes, grown, numbers, written, front, tail, read_of, fault_at, ended, go_on, run, scanned}
use Rattle.rules.specs.Scan.{counted}
use Rattle.rules.proofs.Readings.{numbers_grown, written_grown}
use Rattle.words.proofs.Coding.{item_word}

-- what the nested tests say
pub record Passed {A : Type 0} (m r l t : Bool) (a b : A) : Type 0 where
  pub may : m ≡ true
  pub range : r ≡ true
  pub once : l ≡ false
  pub room : t ≡ false
  pub same : a ≡ b

abbrev pub nest : {A : Type 0} → Bool → Bool → Bool → Bool → Cause → A → Result A Cause
nest m r l t c a = cond m (cond r (cond l (Err (InRule Twice)) (cond t (Err c) (Ok a))) (Err (InRule OutOfRange))) (Err (InRule OutOfPlace))

pub passed : {A : Type 0} (m r l t : Bool) (c : Cause) (a b : A) → nest m r l t c a ≡ Ok b → Passed m r l t a b
passed true true false false c a b e = record { may = refl; range = refl; once = refl; room = refl; same = cc }
passed true true false true c a b e = let z : ◌≡◌ {A = ℕ} 0 1 = cc in absurd (omega arith)
passed true true true t c a b e = let z : ◌≡◌ {A = ℕ} 0 1 = cc in absurd (omega arith)
passed true false l t c a b e = let z : ◌≡◌ {A = ℕ} 0 1 = cc in absurd (omega arith)
passed false r l t c a b e = let z : ◌≡◌ {A = ℕ} 0 1 = cc in absurd (omega arith)

pub passes : {A : Type 0} (m r l t : Bool) (c : Cause) (a : A) → m ≡ true → r ≡ true → l ≡ false → t ≡ false → nest m r l t c a ≡ Ok a
passes m r l t c a p q s u = rw (p, q, s, u) refl

pub stopped : {A B : Type 0} (m r l t : Bool) (c d : Cause) (a : A) (b : B) → nest m r l t c a ≡ Err d → nest m r l t c b ≡ Err d
stopped true true false false c d a b e = let z : ◌≡◌ {A = ℕ} 0 1 = cc in absurd (omega arith)
stopped true true false true c d a b e = cc
stopped true true true t c d a b e = cc
stopped true false l t c d a b e = cc
stopped false r l t c d a b e = cc

-- one word
pub record Step (p : Partial) (w : ℕ) (t : State) (i : Item) : Type 0 where
  pub reads : read_of p w ≡ Ok (grown p i)
  pub state : numbers (grown p i) ≡ t
  pub words : written (grown p i) ≡ written p ++ w ∷ []
  pub next : next_of (numbers p) i ≡ t
  pub range : in_range (numbers p) i ≡ true

stepped : (p : Partial) (w : ℕ) (t : State) (x : Result Item WordFault) → item_of w ≡ x → and_then (worded x) (λ i. judged (numbers p) i (has w (tail p)) (next_of (numbers p) i)) ≡ Ok t → (i : Item) × Step p w t i
stepped p w t (Ok i) q e =
    let s = numbers p in
    let d = has w (tail p) in
    let k = passed (may s.stage i) (in_range s i) (listed s.stage i && d) (too_many s i) (many i) (next_of s i) t e in (
      i,
      record {
        reads = ap (λ x. and_then (worded x) (λ i. judged s i d (grown p i))) q ∙ passes (may s.stage i) (in_range s i) (listed s.stage i && d) (too_many s i) (many i) (grown p i) k.may k.range k.once k.room;
        state = numbers_grown p i k.may ∙ k.same;
        words = written_grown p i k.may ∙ ap (λ z. written p ++ z ∷ []) (item_word w i q);
        next = k.same;
        range = k.range;
      },
    )
stepped p w t (Err f) q e = let z : ◌≡◌ {A = ℕ} 0 1 = cc in absurd (omega arith)

pub read_step : (p : Partial) (w : ℕ) (t : State) → step_of (numbers p) w (has w (tail p)) ≡ Ok t → (i : Item) × Step p w t i
read_step p w t e = stepped p w t (item_of w) refl e

halted : (p : Partial) (w : ℕ) (c : Cause) (d : Bool) (x : Result Item WordFault) → and_then (worded x) (λ i. judged (numbers p) i d (next_of (numbers p) i)) ≡ Err c → and_then (worded x) (λ i. judged (numbers p) i d (grown p i)) ≡ Err c
halted p w c d (Ok i) e = let s = numbers p in stopped (may s.stage i) (in_range s i) (listed s.stage i && d) (too_many s i) (many i) c (next_of s i) (grown p i) e
halted p w c d (Err f) e = cc

pub read_stop : (p : Partial) (w : ℕ) (c : Cause) → step_of (numbers p) w (has w (tail p)) ≡ Err c → read_of p w ≡ Err c
read_stop p w c e = halted p w c (has w (tail p)) (item_of w) e

-- the run that is looked through
pub tail_length : (p : Partial) → length (tail p) ≡ (numbers p).seen
tail_length (outside rs) = refl
tail_length (in_needs rs n ls) = simp length-map
tail_length (in_shares h m ss) = simp length-map
tail_length (in_links h m ss ls) = simp length-map
tail_length (in_struck_needs h sn) = simp length-map
tail_length (in_struck_things h sn st) = simp length-map
tail_length (in_makes h sn st k ls) = simp length-map

last_run : (f t ws : List ℕ) (n at : ℕ) → f ++ t ≡ take at ws → at ≤ length ws → length t ≡ n → take n (drop (at - n) ws) ≡ t
last_run f t ws n at e h l =
    let a : length f + length t ≡ at = sym (length-append f t) ∙ ap length e ∙ length-take-le at ws h in
    let b : at - n ≡ length f = omega arith in
    let c : length f + n ≡ at = omega arith in
    let g : drop (length f) (take (length f + n) ws) ≡ take n (drop (length f) ws) = drop-take (length f) n ws in
    let i : drop (length f) (take at ws) ≡ t = ap (drop (length f)) (sym e) ∙ drop_at f t (length f) refl in
    rw b (sym g ∙ ap (λ z. drop (length f) (take z ws)) c ∙ i)

pub tail_run : (p : Partial) (ws : List ℕ) (at : ℕ) → written p ≡ take at ws → at ≤ length ws → take (numbers p).seen (drop (at - (numbers p).seen) ws) ≡ tail p
tail_run p ws at e h = last_run (front p) (tail p) ws (numbers p).seen at e h (tail_length p)

-- the numbers stay small
pub record Counts (at : ℕ) (s : State) : Type 0 where
  pub rules : s.rules ≤ at
  pub bans : s.bans ≤ at
  pub seen : s.seen ≤ at
  pub variables : s.variables ≤ 6

needs_small : (s : Stage) (n : ℕ) → struck_needs s n ≤ n
needs_small Outside n = omega arith
needs_small Opened n = omega arith
needs_small Needs n = omega arith
needs_small BanOpened n = omega arith
needs_small BanReady n = omega arith
needs_small BanLinks n = omega arith
needs_small StruckNeeds n = omega arith
needs_small StruckThings n = omega arith
needs_small MakesOpened n = omega arith
needs_small Made n = omega arith

things_small : (s : Stage) (n : ℕ) → struck_things s n ≤ n
things_small Outside n = omega arith
things_small Opened n = omega arith
things_small Needs n = omega arith
things_small BanOpened n = omega arith
things_small BanReady n = omega arith
things_small BanLinks n = omega arith
things_small StruckNeeds n = omega arith
things_small StruckThings n = omega arith
things_small MakesOpened n = omega arith
things_small Made n = omega arith

pub small_next : (at : ℕ) (s : State) (i : Item) → in_range s i ≡ true → Counts at s → Counts (at + 1) (next_of s i)
small_next at s (Opens n) r h = let b : n ≤ 6 = leb-true n 6 (and_parts (leb 1 n) (leb n 6) r).1 in record { rules = omega arith; bans = omega arith; seen = omega arith; variables = b }
small_next at s (Link l) r h = record { rules = omega arith; bans = omega arith; seen = omega arith; variables = omega arith }
small_next at s (Bans n) r h = record { rules = omega arith; bans = omega arith; seen = omega arith; variables = omega arith }
small_next at s (Shares x) r h = record { rules = omega arith; bans = omega arith; seen = elim (eqb (s.seen + 1) s.limit) as (λ b. cond b 0 (s.seen + 1) ≤ at + 1) [ true ↦ omega arith | false ↦ omega arith ]; variables = omega arith }
small_next at s (StrikesNeed n) r h = record { rules = omega arith; bans = omega arith; seen = let z = needs_small s.stage s.seen in omega arith; variables = omega arith }
small_next at s (StrikesThing n) r h = record { rules = omega arith; bans = omega arith; seen = let z = things_small s.stage s.seen in omega arith; variables = omega arith }
small_next at s (Makes n) r h = record { rules = omega arith; bans = omega arith; seen = omega arith; variables = omega arith }
small_next at s Ends r h = record { rules = omega arith; bans = omega arith; seen = omega arith; variables = omega arith }

-- the end
pub end_out : (at : ℕ) (p : Partial) → (numbers p).stage ≡ Outside → Ok (numbers p).rules ≡ counted (ended at p)
end_out at (outside rs) e = refl
end_out at (in_needs rs n []) e = let z : ◌≡◌ {A = ℕ} 0 1 = cc in absurd (omega arith)
end_out at (in_needs rs n (x ∷ xs)) e = let z : ◌≡◌ {A = ℕ} 0 1 = cc in absurd (omega arith)
end_out at (in_shares h m ss) e = let z : ◌≡◌ {A = ℕ} 0 1 = cc in absurd (omega arith)
end_out at (in_links h m ss []) e = let z : ◌≡◌ {A = ℕ} 0 1 = cc in absurd (omega arith)
end_out at (in_links h m ss (x ∷ xs)) e = let z : ◌≡◌ {A = ℕ} 0 1 = cc in absurd (omega arith)
end_out at (in_struck_needs h sn) e = let z : ◌≡◌ {A = ℕ} 0 1 = cc in absurd (omega arith)
end_out at (in_struck_things h sn st) e = let z : ◌≡◌ {A = ℕ} 0 1 = cc in absurd (omega arith)
end_out at (in_makes h sn st k []) e = let z : ◌≡◌ {A = ℕ} 0 1 = cc in absurd (omega arith)
end_out at (in_makes h sn st k (x ∷ xs)) e = let z : ◌≡◌ {A = ℕ} 0 1 = cc in absurd (omega arith)

pub end_in : (at : ℕ) (p : Partial) → ((numbers p).stage ≡ Outside → ⊥) → Err (fault_at at p (InRule OutOfPlace)) ≡ counted (ended at p)
end_in at (outside rs) e = absurd (e refl)
end_in at (in_needs rs n []) e = refl
end_in at (in_needs rs n (x ∷ xs)) e = refl
end_in at (in_shares h m ss) e = refl
end_in at (in_links h m ss []) e = refl
end_in at (in_links h m ss (x ∷ xs)) e = refl
end_in at (in_struck_needs h sn) e = refl
end_in at (in_struck_things h sn st) e = refl
end_in at (in_makes h sn st k []) e = refl
end_in at (in_makes h sn st k (x ∷ xs)) e = refl

-- the reading at a place
pub record At (ws : List ℕ) (at : ℕ) (s : State) (p : Partial) : Type 0 where
  pub state : numbers p ≡ s
  pub words : written p ≡ take at ws
  pub rest : run at p (drop at ws) ≡ scanned ws

pub at_start : (ws : List ℕ) → At ws 0 (numbers (outside [])) (outside [])
at_start ws = record { state = refl; words = refl; rest = refl }

module _ (ws : List ℕ) (at : ℕ) (s : State) (p : Partial) (k : At ws at s p) (h : at < length ws) where
  here : has (get_or ws at 0) (take s.seen (drop (at - s.seen) ws)) ≡ has (get_or ws at 0) (tail p)
  here = ap (has (get_or ws at 0)) (ap (λ z. take z.seen (drop (at - z.seen) ws)) (sym k.state) ∙ tail_run p ws at k.words (omega arith))

  there : step_of s (get_or ws at 0) (has (get_or ws at 0) (take s.seen (drop (at - s.seen) ws))) ≡ step_of (numbers p) (get_or ws at 0) (has (get_or ws at 0) (tail p))
  there = ap (step_of s (get_or ws at 0)) here ∙ ap (λ z. step_of z (get_or ws at 0) (has (get_or ws at 0) (tail p))) (sym k.state)

  pub at_more : (t : State) → step_of s (get_or ws at 0) (has (get_or ws at 0) (take s.seen (drop (at - s.seen) ws))) ≡ Ok t → Counts at s → ((q : Partial) × At ws (at + 1) t q) × Counts (at + 1) t
  at_more t e m =
      let r = read_step p (get_or ws at 0) t (sym there ∙ e) in
      let q = grown p r.0 in
      let f : run at p (drop at ws) ≡ run (at + 1) q (drop (at + 1) ws) = at_drop_more (run at p) ws at 0 h ∙ ap (go_on at p (λ q. run (at + 1) q (drop (at + 1) ws))) r.1.reads in (
        (q, record { state = r.1.state; words = r.1.words ∙ ap (λ z. z ++ get_or ws at 0 ∷ []) k.words ∙ sym (take_more ws at 0 h); rest = sym f ∙ k.rest }),
        subst (Counts (at + 1)) r.1.next (small_next at (numbers p) r.0 r.1.range (subst (Counts at) (sym k.state) m)),
      )

  pub at_stop : (c : Cause) → step_of s (get_or ws at 0) (has (get_or ws at 0) (take s.seen (drop (at - s.seen) ws))) ≡ Err c → Err (record { place = at; rule = s.rules; cause = c }) ≡ counted (scanned ws)
  at_stop c e =
      let f : run at p (drop at ws) ≡ Err (fault_at at p c) = at_drop_more (run at p) ws at 0 h ∙ ap (go_on at p (λ q. run (at + 1) q (drop (at + 1) ws))) (read_stop p (get_or ws at 0) c (sym there ∙ e)) in
      ap (λ z. Err (record { place = at; rule = z.rules; cause = c })) (sym k.state) ∙ ap counted (sym f ∙ k.rest)

module _ (ws : List ℕ) (at : ℕ) (s : State) (p : Partial) (k : At ws at s p) (h : length ws ≤ at) where
  pub at_out : s.stage ≡ Outside → Ok s.rules ≡ counted (scanned ws)
  at_out e = ap (λ z. Ok z.rules) (sym k.state) ∙ end_out at p (ap (λ z. z.stage) k.state ∙ e) ∙ ap counted (sym (at_drop_all (run at p) ws at h) ∙ k.rest)

  pub at_in : (s.stage ≡ Outside → ⊥) → Err (record { place = at; rule = s.rules; cause = InRule OutOfPlace }) ≡ counted (scanned ws)
  at_in e = ap (λ z. Err (record { place = at; rule = z.rules; cause = InRule OutOfPlace })) (sym k.state) ∙ end_in at p (λ q. e (ap (λ z. z.stage) (sym k.state) ∙ q)) ∙ ap counted (sym (at_drop_all (run at p) ws at h) ∙ k.rest)

pub start_counts : (s : State) → s ≡ numbers (outside []) → Counts 0 s
start_counts s e = subst (Counts 0) (sym e) (record { rules = omega arith; bans = omega arith; seen = omega arith; variables = omega arith })

pub start_at : (ws : List ℕ) (s : State) → s ≡ numbers (outside []) → At ws 0 s (outside [])
start_at ws s e = subst (λ z. At ws 0 z (outside [])) (sym e) (at_start ws)

pub counts_small : (at : ℕ) (s : State) → Counts at s → at ≤ 1024 → Small s
counts_small at s k h = (omega (arith, k.rules), omega (arith, k.bans), omega (arith, k.seen), k.variables)
