-- valid rules are kept by each word
use Rattle.std.proofs.Common.{◌≡◌, ℕ, ◌+◌, ◌<◌, ◌≤◌, true, false, ◌&&◌, eqb, ltb, leb, List, [], ◌∷◌, ◌++◌, map, length, Some, None, Ok, Option, sym, refl, ap, ◌∙◌, subst, arith}
use Rattle.std.specs.List.{AllByRecursion}
use Rattle.std.proofs.lemmas.List.{length_push}
use Rattle.std.proofs.ByRecursion.{All-push}
use Rattle.std.proofs.lemmas.Bool.{or_parts, or_from, leb-false, eqb-true, eqb-false, ne_eqb, false≢true, cond_both}
use Rattle.words.specs.declared.items.PatternLink.{PatternLink}
use Rattle.words.specs.declared.items.Share.{Share}
use Rattle.words.specs.declared.items.Item.{Item}
use Rattle.words.specs.declared.items.Item.TheVariants.{Opens, Link, Bans, Shares, StrikesNeed, StrikesThing, Makes, Ends}
use Rattle.words.specs.Words.{word_of}
use Rattle.words.specs.Steps.{has, may, in_range, in_six, link_in, share_in, listed, too_many}
use Rattle.rules.specs.Rules.{Ban, Making, Rule, Head, Partial, outside, in_needs, in_shares, in_links, in_struck_needs, in_struck_things, in_makes, grown, head_of, made, numbers, tail, read_of, ended, scanned, link_words}
use Rattle.rules.specs.Formed.{Distinct, Links, FormedBan, FormedMaking, FormedRule, FormedRules}
use Rattle.words.proofs.Coding.{item_word}
use Rattle.rules.proofs.Complete.{six}
use Rattle.rules.proofs.Sound.{read_some_item, run_keeps}

has_push : {X : Type 0} (f : X → ℕ) (v : ℕ) (xs : List X) (y : X) → has v (map f xs) ≡ false → eqb (f y) v ≡ false → has v (map f (xs ++ y ∷ [])) ≡ false
has_push f v [] y h e = or_from (eqb (f y) v) false e refl
has_push f v (x ∷ xs) y h e = let p = or_parts (eqb (f x) v) (has v (map f xs)) h in or_from (eqb (f x) v) (has v (map f (xs ++ y ∷ []))) p.0 (has_push f v xs y p.1 e)

distinct_push : {X : Type 0} (f : X → ℕ) (xs : List X) (y : X) → Distinct (map f xs) → has (f y) (map f xs) ≡ false → Distinct (map f (xs ++ y ∷ []))
distinct_push f [] y d h = (refl, tt)
distinct_push f (x ∷ xs) y d h =
    let p = or_parts (eqb (f x) (f y)) (has (f y) (map f xs)) h in
    (has_push f (f x) xs y d.0 (ne_eqb (f y) (f x) (λ e. eqb-false (f x) (f y) p.0 (sym e))), distinct_push f xs y d.1 p.1)

links_push : (limit most : ℕ) (ls : List PatternLink) (l : PatternLink) → Links limit most ls → link_in limit l ≡ true → has (word_of (Link l)) (link_words ls) ≡ false → leb most (length ls) ≡ false → Links limit most (ls ++ l ∷ [])
links_push limit most ls l v r o t =
    record { few = omega (arith, leb-false most (length ls) t, length_push ls l); ranges = All-push (λ l. link_in limit l ≡ true) ls l v.ranges r; once = distinct_push (λ l. word_of (Link l)) ls l v.once o }

no_links : (limit most : ℕ) → Links limit most []
no_links limit most = record { few = omega arith; ranges = tt; once = tt }

abbrev Struck : (ℕ → ℕ) → ℕ → List ℕ → Type 0
Struck f limit ks = AllByRecursion (λ k. ltb k limit ≡ true) ks × Distinct (map f ks)

struck_push : (f : ℕ → ℕ) (limit : ℕ) (ks : List ℕ) (k : ℕ) → Struck f limit ks → ltb k limit ≡ true → has (f k) (map f ks) ≡ false → Struck f limit (ks ++ k ∷ [])
struck_push f limit ks k v r o = (All-push (λ k. ltb k limit ≡ true) ks k v.0 r, distinct_push f ks k v.1 o)

pub record Going (rs : List Rule) (n : ℕ) : Type 0 where
  pub each : AllByRecursion FormedRule rs
  pub room : length rs < 16
  pub variables : in_six n ≡ true

pub record Headed (h : Head) : Type 0 where
  pub going : Going h.rules h.variables
  pub some : 0 < length h.needs
  pub needs : Links h.variables 12 h.needs
  pub few : length h.bans ≤ 4
  pub bans : AllByRecursion (FormedBan h.variables) h.bans

abbrev strikes : ℕ → ℕ
strikes k = word_of (StrikesNeed k)

abbrev removes : ℕ → ℕ
removes k = word_of (StrikesThing k)

abbrev pub Sofar : Partial → Type 0
Sofar (outside rs) = FormedRules rs
Sofar (in_needs rs n ls) = Going rs n × Links n 12 ls
Sofar (in_shares h m ss) = Headed h × (length h.bans < 4) × (in_six m ≡ true) × (length ss < m) × AllByRecursion (λ s. share_in h.variables s ≡ true) ss
Sofar (in_links h m ss ls) = Headed h × (length h.bans < 4) × (in_six m ≡ true) × (length ss ≡ m) × AllByRecursion (λ s. share_in h.variables s ≡ true) ss × Links m 8 ls
Sofar (in_struck_needs h sn) = Headed h × Struck strikes (length h.needs) sn
Sofar (in_struck_things h sn st) = Headed h × Struck strikes (length h.needs) sn × Struck removes h.variables st
Sofar (in_makes h sn st k ls) = Headed h × Struck strikes (length h.needs) sn × Struck removes h.variables st × (leb k 4 ≡ true) × Links (h.variables + k) 12 ls

head_needs : (rs : List Rule) (n : ℕ) (x : PatternLink) (xs : List PatternLink) → Sofar (in_needs rs n (x ∷ xs)) → Headed (head_of (in_needs rs n (x ∷ xs)))
head_needs rs n x xs v = record { going = v.0; some = omega arith; needs = v.1; few = omega arith; bans = tt }

head_links : (h : Head) (m : ℕ) (ss : List Share) (x : PatternLink) (xs : List PatternLink) → Sofar (in_links h m ss (x ∷ xs)) → Headed (head_of (in_links h m ss (x ∷ xs)))
head_links h m ss x xs v =
    let b : Ban = record { variables = m; shares = ss; links = x ∷ xs } in
    record {
      going = v.0.going;
      some = v.0.some;
      needs = v.0.needs;
      few = omega (arith, length_push h.bans b, v.1);
      bans = All-push (FormedBan h.variables) h.bans b v.0.bans (record { variables = v.2; all = v.3; shares = v.4; some = omega arith; links = v.5 });
    }

closed : (h : Head) (sn st : List ℕ) (m : Option Making) → Headed h → Struck strikes (length h.needs) sn → Struck removes h.variables st → FormedMaking h.variables m → FormedRules (h.rules ++ made h sn st m ∷ [])
closed h sn st m v a b c =
    record {
      each = All-push FormedRule h.rules (made h sn st m) v.going.each (record { variables = v.going.variables; some = v.some; needs = v.needs; few = v.few; bans = v.bans; struck_needs = a.0; needs_once = a.1; struck_things = b.0; things_once = b.1; makes = c });
      few = omega (arith, v.going.room, length_push h.rules (made h sn st m));
    }

shares_kept : (h : Head) (m : ℕ) (ss : List Share) (y : Share) → share_in h.variables y ≡ true → Sofar (in_shares h m ss) → Sofar (grown (in_shares h m ss) (Shares y))
shares_kept h m ss y r v =
    let a = All-push (λ s. share_in h.variables s ≡ true) ss y v.4 r in
    cond_both (eqb (length ss + 1) m) (in_links h m (ss ++ y ∷ []) []) (in_shares h m (ss ++ y ∷ [])) Sofar
    (λ e. (v.0, v.1, v.2, length_push ss y ∙ eqb-true (length ss + 1) m e, a, no_links m 8))
    (λ e. (v.0, v.1, v.2, let z = eqb-false (length ss + 1) m e in let q = v.3 in let w = length_push ss y in (grind arith), a))

pub kept : (p : Partial) (i : Item) → may (numbers p).stage i ≡ true → in_range (numbers p) i ≡ true → (listed (numbers p).stage i && has (word_of i) (tail p)) ≡ false → too_many (numbers p) i ≡ false → Sofar p → Sofar (grown p i)
kept (outside rs) (Opens y) m' r o t v = (record { each = v.each; room = leb-false 16 (length rs) t; variables = r }, no_links y 12)
kept (outside rs) (Link y) m' r o t v = absurd (false≢true m')
kept (outside rs) (Bans y) m' r o t v = absurd (false≢true m')
kept (outside rs) (Shares y) m' r o t v = absurd (false≢true m')
kept (outside rs) (StrikesNeed y) m' r o t v = absurd (false≢true m')
kept (outside rs) (StrikesThing y) m' r o t v = absurd (false≢true m')
kept (outside rs) (Makes y) m' r o t v = absurd (false≢true m')
kept (outside rs) Ends m' r o t v = absurd (false≢true m')
kept (in_needs rs n []) (Opens y) m' r o t v = absurd (false≢true m')
kept (in_needs rs n []) (Link y) m' r o t v = (v.0, links_push n 12 [] y v.1 r o t)
kept (in_needs rs n []) (Bans y) m' r o t v = absurd (false≢true m')
kept (in_needs rs n []) (Shares y) m' r o t v = absurd (false≢true m')
kept (in_needs rs n []) (StrikesNeed y) m' r o t v = absurd (false≢true m')
kept (in_needs rs n []) (StrikesThing y) m' r o t v = absurd (false≢true m')
kept (in_needs rs n []) (Makes y) m' r o t v = absurd (false≢true m')
kept (in_needs rs n []) Ends m' r o t v = absurd (false≢true m')
kept (in_needs rs n (x ∷ xs)) (Opens y) m' r o t v = absurd (false≢true m')
kept (in_needs rs n (x ∷ xs)) (Link y) m' r o t v = (v.0, links_push n 12 (x ∷ xs) y v.1 r o t)
kept (in_needs rs n (x ∷ xs)) (Bans y) m' r o t v = (head_needs rs n x xs v, omega arith, r, (six y r).0, tt)
kept (in_needs rs n (x ∷ xs)) (Shares y) m' r o t v = absurd (false≢true m')
kept (in_needs rs n (x ∷ xs)) (StrikesNeed y) m' r o t v = (head_needs rs n x xs v, ((r, tt), (refl, tt)))
kept (in_needs rs n (x ∷ xs)) (StrikesThing y) m' r o t v = (head_needs rs n x xs v, (tt, tt), ((r, tt), (refl, tt)))
kept (in_needs rs n (x ∷ xs)) (Makes y) m' r o t v = (head_needs rs n x xs v, (tt, tt), (tt, tt), r, no_links _ 12)
kept (in_needs rs n (x ∷ xs)) Ends m' r o t v = closed (head_of (in_needs rs n (x ∷ xs))) [] [] None (head_needs rs n x xs v) (tt, tt) (tt, tt) tt
kept (in_shares h m ss) (Opens y) m' r o t v = absurd (false≢true m')
kept (in_shares h m ss) (Link y) m' r o t v = absurd (false≢true m')
kept (in_shares h m ss) (Bans y) m' r o t v = absurd (false≢true m')
kept (in_shares h m ss) (Shares y) m' r o t v = shares_kept h m ss y r v
kept (in_shares h m ss) (StrikesNeed y) m' r o t v = absurd (false≢true m')
kept (in_shares h m ss) (StrikesThing y) m' r o t v = absurd (false≢true m')
kept (in_shares h m ss) (Makes y) m' r o t v = absurd (false≢true m')
kept (in_shares h m ss) Ends m' r o t v = absurd (false≢true m')
kept (in_links h m ss []) (Opens y) m' r o t v = absurd (false≢true m')
kept (in_links h m ss []) (Link y) m' r o t v = (v.0, v.1, v.2, v.3, v.4, links_push m 8 [] y v.5 r o t)
kept (in_links h m ss []) (Bans y) m' r o t v = absurd (false≢true m')
kept (in_links h m ss []) (Shares y) m' r o t v = absurd (false≢true m')
kept (in_links h m ss []) (StrikesNeed y) m' r o t v = absurd (false≢true m')
kept (in_links h m ss []) (StrikesThing y) m' r o t v = absurd (false≢true m')
kept (in_links h m ss []) (Makes y) m' r o t v = absurd (false≢true m')
kept (in_links h m ss []) Ends m' r o t v = absurd (false≢true m')
kept (in_links h m ss (x ∷ xs)) (Opens y) m' r o t v = absurd (false≢true m')
kept (in_links h m ss (x ∷ xs)) (Link y) m' r o t v = (v.0, v.1, v.2, v.3, v.4, links_push m 8 (x ∷ xs) y v.5 r o t)
kept (in_links h m ss (x ∷ xs)) (Bans y) m' r o t v = (head_links h m ss x xs v, omega (arith, leb-false 4 (length h.bans + 1) t, length_push h.bans (record { variables = m; shares = ss; links = x ∷ xs })), r, (six y r).0, tt)
kept (in_links h m ss (x ∷ xs)) (Shares y) m' r o t v = absurd (false≢true m')
kept (in_links h m ss (x ∷ xs)) (StrikesNeed y) m' r o t v = (head_links h m ss x xs v, ((r, tt), (refl, tt)))
kept (in_links h m ss (x ∷ xs)) (StrikesThing y) m' r o t v = (head_links h m ss x xs v, (tt, tt), ((r, tt), (refl, tt)))
kept (in_links h m ss (x ∷ xs)) (Makes y) m' r o t v = (head_links h m ss x xs v, (tt, tt), (tt, tt), r, no_links _ 12)
kept (in_links h m ss (x ∷ xs)) Ends m' r o t v = closed (head_of (in_links h m ss (x ∷ xs))) [] [] None (head_links h m ss x xs v) (tt, tt) (tt, tt) tt
kept (in_struck_needs h sn) (Opens y) m' r o t v = absurd (false≢true m')
kept (in_struck_needs h sn) (Link y) m' r o t v = absurd (false≢true m')
kept (in_struck_needs h sn) (Bans y) m' r o t v = absurd (false≢true m')
kept (in_struck_needs h sn) (Shares y) m' r o t v = absurd (false≢true m')
kept (in_struck_needs h sn) (StrikesNeed y) m' r o t v = (v.0, struck_push strikes (length h.needs) sn y v.1 r o)
kept (in_struck_needs h sn) (StrikesThing y) m' r o t v = (v.0, v.1, ((r, tt), (refl, tt)))
kept (in_struck_needs h sn) (Makes y) m' r o t v = (v.0, v.1, (tt, tt), r, no_links (h.variables + y) 12)
kept (in_struck_needs h sn) Ends m' r o t v = closed h sn [] None v.0 v.1 (tt, tt) tt
kept (in_struck_things h sn st) (Opens y) m' r o t v = absurd (false≢true m')
kept (in_struck_things h sn st) (Link y) m' r o t v = absurd (false≢true m')
kept (in_struck_things h sn st) (Bans y) m' r o t v = absurd (false≢true m')
kept (in_struck_things h sn st) (Shares y) m' r o t v = absurd (false≢true m')
kept (in_struck_things h sn st) (StrikesNeed y) m' r o t v = absurd (false≢true m')
kept (in_struck_things h sn st) (StrikesThing y) m' r o t v = (v.0, v.1, struck_push removes h.variables st y v.2 r o)
kept (in_struck_things h sn st) (Makes y) m' r o t v = (v.0, v.1, v.2, r, no_links (h.variables + y) 12)
kept (in_struck_things h sn st) Ends m' r o t v = closed h sn st None v.0 v.1 v.2 tt
kept (in_makes h sn st k []) (Opens y) m' r o t v = absurd (false≢true m')
kept (in_makes h sn st k []) (Link y) m' r o t v = (v.0, v.1, v.2, v.3, links_push (h.variables + k) 12 [] y v.4 r o t)
kept (in_makes h sn st k []) (Bans y) m' r o t v = absurd (false≢true m')
kept (in_makes h sn st k []) (Shares y) m' r o t v = absurd (false≢true m')
kept (in_makes h sn st k []) (StrikesNeed y) m' r o t v = absurd (false≢true m')
kept (in_makes h sn st k []) (StrikesThing y) m' r o t v = absurd (false≢true m')
kept (in_makes h sn st k []) (Makes y) m' r o t v = absurd (false≢true m')
kept (in_makes h sn st k []) Ends m' r o t v = absurd (false≢true m')
kept (in_makes h sn st k (x ∷ xs)) (Opens y) m' r o t v = absurd (false≢true m')
kept (in_makes h sn st k (x ∷ xs)) (Link y) m' r o t v = (v.0, v.1, v.2, v.3, links_push (h.variables + k) 12 (x ∷ xs) y v.4 r o t)
kept (in_makes h sn st k (x ∷ xs)) (Bans y) m' r o t v = absurd (false≢true m')
kept (in_makes h sn st k (x ∷ xs)) (Shares y) m' r o t v = absurd (false≢true m')
kept (in_makes h sn st k (x ∷ xs)) (StrikesNeed y) m' r o t v = absurd (false≢true m')
kept (in_makes h sn st k (x ∷ xs)) (StrikesThing y) m' r o t v = absurd (false≢true m')
kept (in_makes h sn st k (x ∷ xs)) (Makes y) m' r o t v = absurd (false≢true m')
kept (in_makes h sn st k (x ∷ xs)) Ends m' r o t v = closed h sn st (Some (record { things = k; links = x ∷ xs })) v.0 v.1 v.2 (v.3, omega arith, v.4)

read_kept : (p : Partial) (w : ℕ) (q : Partial) → read_of p w ≡ Ok q → Sofar p → Sofar q
read_kept p w q h v =
    let r = read_some_item p w q h in
    let e : (listed (numbers p).stage r.0 && has (word_of r.0) (tail p)) ≡ false = ap (λ z. listed (numbers p).stage r.0 && has z (tail p)) (item_word w r.0 r.1.item) ∙ r.1.once in
    subst Sofar r.1.grows (kept p r.0 r.1.may r.1.range e r.1.room v)

ended_valid : (n : ℕ) (p : Partial) (rs : List Rule) → ended n p ≡ Ok rs → Sofar p → FormedRules rs
ended_valid n (outside qs) rs e v = let q : qs ≡ rs = cc in subst FormedRules q v
ended_valid n (in_needs qs k ls) rs e v = let z : ◌≡◌ {A = ℕ} 0 1 = cc in absurd (omega arith)
ended_valid n (in_shares h m ss) rs e v = let z : ◌≡◌ {A = ℕ} 0 1 = cc in absurd (omega arith)
ended_valid n (in_links h m ss ls) rs e v = let z : ◌≡◌ {A = ℕ} 0 1 = cc in absurd (omega arith)
ended_valid n (in_struck_needs h sn) rs e v = let z : ◌≡◌ {A = ℕ} 0 1 = cc in absurd (omega arith)
ended_valid n (in_struck_things h sn st) rs e v = let z : ◌≡◌ {A = ℕ} 0 1 = cc in absurd (omega arith)
ended_valid n (in_makes h sn st k ls) rs e v = let z : ◌≡◌ {A = ℕ} 0 1 = cc in absurd (omega arith)

pub scanned_valid : (ws : List ℕ) (rs : List Rule) → scanned ws ≡ Ok rs → FormedRules rs
scanned_valid ws rs h =
    let k = run_keeps Sofar read_kept 0 (outside []) ws rs h (record { each = tt; few = omega arith }) in
    ended_valid k.0 k.1 rs k.2 k.4
