-- the kinds of written words, and where a written run ends
use Rattle.std.proofs.Common.{◌≡◌, ℕ, suc, ◌+◌, ◌-◌, ◌/◌, ◌≤◌, true, ltb, List, [], ◌∷◌, ◌++◌, map, length, get_or, take, drop, Some, None, Option, sym, refl, ap, ◌∙◌, arith}
use Rattle.std.proofs.lemmas.List.{get_or-drop, drop-drop, drop_at, take_at}
use Rattle.std.proofs.ByRecursion.{All-append, All-weaker}
use Rattle.std.proofs.lemmas.Bool.{ltb-true, leb-true}
use Rattle.std.specs.List.{AllByRecursion}
use Rattle.words.specs.declared.items.PatternLink.{PatternLink}
use Rattle.words.specs.declared.items.Target.{Target}
use Rattle.words.specs.declared.items.Target.TheVariants.{Variable, Mark}
use Rattle.words.specs.declared.items.Share.{Share}
use Rattle.words.specs.declared.items.Item.TheVariants.{Link, Bans, Shares, StrikesNeed, StrikesThing, Makes, Ends}
use Rattle.words.specs.Words.{word_of, target_kind, link_of, share_of}
use Rattle.words.specs.Steps.{link_in, share_in}
use Rattle.words.proofs.Coding.{kind_of_word, link_of_word, share_of_word}
use Rattle.rules.specs.Rules.{Ban, Making, link_words, share_words, ban_words, bans_words, need_words, thing_words, makes_words}
use Rattle.rules.specs.Formed.{FormedBan, FormedMaking}
use Rattle.rules.specs.Runs.{within, span, end_of}
use Rattle.rules.proofs.Complete.{six, link_fits, share_fits}
use Rattle.rules.proofs.Spans.{Kinds, Starts, span_all, in_kind, wider}

target_kinds : (t : Target) → (2 ≤ target_kind t / 268435456) × (target_kind t / 268435456 ≤ 3)
target_kinds (Variable v) = (omega arith, omega arith)
target_kinds (Mark m) = (omega arith, omega arith)

pub kinds_links : (limit : ℕ) (ls : List PatternLink) → limit ≤ 256 → AllByRecursion (λ l. link_in limit l ≡ true) ls → Kinds 2 3 (link_words ls)
kinds_links limit [] h v = tt
kinds_links limit (l ∷ ls) h v =
    let t = target_kinds l.target in
    (in_kind 2 3 (target_kind l.target / 268435456) (word_of (Link l)) (kind_of_word (Link l) (link_fits limit l h v.0)) t.0 t.1, kinds_links limit ls h v.1)

pub kinds_shares : (n : ℕ) (ss : List Share) → n ≤ 256 → AllByRecursion (λ s. share_in n s ≡ true) ss → Kinds 5 5 (share_words ss)
kinds_shares n [] h v = tt
kinds_shares n (s ∷ ss) h v = (in_kind 5 5 5 (word_of (Shares s)) (kind_of_word (Shares s) (share_fits n s h v.0)) (omega arith) (omega arith), kinds_shares n ss h v.1)

pub kinds_needs : (n : ℕ) (ks : List ℕ) → n ≤ 256 → AllByRecursion (λ k. ltb k n ≡ true) ks → Kinds 6 6 (need_words ks)
kinds_needs n [] h v = tt
kinds_needs n (k ∷ ks) h v = (in_kind 6 6 6 (word_of (StrikesNeed k)) (kind_of_word (StrikesNeed k) (let z = ltb-true k n v.0 in omega arith)) (omega arith) (omega arith), kinds_needs n ks h v.1)

pub kinds_things : (n : ℕ) (ks : List ℕ) → n ≤ 256 → AllByRecursion (λ k. ltb k n ≡ true) ks → Kinds 7 7 (thing_words ks)
kinds_things n [] h v = tt
kinds_things n (k ∷ ks) h v = (in_kind 7 7 7 (word_of (StrikesThing k)) (kind_of_word (StrikesThing k) (let z = ltb-true k n v.0 in omega arith)) (omega arith) (omega arith), kinds_things n ks h v.1)

pub kinds_wider : (a b low high : ℕ) (ws : List ℕ) → low ≤ a → b ≤ high → Kinds a b ws → Kinds low high ws
kinds_wider a b low high ws p q h = All-weaker (λ w. within a b w ≡ true) (λ w. within low high w ≡ true) (λ w. wider a b low high w p q) ws h

pub kinds_join : (low high : ℕ) (xs ys : List ℕ) → Kinds low high xs → Kinds low high ys → Kinds low high (xs ++ ys)
kinds_join low high xs ys a b = All-append (λ w. within low high w ≡ true) xs ys a b

-- links and ban variables come back from their words
pub links_back : (limit : ℕ) (ls : List PatternLink) → limit ≤ 256 → AllByRecursion (λ l. link_in limit l ≡ true) ls → map link_of (link_words ls) ≡ ls
links_back limit [] h v = refl
links_back limit (l ∷ ls) h v = ap (λ z. z ∷ map link_of (link_words ls)) (link_of_word l (link_fits limit l h v.0)) ∙ ap (λ z. l ∷ z) (links_back limit ls h v.1)

pub shares_back : (n : ℕ) (ss : List Share) → n ≤ 256 → AllByRecursion (λ s. share_in n s ≡ true) ss → map share_of (share_words ss) ≡ ss
shares_back n [] h v = refl
shares_back n (s ∷ ss) h v = ap (λ z. z ∷ map share_of (share_words ss)) (share_of_word s (share_fits n s h v.0)) ∙ ap (λ z. s ∷ z) (shares_back n ss h v.1)

pub kinds_ban : (n : ℕ) (b : Ban) → n ≤ 6 → FormedBan n b → Kinds 2 5 (ban_words b)
kinds_ban n b h v =
    let s = six b.variables v.variables in (
      in_kind 2 5 4 (word_of (Bans b.variables)) (kind_of_word (Bans b.variables) (omega arith)) (omega arith) (omega arith),
      kinds_join 2 5 (share_words b.shares) (link_words b.links)
          (kinds_wider 5 5 2 5 (share_words b.shares) (omega arith) (omega arith) (kinds_shares n b.shares (omega arith) v.shares))
          (kinds_wider 2 3 2 5 (link_words b.links) (omega arith) (omega arith) (kinds_links b.variables b.links (omega arith) v.links.ranges)),
    )

pub kinds_bans : (n : ℕ) (bs : List Ban) → n ≤ 6 → AllByRecursion (FormedBan n) bs → Kinds 2 5 (bans_words bs)
kinds_bans n [] h v = tt
kinds_bans n (b ∷ bs) h v = kinds_join 2 5 (ban_words b) (bans_words bs) (kinds_ban n b h v.0) (kinds_bans n bs h v.1)

-- the first word of what is left of a rule
module _ (n : ℕ) (f : n ≤ 6) where
  pub starts_makes : (m : Option Making) → FormedMaking n m → Starts 8 (makes_words m ++ word_of Ends ∷ [])
  starts_makes None v = omega arith
  starts_makes (Some m) v = let k = leb-true m.things 4 v.0 in omega (arith, kind_of_word (Makes m.things) (omega arith))

  pub starts_things : (st : List ℕ) (m : Option Making) → AllByRecursion (λ k. ltb k n ≡ true) st → FormedMaking n m → Starts 7 (thing_words st ++ (makes_words m ++ word_of Ends ∷ []))
  starts_things [] None a v = omega arith
  starts_things [] (Some m) a v = let k = leb-true m.things 4 v.0 in omega (arith, kind_of_word (Makes m.things) (omega arith))
  starts_things (k ∷ ks) m a v = let z = ltb-true k n a.0 in omega (arith, kind_of_word (StrikesThing k) (omega arith))

  pub starts_strikes : (c : ℕ) (sn st : List ℕ) (m : Option Making) → c ≤ 12 → AllByRecursion (λ k. ltb k c ≡ true) sn → AllByRecursion (λ k. ltb k n ≡ true) st → FormedMaking n m → Starts 6 (need_words sn ++ (thing_words st ++ (makes_words m ++ word_of Ends ∷ [])))
  starts_strikes c [] [] None q b a v = omega arith
  starts_strikes c [] [] (Some m) q b a v = let k = leb-true m.things 4 v.0 in omega (arith, kind_of_word (Makes m.things) (omega arith))
  starts_strikes c [] (k ∷ ks) m q b a v = let z = ltb-true k n a.0 in omega (arith, kind_of_word (StrikesThing k) (omega arith))
  starts_strikes c (k ∷ ks) st m q b a v = let z = ltb-true k c b.0 in omega (arith, kind_of_word (StrikesNeed k) (omega arith))

  pub starts_bans : (c : ℕ) (bs : List Ban) (sn st : List ℕ) (m : Option Making) → c ≤ 12 → AllByRecursion (FormedBan n) bs → AllByRecursion (λ k. ltb k c ≡ true) sn → AllByRecursion (λ k. ltb k n ≡ true) st → FormedMaking n m → Starts 4 (bans_words bs ++ (need_words sn ++ (thing_words st ++ (makes_words m ++ word_of Ends ∷ []))))
  starts_bans c (b ∷ bs) sn st m q d e a v = let z = six b.variables d.0.variables in omega (arith, kind_of_word (Bans b.variables) (omega arith))
  starts_bans c [] (k ∷ ks) st m q d e a v = let z = ltb-true k c e.0 in omega (arith, kind_of_word (StrikesNeed k) (omega arith))
  starts_bans c [] [] (k ∷ ks) m q d e a v = let z = ltb-true k n a.0 in omega (arith, kind_of_word (StrikesThing k) (omega arith))
  starts_bans c [] [] [] (Some m) q d e a v = let k = leb-true m.things 4 v.0 in omega (arith, kind_of_word (Makes m.things) (omega arith))
  starts_bans c [] [] [] None q d e a v = omega arith

-- the word at a place, and what follows it
pub head_at : (ws : List ℕ) (at w : ℕ) (tl : List ℕ) → drop at ws ≡ w ∷ tl → get_or ws at 0 ≡ w
head_at ws at w tl e = let q : at + 0 ≡ at = omega arith in ap (λ z. get_or ws z 0) (sym q) ∙ sym (get_or-drop at ws 0 0) ∙ ap (λ z. get_or z 0 0) e

pub tail_at : (ws : List ℕ) (at w : ℕ) (tl : List ℕ) → drop at ws ≡ w ∷ tl → drop (at + 1) ws ≡ tl
tail_at ws at w tl e = sym (drop-drop 1 at ws) ∙ ap (drop 1) e

pub past_at : (ws : List ℕ) (at : ℕ) (p q : List ℕ) → drop at ws ≡ p ++ q → drop (at + length p) ws ≡ q
past_at ws at p q e = sym (drop-drop (length p) at ws) ∙ ap (drop (length p)) e ∙ drop_at p q (length p) refl

pub end_at : (low high : ℕ) (ws : List ℕ) (at : ℕ) (p q : List ℕ) → drop at ws ≡ p ++ q → Kinds low high p → Starts (suc high) q → end_of low high ws at ≡ at + length p
end_at low high ws at p q e k s = ap (λ z. at + span low high z) e ∙ ap (λ n. at + n) (span_all low high p q k s)

pub run_at : (ws : List ℕ) (at to : ℕ) (p q : List ℕ) → drop at ws ≡ p ++ q → to ≡ at + length p → take (to - at) (drop at ws) ≡ p
run_at ws at to p q e t = let n : to - at ≡ length p = omega arith in ap (λ z. take z (drop at ws)) n ∙ ap (take (length p)) e ∙ take_at p q (length p) refl
