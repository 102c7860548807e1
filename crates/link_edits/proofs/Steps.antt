-- What a switching leaves, whatever it answers.
use Rattle.std.proofs.Common.{◌≡◌, ℕ, zero, suc, ◌+◌, ◌≤◌, Bool, true, false, cond, not, ◌&&◌, leb, List, [], ◌∷◌, length, take, Some, None, Option, Ok, Err, Result, sym, refl, ap, ◌∙◌, arith}
use Rattle.std.proofs.lemmas.List.{take_all}
use Rattle.std.proofs.lemmas.Bool.{cond_both, both_ways, lt-leb}
use Rattle.ordered.proofs.Laws.{without_none}
use Rattle.links.specs.declared.link.Link.{Link}
use Rattle.links.specs.declared.switch_refusal.SwitchRefusal.{SwitchRefusal}
use Rattle.links.specs.declared.switch_refusal.SwitchRefusal.TheVariants.{NoSuchLink, AlreadyOn, NotOn, Full}
use Rattle.links.specs.Sets.{LinkSet, link_before, member, inserted, removed, inside, all_inside, with_links}
use Rattle.links.specs.Answers.{Switched, SwitchedOn, SwitchedOff}
use Rattle.links.proofs.Inside.{member_outside}
use Rattle.link_edits.specs.Edits.{with_link, with_all}
use Rattle.link_edits.proofs.Edits.{length_with}

-- a switching off, taken or refused, leaves the set without the link
pub off_step : (g after : LinkSet) (l : Link) (r : Result (Unit {0}) SwitchRefusal) → all_inside g.things g.links ≡ true → SwitchedOff l g r after → after ≡ with_links (removed l g.links) g
off_step g after l (Ok _) i s = s.1
off_step g after l (Err e) i s = s.1 ∙ ap (λ v. with_links v g) (sym (without_none link_before l g.links (why (inside g.things l) (member l g.links) s.0 (λ o. member_outside g.things l g.links o i))))
  where
    why : (a b : Bool) → cond a (cond b None (Some NotOn)) (Some NoSuchLink) ≡ Some e → (a ≡ false → b ≡ false) → b ≡ false
    why true true h k = absurd (let z : ◌≡◌ {A = ℕ} 0 1 = cc in omega arith)
    why true false h k = refl
    why false b h k = k refl

-- a switching on leaves the set with the link, if that set is within the limit
pub on_step : (g after : LinkSet) (l : Link) (r : Result (Unit {0}) SwitchRefusal) → length (with_link g.things l g.links) ≤ g.limit → SwitchedOn l g r after → after ≡ with_links (with_link g.things l g.links) g
on_step g after l (Ok _) h s = let n = g.things in let limit = g.limit in let ls = g.links in s.1 ∙ ap (λ v. with_links v g) (new (inside n l) (member l ls) (leb limit (length ls)) s.0)
  where
    new : (a b d : Bool) → cond a (cond b (Some AlreadyOn) (cond d (Some Full) None)) (Some NoSuchLink) ≡ None → inserted l g.links ≡ cond (a && not b) (inserted l g.links) g.links
    new true true d e = absurd (let z : ◌≡◌ {A = ℕ} 0 1 = cc in omega arith)
    new true false d e = refl
    new false b d e = absurd (let z : ◌≡◌ {A = ℕ} 0 1 = cc in omega arith)
on_step g after l (Err f) h s =
    let n = g.things in let limit = g.limit in let ls = g.links in
    s.1 ∙ ap (λ v. with_links v g) (old (inside n l) (member l ls) (leb limit (length ls)) s.0 (λ a b. lt-leb limit (length ls) (let e = length_with n l ls ∙ ap (λ v. cond (v && not (member l ls)) (length ls + 1) (length ls)) a ∙ ap (λ v. cond (not v) (length ls + 1) (length ls)) b in omega arith)))
  where
    old : (a b d : Bool) → cond a (cond b (Some AlreadyOn) (cond d (Some Full) None)) (Some NoSuchLink) ≡ Some f → (a ≡ true → b ≡ false → d ≡ false) → g.links ≡ cond (a && not b) (inserted l g.links) g.links
    old true true d e h = refl
    old true false true e h = absurd (both_ways true (h refl refl) refl)
    old true false false e h = absurd (let z : ◌≡◌ {A = ℕ} 0 1 = cc in omega arith)
    old false b d e h = refl

-- a switching keeps the sizes
pub sizes_stay : (why : Option SwitchRefusal) (new : List Link) (g after : LinkSet) (r : Result (Unit {0}) SwitchRefusal) → Switched why new g r after → after ≡ with_links after.links g
sizes_stay why new g after (Ok _) h = h.1 ∙ ap (λ v. with_links v g) (sym (ap (λ v. v.links) h.1))
sizes_stay why new g after (Err e) h = h.1 ∙ ap (λ v. with_links v g) (sym (ap (λ v. v.links) h.1))

grows_one : (n : ℕ) (l : Link) (ls : List Link) → length ls ≤ length (with_link n l ls)
grows_one n l ls = rw (length_with n l ls) (cond_both (inside n l && not (member l ls)) (length ls + 1) (length ls) (λ v. length ls ≤ v) (λ _. omega arith) (λ _. omega arith))

pub grows : (n : ℕ) (on ls : List Link) → length ls ≤ length (with_all n on ls)
grows n [] ls = omega arith
grows n (m ∷ ms) ls = let h = grows n ms (with_link n m ls) in let k = grows_one n m ls in omega arith

-- the first of the links to be on are within the limit where all are
pub front_fits : (n : ℕ) (on : List Link) (i : ℕ) (ls : List Link) → length (with_all n (take i on) ls) ≤ length (with_all n on ls)
front_fits n [] i ls = rw take_none (omega arith)
  where
    take_none : take {A = Link} i [] ≡ []
    take_none = take_all i [] (omega arith)
front_fits n (m ∷ ms) zero ls = grows n (m ∷ ms) ls
front_fits n (m ∷ ms) (suc k) ls = front_fits n ms k (with_link n m ls)
