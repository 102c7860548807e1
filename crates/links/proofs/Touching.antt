-- A thing that a link touches. Assumes nothing.
use Rattle.std.proofs.Common.{◌≡◌, ℕ, ◌<◌, true, false, List, [], ◌∷◌, refl, ⊎_elim, arith}
use Rattle.std.proofs.lemmas.Bool.{and_parts, or_cases, or_left, or_right, or_from, or_parts, both_ways}
use Rattle.std.proofs.lemmas.Bool.Decides.{nat_tests}
use Rattle.links.specs.declared.link.Link.{Link}
use Rattle.ordered.specs.Order.{same}
use Rattle.links.specs.Sets.{member, link_before, touches, touched, inside, all_inside, link_of}

same_touches : (t : ℕ) (x m : Link) → touches t x ≡ true → same link_before x m ≡ true → touches t m ≡ true
same_touches t x m h k = grind (arith, nat_tests)

pub touched_by : (t : ℕ) (x : Link) (ls : List Link) → touches t x ≡ true → member x ls ≡ true → touched t ls ≡ true
touched_by t x [] h k = absurd (both_ways false refl k)
touched_by t x (m ∷ ms) h k =
    ⊎_elim (λ e. or_left (touches t m) (touched t ms) (same_touches t x m h e)) (λ e. or_right (touches t m) (touched t ms) (touched_by t x ms h e)) (or_cases (same link_before x m) (member x ms) k)

source_touches : (t b x : ℕ) → touches t (link_of t b x) ≡ true
source_touches t b x = grind (arith, nat_tests)

target_touches : (t b x : ℕ) → touches t (link_of x b t) ≡ true
target_touches t b x = grind (arith, nat_tests)

pub touched_source : (t b x : ℕ) (ls : List Link) → member (link_of t b x) ls ≡ true → touched t ls ≡ true
touched_source t b x ls = touched_by t (link_of t b x) ls (source_touches t b x)

pub touched_target : (t b x : ℕ) (ls : List Link) → member (link_of x b t) ls ≡ true → touched t ls ≡ true
touched_target t b x ls = touched_by t (link_of x b t) ls (target_touches t b x)

label_small : (n : ℕ) (m : Link) → inside n m ≡ true → m.label < 16
label_small n m h = grind (arith, nat_tests)

apart : (t : ℕ) (m : Link) → same link_before (link_of t m.label m.target) m ≡ false → same link_before (link_of m.source m.label t) m ≡ false → touches t m ≡ false
apart t m h k = grind (arith, nat_tests)

pub untouched : (n t : ℕ) (ls : List Link) → all_inside n ls ≡ true → ((b x : ℕ) → b < 16 → (member (link_of t b x) ls ≡ false) × (member (link_of x b t) ls ≡ false)) → touched t ls ≡ false
untouched n t [] h k = refl
untouched n t (m ∷ ms) h k =
    let p = and_parts (inside n m) (all_inside n ms) h in
    let l = label_small n m p.0 in
    or_from (touches t m) (touched t ms)
    (apart t m (or_parts (same link_before (link_of t m.label m.target) m) (member (link_of t m.label m.target) ms) (k m.label m.target l).0).0 (or_parts (same link_before (link_of m.source m.label t) m) (member (link_of m.source m.label t) ms) (k m.label m.source l).1).0)
    (untouched n t ms p.1 (λ b x s. ((or_parts (same link_before (link_of t b x) m) (member (link_of t b x) ms) (k b x s).0).1, (or_parts (same link_before (link_of x b t) m) (member (link_of x b t) ms) (k b x s).1).1)))
