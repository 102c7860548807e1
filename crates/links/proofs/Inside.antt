-- Links inside the sizes, and what lies outside them.
use Rattle.std.proofs.Common.{◌≡◌, ℕ, ◌+◌, ◌<◌, ◌≤◌, true, false, List, [], ◌∷◌, refl, arith}
use Rattle.std.proofs.lemmas.Bool.{cond_both, and_parts, and_from, or_from}
use Rattle.std.proofs.lemmas.Bool.Decides.{nat_tests}
use Rattle.ordered.specs.Order.{same}
use Rattle.links.specs.declared.link.Link.{Link}
use Rattle.links.specs.Sets.{link_of, link_before, inserted, removed, member, inside, all_inside}

outside_same : (t : ℕ) (x m : Link) → inside t x ≡ false → inside t m ≡ true → same link_before x m ≡ false
outside_same t x m h k = grind (arith, nat_tests)

-- what lies outside is no member
pub member_outside : (t : ℕ) (x : Link) (ls : List Link) → inside t x ≡ false → all_inside t ls ≡ true → member x ls ≡ false
member_outside t x [] h k = refl
member_outside t x (m ∷ ms) h k =
    let q = and_parts (inside t m) (all_inside t ms) k in
    or_from (same link_before x m) (member x ms) (outside_same t x m h q.0) (member_outside t x ms h q.1)

pub all_inserted : (t : ℕ) (l : Link) (ls : List Link) → inside t l ≡ true → all_inside t ls ≡ true → all_inside t (inserted l ls) ≡ true
all_inserted t l [] h k = and_from (inside t l) true h refl
all_inserted t l (m ∷ ms) h k =
    let q = and_parts (inside t m) (all_inside t ms) k in
    cond_both (link_before m l) (m ∷ inserted l ms) (l ∷ m ∷ ms) (λ v. all_inside t v ≡ true)
    (λ _. and_from (inside t m) (all_inside t (inserted l ms)) q.0 (all_inserted t l ms h q.1))
    (λ _. and_from (inside t l) (all_inside t (m ∷ ms)) h k)

pub all_removed : (t : ℕ) (l : Link) (ls : List Link) → all_inside t ls ≡ true → all_inside t (removed l ls) ≡ true
all_removed t l [] k = refl
all_removed t l (m ∷ ms) k =
    let q = and_parts (inside t m) (all_inside t ms) k in
    cond_both (same link_before l m) (removed l ms) (m ∷ removed l ms) (λ v. all_inside t v ≡ true)
    (λ _. all_removed t l ms q.1)
    (λ _. and_from (inside t m) (all_inside t (removed l ms)) q.0 (all_removed t l ms q.1))

-- a source below the things, and one past them
pub outside_marks : (t s b x : ℕ) → s < 64 → inside t (link_of s b x) ≡ false
outside_marks t s b x l = grind (arith, nat_tests)

pub outside_source : (t s b x : ℕ) → 64 + t ≤ s → inside t (link_of s b x) ≡ false
outside_source t s b x l = grind (arith, nat_tests)

-- a target past the things
pub outside_target : (t s b x : ℕ) → 64 + t ≤ x → inside t (link_of s b x) ≡ false
outside_target t s b x l = grind (arith, nat_tests)
