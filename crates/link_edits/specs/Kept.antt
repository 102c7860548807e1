-- An edit keeps a set's order, and keeps its links inside the sizes.
use Rattle.std.specs.Prelude.{◌≡◌, ℕ, true, not, ◌&&◌, List, [], ◌∷◌}
use Rattle.std.proofs.lemmas.Bool.{cond_both, and_parts, not-true}
use Rattle.ordered.proofs.Laws.{ascending_placed, ascending_without}
use Rattle.links.specs.declared.link.Link.{Link}
use Rattle.links.specs.Sets.{link_before, rising, member, inserted, removed, inside, all_inside}
use Rattle.links.specs.Order.{link_order}
use Rattle.links.proofs.Inside.{all_inserted, all_removed}
use Rattle.link_edits.specs.Edits.{with_link, with_all, without_all, edited}

rising_with : (n : ℕ) (l : Link) (ls : List Link) → rising ls ≡ true → rising (with_link n l ls) ≡ true
rising_with n l ls r =
    cond_both (inside n l && not (member l ls)) (inserted l ls) ls (λ v. rising v ≡ true)
    (λ h. ascending_placed link_before link_order l ls r (not-true (member l ls) (and_parts (inside n l) (not (member l ls)) h).1))
    (λ _. r)

inside_with : (n : ℕ) (l : Link) (ls : List Link) → all_inside n ls ≡ true → all_inside n (with_link n l ls) ≡ true
inside_with n l ls i =
    cond_both (inside n l && not (member l ls)) (inserted l ls) ls (λ v. all_inside n v ≡ true)
    (λ h. all_inserted n l ls (and_parts (inside n l) (not (member l ls)) h).0 i)
    (λ _. i)

rising_with_all : (n : ℕ) (on ls : List Link) → rising ls ≡ true → rising (with_all n on ls) ≡ true
rising_with_all n [] ls r = r
rising_with_all n (m ∷ ms) ls r = rising_with_all n ms (with_link n m ls) (rising_with n m ls r)

inside_with_all : (n : ℕ) (on ls : List Link) → all_inside n ls ≡ true → all_inside n (with_all n on ls) ≡ true
inside_with_all n [] ls i = i
inside_with_all n (m ∷ ms) ls i = inside_with_all n ms (with_link n m ls) (inside_with n m ls i)

pub rising_off : (off ls : List Link) → rising ls ≡ true → rising (without_all off ls) ≡ true
rising_off [] ls r = r
rising_off (m ∷ ms) ls r = rising_off ms (removed m ls) (ascending_without link_before m ls r)

inside_off : (n : ℕ) (off ls : List Link) → all_inside n ls ≡ true → all_inside n (without_all off ls) ≡ true
inside_off n [] ls i = i
inside_off n (m ∷ ms) ls i = inside_off n ms (removed m ls) (all_removed n m ls i)

pub rising_edited : (n : ℕ) (off on ls : List Link) → rising ls ≡ true → rising (edited n off on ls) ≡ true
rising_edited n off on ls r = rising_with_all n on (without_all off ls) (rising_off off ls r)

pub inside_edited : (n : ℕ) (off on ls : List Link) → all_inside n ls ≡ true → all_inside n (edited n off on ls) ≡ true
inside_edited n off on ls i = inside_with_all n on (without_all off ls) (inside_off n off ls i)
