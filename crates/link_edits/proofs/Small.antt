-- There are not many links inside the sizes.
use Rattle.std.proofs.Common.{◌≡◌, ℕ, ◌+◌, ◌*◌, ◌^◌, ◌<◌, ◌≤◌, true, List, [], ◌∷◌, length, ap, ⊎_elim, mul-le-mul_left, mul-add, arith}
use Rattle.std.proofs.lemmas.Bool.{and_parts, cases_lt}
use Rattle.std.proofs.lemmas.Bool.Decides.{nat_tests}
use Rattle.ordered.specs.Order.{leads}
use Rattle.links.specs.declared.link.Link.{Link}
use Rattle.links.specs.Sets.{link_before, rising, inside, all_inside}

-- the place of a source and a label, and of a link, among those that there may be
abbrev line : Link → ℕ
line x = x.source * 16 + x.label

abbrev place : ℕ → Link → ℕ
place k x = k * line x + x.target

place_below : (n : ℕ) (x : Link) → inside n x ≡ true → place (64 + n) x < (64 + n) * ((64 + n) * 16)
place_below n x h =
    let t : x.target < 64 + n = grind (arith, nat_tests) in
    let s : x.source < 64 + n = grind (arith, nat_tests) in
    let l : x.label < 16 = grind (arith, nat_tests) in
    let r : line x + 1 ≤ (64 + n) * 16 = omega arith in
    let m = mul-le-mul_left (64 + n) r in
    let e = mul-add (64 + n) (line x) 1 in
    omega arith

place_rises : (n : ℕ) (x y : Link) → inside n x ≡ true → link_before x y ≡ true → place (64 + n) x < place (64 + n) y
place_rises n x y h b =
    ⊎_elim
    (λ c. let t : x.target < 64 + n = grind (arith, nat_tests) in
    let r : line x + 1 ≤ line y = omega arith in
    let m = mul-le-mul_left (64 + n) r in
    let e = mul-add (64 + n) (line x) 1 in
    omega arith)
    (λ c. let e : line y ≡ line x = grind (arith, nat_tests) in
    let t : x.target < y.target = grind (arith, nat_tests) in
    let m = ap (λ v. (64 + n) * v) e in
    omega arith)
    (cases_lt (line x) (line y))

small_from : (n : ℕ) (m : Link) (ms : List Link) → rising (m ∷ ms) ≡ true → all_inside n (m ∷ ms) ≡ true → length (m ∷ ms) + place (64 + n) m ≤ (64 + n) * ((64 + n) * 16)
small_from n m [] r i = let h = place_below n m (and_parts (inside n m) true i).0 in omega arith
small_from n m (y ∷ ys) r i =
    let k = and_parts (leads link_before m (y ∷ ys)) (rising (y ∷ ys)) r in
    let j = and_parts (inside n m) (all_inside n (y ∷ ys)) i in
    let p = and_parts (link_before m y) (leads link_before m ys) k.0 in
    let h = place_rises n m y j.0 p.0 in
    let t = small_from n y ys k.1 j.1 in
    omega arith

pub small : (n : ℕ) (ls : List Link) → rising ls ≡ true → all_inside n ls ≡ true → n ≤ 448 → length ls < 2 ^ 32
small n [] r i h = omega arith
small n (m ∷ ms) r i h =
    let k = small_from n m ms r i in
    let a : (64 + n) * 16 ≤ 8192 = omega arith in
    let b = mul-le-mul_left (64 + n) a in
    omega arith
