-- runs of words of like kinds
use Rattle.std.proofs.Common.{◌≡◌, ℕ, suc, ◌+◌, ◌/◌, ◌<◌, ◌≤◌, true, false, cond, leb, List, [], ◌∷◌, ◌++◌, length, get_or, drop, refl, ap, ◌∙◌, arith}
use Rattle.std.proofs.lemmas.List.{at_drop_more}
use Rattle.std.proofs.lemmas.Bool.{leb-true, le-leb, lt-leb, and_parts, and_from, and_right}
use Rattle.std.specs.List.{AllByRecursion}
use Rattle.rules.specs.Runs.{within, span}

module _ (low high : ℕ) (ws : List ℕ) (i : ℕ) (h : i < length ws) where
  pub span_stop : within low high (get_or ws i 0) ≡ false → span low high (drop i ws) ≡ 0
  span_stop e = at_drop_more (span low high) ws i 0 h ∙ ap (λ b. cond b (1 + span low high (drop (i + 1) ws)) 0) e

  pub span_on : within low high (get_or ws i 0) ≡ true → span low high (drop i ws) ≡ 1 + span low high (drop (i + 1) ws)
  span_on e = at_drop_more (span low high) ws i 0 h ∙ ap (λ b. cond b (1 + span low high (drop (i + 1) ws)) 0) e

-- every word has a kind from low to high
abbrev pub Kinds : ℕ → ℕ → List ℕ → Type 0
Kinds low high ws = AllByRecursion (λ w. within low high w ≡ true) ws

-- the first word, if there is one, has a kind from low on
abbrev pub Starts : ℕ → List ℕ → Type 0
Starts low [] = Unit {0}
Starts low (w ∷ ws) = low ≤ w / 268435456

pub span_exact : (low high : ℕ) (ws rest : List ℕ) → Kinds low high ws → span low high rest ≡ 0 → span low high (ws ++ rest) ≡ length ws
span_exact low high [] rest g e = e
span_exact low high (x ∷ xs) rest g e = ap (λ b. cond b (1 + span low high (xs ++ rest)) 0) g.0 ∙ ap (λ n. 1 + n) (span_exact low high xs rest g.1 e) ∙ omega arith

pub stops : (low high : ℕ) (ws : List ℕ) → Starts (suc high) ws → span low high ws ≡ 0
stops low high [] h = refl
stops low high (w ∷ ws) h = ap (λ b. cond b (1 + span low high ws) 0) (and_right (leb low (w / 268435456)) (leb (w / 268435456) high) (lt-leb (w / 268435456) high (omega arith)))

pub span_all : (low high : ℕ) (ws rest : List ℕ) → Kinds low high ws → Starts (suc high) rest → span low high (ws ++ rest) ≡ length ws
span_all low high ws rest k s = span_exact low high ws rest k (stops low high rest s)

pub in_kind : (low high k w : ℕ) → w / 268435456 ≡ k → low ≤ k → k ≤ high → within low high w ≡ true
in_kind low high k w e a b = and_from (leb low (w / 268435456)) (leb (w / 268435456) high) (le-leb low (w / 268435456) (omega arith)) (le-leb (w / 268435456) high (omega arith))

pub wider : (a b low high : ℕ) (w : ℕ) → low ≤ a → b ≤ high → within a b w ≡ true → within low high w ≡ true
wider a b low high w p q h =
    let k = and_parts (leb a (w / 268435456)) (leb (w / 268435456) b) h in
    in_kind low high (w / 268435456) w refl (let z = leb-true a (w / 268435456) k.0 in omega arith) (let z = leb-true (w / 268435456) b k.1 in omega arith)
