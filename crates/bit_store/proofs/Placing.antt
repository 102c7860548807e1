-- The place of a link, and the link of a place.
use Rattle.std.proofs.Common.{◌≡◌, ℕ, zero, suc, ◌+◌, ◌-◌, ◌*◌, ◌/◌, ◌%◌, ◌<◌, ◌≤◌, true, false, ◌&&◌, ltb, leb, ◌⊎◌, ap, ◌∙◌, subst, inl, inr, ⊎_elim, mul_comm, arith}
use Rattle.std.proofs.lemmas.Nat.{mul-add-lt, div-mul-add, mod-mul-add, div_below, mod_below, div-add-mod'}
use Rattle.std.proofs.lemmas.Bool.{cases_order, and_parts, ltb-true, leb-true}
use Rattle.std.proofs.lemmas.Bool.Decides.{nat_tests}
use Rattle.links.specs.declared.link.Link.{Link}
use Rattle.links.specs.Sets.{link_before, inside, link_of}
use Rattle.bit_store.specs.Places.{place, link_at, places, words_for}

pub record Sized (t : ℕ) (l : Link) : Type 0 where
  pub low : 64 ≤ l.source
  pub high : l.source < 64 + t
  pub label : l.label < 16
  pub target : l.target < 64 + t

pub sized : (t : ℕ) (l : Link) → inside t l ≡ true → Sized t l
sized t l h =
    let p = and_parts (leb 64 l.source && ltb l.source (64 + t)) (ltb l.label 16 && ltb l.target (64 + t)) h in
    let a = and_parts (leb 64 l.source) (ltb l.source (64 + t)) p.0 in
    let b = and_parts (ltb l.label 16) (ltb l.target (64 + t)) p.1 in
    record { low = leb-true 64 l.source a.0; high = ltb-true l.source (64 + t) a.1; label = ltb-true l.label 16 b.0; target = ltb-true l.target (64 + t) b.1 }

pub place_below : (t : ℕ) (l : Link) → inside t l ≡ true → place t l < places t
unfolding place
place_below t l h =
    let z = sized t l h in
    let q : (l.source - 64) * 16 + l.label < t * 16 = omega arith in
    subst (λ (x : ℕ). ((l.source - 64) * 16 + l.label) * (64 + t) + l.target < x) (mul_comm (64 + t) (t * 16)) (mul-add-lt ((l.source - 64) * 16 + l.label) (64 + t) l.target (t * 16) q z.target)

pub link_at_place : (t : ℕ) (l : Link) → inside t l ≡ true → link_at t (place t l) ≡ l
unfolding place link_at
link_at_place t l h =
    let z = sized t l h in
    let q = (l.source - 64) * 16 + l.label in
    let d : (q * (64 + t) + l.target) / (64 + t) ≡ q = div-mul-add q (64 + t) l.target z.target in
    let m : (q * (64 + t) + l.target) % (64 + t) ≡ l.target = mod-mul-add q (64 + t) l.target z.target in
    let s : 64 + q / 16 ≡ l.source = ap (λ (x : ℕ). 64 + x) (div-mul-add (l.source - 64) 16 l.label z.label) ∙ omega arith in
    let b : q % 16 ≡ l.label = mod-mul-add (l.source - 64) 16 l.label z.label in
    rw (d, m, s, b)

pub inside_link_at : (t n : ℕ) → n < places t → inside t (link_at t n) ≡ true
unfolding link_at
inside_link_at t n h =
    let q : n / (64 + t) < t * 16 = div_below n (64 + t) (t * 16) (omega arith) h in
    let r : n % (64 + t) < 64 + t = mod_below n (64 + t) (omega arith) in
    let a : n / (64 + t) / 16 < t = omega arith in
    let b : n / (64 + t) % 16 < 16 = omega arith in
    grind (arith, nat_tests)

pub link_at_rises : (t i j : ℕ) → i < j → link_before (link_at t i) (link_at t j) ≡ true
unfolding link_at
link_at_rises t i j h =
    let ei = div-add-mod' i (64 + t) in
    let ej = div-add-mod' j (64 + t) in
    let ri : i % (64 + t) < 64 + t = mod_below i (64 + t) (omega arith) in
    let rj : j % (64 + t) < 64 + t = mod_below j (64 + t) (omega arith) in
    lex (i / (64 + t)) (j / (64 + t)) (i % (64 + t)) (j % (64 + t))
    (⊎_elim
    (λ e. let f : i / (64 + t) * (64 + t) ≡ j / (64 + t) * (64 + t) = ap (λ (x : ℕ). x * (64 + t)) e in inr (e, omega arith))
    (⊎_elim (λ l. inl l)
    (λ l. let g = mul-add-lt (j / (64 + t)) (64 + t) (j % (64 + t)) (i / (64 + t)) l rj in let c = mul_comm (64 + t) (i / (64 + t)) in absurd (omega arith)))
    (cases_order (i / (64 + t)) (j / (64 + t))))
  where
    lex : (p q r s : ℕ) → (p < q) ⊎ ((p ≡ q) × (r < s)) → link_before (record { source = 64 + p / 16; label = p % 16; target = r }) (record { source = 64 + q / 16; label = q % 16; target = s }) ≡ true
    lex p q r s (inl l) = grind (arith, nat_tests)
    lex p q r s (inr e) = grind (arith, nat_tests)

-- the places of one source and label are a run
pub place_run : (t s b x y : ℕ) → place t (link_of s b x) + y ≡ place t (link_of s b y) + x
unfolding place
place_run t s b x y = omega arith

pub target_below : (t s b x : ℕ) → x ≤ place t (link_of s b x)
unfolding place
target_below t s b x = omega arith

pub run_below : (t s b x : ℕ) → inside t (link_of s b x) ≡ true → place t (link_of s b x) + 64 + t ≤ places t + x
run_below t s b x h =
    let z = sized t (link_of s b x) h in
    let i : inside t (link_of s b (63 + t)) ≡ true = grind (arith, nat_tests) in
    omega (arith, place_run t s b x (63 + t), place_below t (link_of s b (63 + t)) i)

pub inside_run : (t s b x y : ℕ) → inside t (link_of s b x) ≡ true → y < 64 + t → inside t (link_of s b y) ≡ true
inside_run t s b x y h l = grind (arith, nat_tests)

pub outside_run : (t s b x y : ℕ) → inside t (link_of s b x) ≡ false → x ≤ y → inside t (link_of s b y) ≡ false
outside_run t s b x y h l = grind (arith, nat_tests)

pub words_hold : (t : ℕ) → places t ≤ 32 * words_for t
words_hold t = omega arith

-- the places of one label and target are a stride apart
place_stride : (t s b x : ℕ) → 64 ≤ s → place t (link_of (s + 1) b x) ≡ place t (link_of s b x) + 16 * (64 + t)
unfolding place
place_stride t s b x h = let e : s + 1 - 64 ≡ s - 64 + 1 = omega arith in rw e (omega arith)

pub place_strides : (t s b x : ℕ) (k : ℕ) → 64 ≤ s → place t (link_of (s + k) b x) ≡ place t (link_of s b x) + k * (16 * (64 + t))
place_strides t s b x zero h = let e : s + zero ≡ s = omega arith in ap (λ v. place t (link_of v b x)) e ∙ omega arith
place_strides t s b x (suc k) h =
    let step = place_stride t (s + k) b x (omega arith) in
    let r = place_strides t s b x k h in
    let e : s + suc k ≡ s + k + 1 = omega arith in
    ap (λ v. place t (link_of v b x)) e ∙ omega (arith, step, r)

pub outside_column : (t s b x y : ℕ) → inside t (link_of s b x) ≡ false → 64 ≤ s → s ≤ y → inside t (link_of y b x) ≡ false
outside_column t s b x y h k l = grind (arith, nat_tests)

pub inside_column : (t s b x y : ℕ) → inside t (link_of s b x) ≡ true → s ≤ y → y < 64 + t → inside t (link_of y b x) ≡ true
inside_column t s b x y h k l = grind (arith, nat_tests)
