-- Lists in the order of a test: `b x y` says that the key of x comes before that of y.
use Rattle.std.specs.Prelude.{◌≡◌, ℕ, zero, suc, Bool, true, false, cond, not, ◌&&◌, ◌||◌, List, [], ◌∷◌, Some, None, Option}

-- A total order of keys: no key comes before itself, coming before carries over to a third, and
-- two records of which neither comes first have one key, so that they stand alike to every other.
pub record KeyOrder {K : Type 0} (b : K → K → Bool) : Type 0 where
  pub irreflexive : (x : K) → b x x ≡ false
  pub transitive : (x y z : K) → b x y ≡ true → b y z ≡ true → b x z ≡ true
  pub alike : (x y z : K) → b x y ≡ false → b y x ≡ false → (b x z ≡ b y z) × (b z x ≡ b z y)

-- The key is the whole record: of two different records exactly one comes first.
abbrev pub Exact : {K : Type 0} → (K → K → Bool) → Type 0
Exact {K} b = (x y : K) → b x y ≡ false → b y x ≡ false → x ≡ y

-- x comes before each of the list
abbrev pub leads : {K : Type 0} → (K → K → Bool) → K → List K → Bool
leads b x [] = true
leads b x (y ∷ ys) = b x y && leads b x ys

-- the list rises strictly: each comes before all that follow it
abbrev pub ascending : {K : Type 0} → (K → K → Bool) → List K → Bool
ascending b [] = true
ascending b (x ∷ xs) = leads b x xs && ascending b xs

-- the same key: neither comes before the other
abbrev pub same : {K : Type 0} → (K → K → Bool) → K → K → Bool
same b x y = not (b x y) && not (b y x)

-- the list has the key of x
abbrev pub has : {K : Type 0} → (K → K → Bool) → K → List K → Bool
has b x [] = false
has b x (y ∷ ys) = same b x y || has b x ys

-- the record of the list that has the key of x
abbrev pub lookup : {K : Type 0} → (K → K → Bool) → K → List K → Option K
lookup b x [] = None
lookup b x (y ∷ ys) = cond (same b x y) (Some y) (lookup b x ys)

-- the list with x put in front of the first that does not come before it
abbrev pub placed : {K : Type 0} → (K → K → Bool) → K → List K → List K
placed b x [] = x ∷ []
placed b x (y ∷ ys) = cond (b y x) (y ∷ placed b x ys) (x ∷ y ∷ ys)

-- the list without the key of x
abbrev pub without : {K : Type 0} → (K → K → Bool) → K → List K → List K
without b x [] = []
without b x (y ∷ ys) = cond (same b x y) (without b x ys) (y ∷ without b x ys)

-- how many of a rising list come before x: the place where x stands, or would
abbrev pub rank : {K : Type 0} → (K → K → Bool) → K → List K → ℕ
rank b x [] = zero
rank b x (y ∷ ys) = cond (b y x) (suc (rank b x ys)) zero
