-- The place of each possible link among the bits, and the links whose bits are on.
use Rattle.std.specs.Prelude.{◌≡◌, ℕ, zero, suc, ◌+◌, ◌-◌, ◌*◌, ◌/◌, ◌%◌, ◌^◌, ◌<◌, ◌≤◌, Bool, true, false, cond, List, [], ◌∷◌, Some, None, Option, ◌==◌, slice_index}
use Rattle.links.specs.declared.link.Link.{Link}
use Rattle.links.specs.Sets.{inside}

-- the place of a link among all links of so many things, in their order
unfoldable pub place : ℕ → Link → ℕ
place things l = ((l.source - 64) * 16 + l.label) * (64 + things) + l.target

-- the link of a place
unfoldable pub link_at : ℕ → ℕ → Link
link_at things n = record { source = 64 + n / (64 + things) / 16; label = n / (64 + things) % 16; target = n % (64 + things) }

-- how many places there are
abbrev pub places : ℕ → ℕ
places things = things * 16 * (64 + things)

-- how many words of 32 bits hold them: half of things * (64 + things), rounded up
abbrev pub words_for : ℕ → ℕ
words_for things = (things * (64 + things) + 1) / 2

-- the bit of a place is on
unfoldable pub bit_on : List ℕ → ℕ → Bool
bit_on words b = slice_index words (b / 32) / 2 ^ (b % 32) % 2 == 1

-- of the n places from k on, the links of those that pass the test
abbrev pub passing : (ℕ → Bool) → (ℕ → Link) → ℕ → ℕ → List Link
passing p f k zero = []
passing p f k (suc n) = cond (p k) (f k ∷ passing p f (k + 1) n) (passing p f (k + 1) n)

-- the links whose bits are on, in order
abbrev pub links_in : List ℕ → ℕ → List Link
links_in words things = passing (bit_on words) (link_at things) 0 (places things)

-- a link's place, none where the link lies outside
abbrev pub Placed : ℕ → Link → Option ℕ → Type 0
Placed things l None = inside things l ≡ false
Placed things l (Some b) = (inside things l ≡ true) × (b ≡ place things l) × (b < places things)

-- the smallest number from `from` on and below `end` that passes; none exactly when none does
abbrev pub LeastBelow : (ℕ → Bool) → ℕ → ℕ → Option ℕ → Type 0
LeastBelow p from end None = (n : ℕ) → from ≤ n → n < end → p n ≡ false
LeastBelow p from end (Some n) = (from ≤ n) × (n < end) × (p n ≡ true) × ((m : ℕ) → from ≤ m → m < n → p m ≡ false)
