-- A set of links is the strictly rising list of its links.
use Rattle.std.specs.Prelude.{◌≡◌, ℕ, ◌+◌, ◌≤◌, Bool, true, false, ◌&&◌, ◌||◌, List, [], ◌∷◌, ◌==◌, length, nat_le, nat_lt}
use Rattle.ordered.specs.Order.{ascending, has, placed, without}
use Rattle.links.specs.declared.link.Link.{Link}

-- the link from s under the label b to t
abbrev pub link_of : ℕ → ℕ → ℕ → Link
link_of s b t = record { source = s; label = b; target = t }

-- the order of links: by source, then label, then target
abbrev pub link_before : Link → Link → Bool
link_before x y =
    nat_lt x.source y.source || (x.source == y.source && (nat_lt x.label y.label || (x.label == y.label && nat_lt x.target y.target)))

-- the list rises strictly: it is a set
abbrev pub rising : List Link → Bool
rising ls = ascending link_before ls

-- the link is in the set
abbrev pub member : Link → List Link → Bool
member l ls = has link_before l ls

-- the set with the link added
abbrev pub inserted : Link → List Link → List Link
inserted l ls = placed link_before l ls

-- the set with the link taken out
abbrev pub removed : Link → List Link → List Link
removed l ls = without link_before l ls

-- the source is one of so many things from 64 on, the label one of 16, the target a mark or one of the things
abbrev pub inside : ℕ → Link → Bool
inside things l = (nat_le 64 l.source && nat_lt l.source (64 + things)) && (nat_lt l.label 16 && nat_lt l.target (64 + things))

-- every link lies inside
abbrev pub all_inside : ℕ → List Link → Bool
all_inside things [] = true
all_inside things (l ∷ ls) = inside things l && all_inside things ls

-- the link begins or ends at the node
abbrev pub touches : ℕ → Link → Bool
touches n l = l.source == n || l.target == n

-- some link begins or ends at the node
abbrev pub touched : ℕ → List Link → Bool
touched n [] = false
touched n (l ∷ ls) = touches n l || touched n ls

-- the sizes that a store may have: its things, and the most links that it holds
abbrev pub InRange : ℕ → ℕ → Type 0
InRange things limit = (1 ≤ things) × (things ≤ 448) × (1 ≤ limit) × (limit ≤ 4096)

-- a set of links with its two fixed sizes: its things, and the most links that it holds
pub record LinkSet : Type 0 where
  pub things : ℕ
  pub limit : ℕ
  pub links : List Link

-- the set of these links, with the sizes of another
abbrev pub with_links : List Link → LinkSet → LinkSet
with_links ls g = record { things = g.things; limit = g.limit; links = ls }

-- the set has no more links than its limit
abbrev pub Within : LinkSet → Type 0
Within g = length g.links ≤ g.limit

-- the sizes of the old set are those of the new one
abbrev pub KeepsSizes : LinkSet → LinkSet → Type 0
KeepsSizes old new = new ≡ with_links new.links old

-- what holds of every value of a type that means a set of links
pub record Lawful {X : Type 0} (set : X → LinkSet) : Type 0 where
  pub in_range : (x : X) → InRange (set x).things (set x).limit
  pub all_in : (x : X) → all_inside (set x).things (set x).links ≡ true
  pub rises : (x : X) → rising (set x).links ≡ true
