-- The links of a node under a label, seen from the node.
use Rattle.std.specs.Prelude.{ℕ, cond, Some, None, Option, nat_lt}
use Rattle.links.specs.declared.link.Link.{Link}
use Rattle.links.specs.Sets.{link_of}
use Rattle.link_edits.specs.declared.adjacency.Adjacency.{Adjacency}
use Rattle.link_edits.specs.declared.adjacency.Direction.{Direction}
use Rattle.link_edits.specs.declared.adjacency.Direction.TheVariants.{Outgoing, Incoming}

-- the link between a node and another, in a direction
abbrev pub link_with : Direction → ℕ → ℕ → ℕ → Link
link_with Outgoing node b other = link_of node b other
link_with Incoming node b other = link_of other b node

-- the link of an adjacency to another node
abbrev pub link_to : Adjacency → ℕ → Link
link_to a other = link_with a.direction a.node a.label other

-- the node at the other end of a link
abbrev pub other_end : Direction → Link → ℕ
other_end Outgoing l = l.target
other_end Incoming l = l.source

-- the smaller of two, of which either may be missing
abbrev pub smaller : Option ℕ → Option ℕ → Option ℕ
smaller None y = y
smaller (Some x) None = Some x
smaller (Some x) (Some y) = Some (cond (nat_lt x y) x y)
