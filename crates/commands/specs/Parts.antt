-- A link's three numbers in the bytes of a word.
use Rattle.std.specs.Prelude.{ℕ, ◌+◌, cond, List, length, take, drop, Some, None, Option, ◌==◌}
use Rattle.std.specs.Option.{option_map}
use Rattle.links.specs.declared.link.Link.{Link}
use Rattle.links.specs.Sets.{link_of}
use Rattle.std.specs.List.{prefix_len}
use Rattle.commands.specs.Words.{dashless, decimal}

-- what comes of a value, if there is one
abbrev pub and_then : {X Y : Type 0} → Option X → (X → Option Y) → Option Y
and_then None f = None
and_then (Some x) f = f x

-- the number before the first dash, and what follows the dash; none where either is missing
abbrev pub before_dash : List ℕ → Option (ℕ × List ℕ)
before_dash bs =
    cond (prefix_len dashless bs == length bs) None (option_map (λ n. (n, drop (prefix_len dashless bs + 1) bs)) (decimal (take (prefix_len dashless bs) bs)))

-- a link: three numbers joined by dashes
abbrev pub link_from : List ℕ → Option Link
link_from bs =
    and_then (before_dash bs) (λ s. and_then (before_dash s.1) (λ b. option_map (λ t. link_of s.0 b.0 t) (decimal b.1)))
