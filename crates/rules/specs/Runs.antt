-- Runs of words by their kind.
use Rattle.std.specs.List.{prefix_len}
use Rattle.std.specs.Prelude.{ℕ, ◌+◌, ◌/◌, ◌^◌, Bool, cond, ◌&&◌, ◌||◌, List, length, drop, Some, None, Option, ◌==◌, nat_le, nat_lt, slice_index}

-- the word has a kind from low to high
abbrev pub within : ℕ → ℕ → ℕ → Bool
within low high w = nat_le low (w / 2 ^ 28) && nat_le (w / 2 ^ 28) high

-- how many words from the start have such a kind
abbrev pub span : ℕ → ℕ → List ℕ → ℕ
span low high ws = prefix_len (within low high) ws

-- where the run of such words that begins at the place ends
abbrev pub end_of : ℕ → ℕ → List ℕ → ℕ → ℕ
end_of low high ws at = at + span low high (drop at ws)

-- which part of a rule a word of the kind begins: 0 needs, 1 a ban, 2 strikes, 3 makes
abbrev pub part_of : ℕ → Option ℕ
part_of k = cond (k == 2 || k == 3) (Some 0) (cond (k == 4) (Some 1) (cond (k == 6 || k == 7) (Some 2) (cond (k == 8) (Some 3) None)))

-- where the part ends that a word of the kind at the place begins
abbrev pub part_end_by : ℕ → List ℕ → ℕ → ℕ
part_end_by k ws at = cond (k == 2 || k == 3) (end_of 2 3 ws at) (cond (k == 4) (end_of 2 3 ws (end_of 5 5 ws (at + 1))) (cond (k == 6 || k == 7) (end_of 6 7 ws at) (cond (k == 8) (end_of 2 3 ws (at + 1)) at)))

-- where the part ends that begins at the place
abbrev pub part_end : List ℕ → ℕ → ℕ
part_end ws at = part_end_by (slice_index ws at / 2 ^ 28) ws at

-- where the rule that begins at the place ends: after the next word of kind 9, or with the words
abbrev pub rule_end : List ℕ → ℕ → ℕ
rule_end ws at = cond (nat_lt (end_of 1 8 ws at) (length ws)) (end_of 1 8 ws at + 1) (end_of 1 8 ws at)
