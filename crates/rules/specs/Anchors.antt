-- Anchored variables, and what a ban shares.
use Rattle.std.specs.Prelude.{ℕ, zero, suc, Bool, true, false, ◌&&◌, ◌||◌, List, ◌==◌, nat_eq, nat_lt, slice_index_or}
use Rattle.std.specs.List.{list_any}
use Rattle.words.specs.declared.items.PatternLink.{PatternLink}
use Rattle.words.specs.declared.items.Target.{Target}
use Rattle.words.specs.declared.items.Target.TheVariants.{Variable, Mark}
use Rattle.words.specs.declared.items.Share.{Share}
use Rattle.words.specs.declared.items.Share.TheVariants.{New, With, Neither}

-- some element passes
abbrev pub some : {X : Type 0} → (X → Bool) → List X → Bool
some p xs = list_any p xs

-- a link out of the variable v anchors it by a mark or a lower variable
abbrev pub anchors_out : ℕ → Target → Bool
anchors_out v (Variable t) = nat_lt t v
anchors_out v (Mark m) = true

-- a link into the variable v
abbrev pub aims : ℕ → Target → Bool
aims v (Variable t) = t == v
aims v (Mark m) = false

-- a link anchors a variable: to a mark, or in either direction with a lower variable
abbrev pub anchors : ℕ → PatternLink → Bool
anchors v l = (l.source == v && anchors_out v l.target) || (aims v l.target && nat_lt l.source v)

-- each of the variables below n is anchored
abbrev pub anchored : ℕ → List PatternLink → Bool
anchored zero ls = true
anchored (suc n) ls = some (anchors n) ls && anchored n ls

-- the ban variable is shared
abbrev pub is_shared : Share → Bool
is_shared New = false
is_shared (With v) = true
is_shared (Neither n) = false

-- the ban variable is shared with the rule variable v
abbrev pub shares_with : ℕ → Share → Bool
shares_with v New = false
shares_with v (With u) = u == v
shares_with v (Neither n) = false

-- the ban variable number v is shared
abbrev pub shared_at : List Share → ℕ → Bool
shared_at ss v = is_shared (slice_index_or ss v New)

-- both ends of the link are shared
abbrev pub target_shared : List Share → Target → Bool
target_shared ss (Variable v) = shared_at ss v
target_shared ss (Mark m) = false

-- both ends of the link are shared variables
abbrev pub joins_shared : List Share → PatternLink → Bool
joins_shared ss l = shared_at ss l.source && target_shared ss l.target

-- a ban variable shared with a rule variable that one before it is shared with
abbrev pub shares_again : List Share → Share → Bool
shares_again before New = false
shares_again before (With v) = some (shares_with v) before
shares_again before (Neither n) = false

-- a link at a struck thing
abbrev pub touches : List ℕ → PatternLink → Bool
touches st l = some (nat_eq l.source) st || some (λ k. aims k l.target) st
