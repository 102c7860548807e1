-- Valid rules: what later layers rely on.
use Rattle.std.specs.Prelude.{◌≡◌, ℕ, ◌≤◌, true, false, List, [], ◌∷◌, ◌++◌, length, Some, None, Option}
use Rattle.std.specs.List.{AllByRecursion}
use Rattle.words.specs.declared.items.Share.{Share}
use Rattle.rules.specs.Rules.{Ban, Making, Rule, encode}
use Rattle.rules.specs.Formed.{FormedRule}
use Rattle.rules.specs.Anchors.{some, anchored, is_shared, joins_shared, shares_again, touches}

-- no ban variable is shared with a rule variable that one before it is shared with
abbrev pub SharedOnce : List Share → List Share → Type 0
SharedOnce before [] = Unit {0}
SharedOnce before (s ∷ ss) = (shares_again before s ≡ false) × SharedOnce (before ++ s ∷ []) ss

-- a ban is anchored, shares something and nothing twice, and no link joins two shared variables
pub record ValidBan (b : Ban) : Type 0 where
  pub anchored : anchored b.variables b.links ≡ true
  pub shares : some is_shared b.shares ≡ true
  pub once : SharedOnce [] b.shares
  pub links : AllByRecursion (λ l. joins_shared b.shares l ≡ false) b.links

-- no made link at a struck thing
abbrev pub ValidMaking : List ℕ → Option Making → Type 0
ValidMaking st None = Unit {0}
ValidMaking st (Some m) = AllByRecursion (λ l. touches st l ≡ false) m.links

-- counts and values in range, every variable anchored, bans that share, makes apart from what is struck
pub record ValidRule (r : Rule) : Type 0 where
  pub formed : FormedRule r
  pub anchored : anchored r.variables r.needs ≡ true
  pub bans : AllByRecursion ValidBan r.bans
  pub makes : ValidMaking r.struck_things r.makes

-- up to 16 such rules, in up to 1,024 words
pub record ValidRules (rs : List Rule) : Type 0 where
  pub each : AllByRecursion ValidRule rs
  pub few : length rs ≤ 16
  pub short : length (encode rs) ≤ 1024
