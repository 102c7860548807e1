-- What later layers may rely on of valid rules.
use Rattle.std.specs.Prelude.{◌≡◌, ℕ, ◌<◌, ◌≤◌, true, List, length, slice_index_or}
use Rattle.std.specs.List.{AllByRecursion}
use Rattle.words.specs.declared.items.PatternLink.{PatternLink}
use Rattle.words.specs.declared.items.Share.{Share}
use Rattle.words.specs.declared.items.Share.TheVariants.{New, With}
use Rattle.words.specs.Steps.{target_in}
use Rattle.rules.specs.Rules.{Ban, Rule}
use Rattle.rules.specs.Anchors.{some, anchors, is_shared}
use Rattle.rules.specs.Valid.{ValidRules}

-- a label of 16, a source below the limit, and a target that is such a variable or one of 64 marks
pub record LinkRange (limit : ℕ) (l : PatternLink) : Type 0 where
  pub label : l.label < 16
  pub source : l.source < limit
  pub target : target_in limit l.target ≡ true

-- every variable below n has a link that anchors it
abbrev pub EachAnchored : ℕ → List PatternLink → Type 0
EachAnchored n ls = (v : ℕ) → v < n → some (anchors v) ls ≡ true

-- the ban variable number k, new past the last
abbrev pub share_at : List Share → ℕ → Share
share_at ss k = slice_index_or ss k New

-- a ban of a rule with n variables: counts and values in range, anchored, at least one variable shared, and only with rule variables
pub record BanLaws (n : ℕ) (b : Ban) : Type 0 where
  pub variables : (1 ≤ b.variables) × (b.variables ≤ 6)
  pub shares : length b.shares ≡ b.variables
  pub links : (1 ≤ length b.links) × (length b.links ≤ 8)
  pub ranges : AllByRecursion (LinkRange b.variables) b.links
  pub anchored : EachAnchored b.variables b.links
  pub shared : (k : ℕ) × (k < length b.shares) × (is_shared (share_at b.shares k) ≡ true)
  pub reach : (k v : ℕ) → k < length b.shares → share_at b.shares k ≡ With v → v < n

-- a rule: counts and values in range, every variable anchored, and its bans likewise
pub record RuleLaws (r : Rule) : Type 0 where
  pub variables : (1 ≤ r.variables) × (r.variables ≤ 6)
  pub needs : (1 ≤ length r.needs) × (length r.needs ≤ 12)
  pub ranges : AllByRecursion (LinkRange r.variables) r.needs
  pub anchored : EachAnchored r.variables r.needs
  pub few : length r.bans ≤ 4
  pub bans : AllByRecursion (BanLaws r.variables) r.bans

-- this holds of every rule of a valid set
abbrev pub Lawful : Type 0
Lawful = (rs : List Rule) → ValidRules rs → AllByRecursion RuleLaws rs
