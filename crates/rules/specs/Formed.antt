-- Rules that the first pass takes: counts and values in range, and nothing said twice.
use Rattle.std.specs.Prelude.{◌≡◌, ℕ, ◌+◌, ◌<◌, ◌≤◌, true, false, List, [], ◌∷◌, length, Some, None, Option, nat_le, nat_lt}
use Rattle.std.specs.List.{AllByRecursion}
use Rattle.words.specs.declared.items.PatternLink.{PatternLink}
use Rattle.words.specs.Steps.{has, in_six, link_in, share_in}
use Rattle.rules.specs.Rules.{Ban, Making, Rule, link_words, need_words, thing_words}

-- no number stands twice
abbrev pub Distinct : List ℕ → Type 0
Distinct [] = Unit {0}
Distinct (x ∷ xs) = (has x xs ≡ false) × Distinct xs

-- up to so many links, each with values in range, none twice
pub record Links (limit most : ℕ) (ls : List PatternLink) : Type 0 where
  pub few : length ls ≤ most
  pub ranges : AllByRecursion (λ l. link_in limit l ≡ true) ls
  pub once : Distinct (link_words ls)

-- a ban of a rule with n variables: 1 to 6 variables, each said once, and 1 to 8 links
pub record FormedBan (n : ℕ) (b : Ban) : Type 0 where
  pub variables : in_six b.variables ≡ true
  pub all : length b.shares ≡ b.variables
  pub shares : AllByRecursion (λ s. share_in n s ≡ true) b.shares
  pub some : 0 < length b.links
  pub links : Links b.variables 8 b.links

-- makes, if there are any: up to 4 new things and 1 to 12 links
abbrev pub FormedMaking : ℕ → Option Making → Type 0
FormedMaking n None = Unit {0}
FormedMaking n (Some m) = (nat_le m.things 4 ≡ true) × (0 < length m.links) × Links (n + m.things) 12 m.links

-- 1 to 6 variables, 1 to 12 needs, up to 4 bans, and strikes and makes in range, none said twice
pub record FormedRule (r : Rule) : Type 0 where
  pub variables : in_six r.variables ≡ true
  pub some : 0 < length r.needs
  pub needs : Links r.variables 12 r.needs
  pub few : length r.bans ≤ 4
  pub bans : AllByRecursion (FormedBan r.variables) r.bans
  pub struck_needs : AllByRecursion (λ k. nat_lt k (length r.needs) ≡ true) r.struck_needs
  pub needs_once : Distinct (need_words r.struck_needs)
  pub struck_things : AllByRecursion (λ k. nat_lt k r.variables ≡ true) r.struck_things
  pub things_once : Distinct (thing_words r.struck_things)
  pub makes : FormedMaking r.variables r.makes

-- up to 16 such rules
pub record FormedRules (rs : List Rule) : Type 0 where
  pub each : AllByRecursion FormedRule rs
  pub few : length rs ≤ 16
