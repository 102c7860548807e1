-- A rule set as it is lent, and what reading answers.
use Rattle.std.specs.Prelude.{◌≡◌, ℕ, ◌≤◌, List, length, take, drop, Ok, Err, Result}
use Rattle.std.specs.List.{AllByRecursion}
use Rattle.rules.specs.declared.faults.SetFault.{SetFault}
use Rattle.rules.specs.declared.sets.RuleSet.{RuleSet}
use Rattle.rules.specs.Rules.{Rule, encode}
use Rattle.rules.specs.Formed.{FormedRule}
use Rattle.rules.specs.Reading.{reading_of, Says}

-- the set's words say these rules, and it counts them
pub record SetHere (s : RuleSet) (rs : List Rule) : Type 0 where
  pub formed : AllByRecursion FormedRule rs
  pub written : s.words.now ≡ encode rs
  pub count : s.rules ≡ length rs
  pub inside : length s.words.now ≤ 1024

-- `at` is where rule i begins
abbrev pub RuleStart : List ℕ → List Rule → ℕ → ℕ → Type 0
RuleStart ws rs i at = (at ≡ length (encode (take i rs))) × (drop at ws ≡ encode (drop i rs))

-- Read: the set of the given words, which say these rules. Refused: the fault, and no rules that the words say.
abbrev pub ReadAs : List ℕ → Result RuleSet SetFault → Type 0
ReadAs ws (Ok s) = (s.words.now ≡ ws) × ((rs : List Rule) × (reading_of ws ≡ Ok rs) × Says ws rs × SetHere s rs)
ReadAs ws (Err f) = (reading_of ws ≡ Err f) × ((rs : List Rule) → Says ws rs → ⊥)
