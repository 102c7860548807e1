-- What reading answers, for any words.
use Rattle.std.specs.Prelude.{◌≡◌, ℕ, ◌+◌, ◌/◌, ◌^◌, ◌≤◌, Bool, true, false, cond, List, [], ◌∷◌, length, take, Ok, Err, Result, ◌==◌, nat_lt}
use Rattle.words.specs.declared.faults.Cause.TheVariants.{TooManyWords}
use Rattle.rules.specs.declared.faults.SetFault.{SetFault}
use Rattle.rules.specs.Rules.{Rule, scanned, encode}
use Rattle.rules.specs.Marks.{settled}
use Rattle.rules.specs.Valid.{ValidRules}

-- too many words are refused first; then the first pass over all words, then the second
abbrev pub reading_of : List ℕ → Result (List Rule) SetFault
reading_of ws = cond (nat_lt 1024 (length ws)) (Err (record { place = 1024; rule = 0; cause = TooManyWords })) (settled (scanned ws))

-- rules, and no fault
abbrev pub is_read : Result (List Rule) SetFault → Bool
is_read (Ok rs) = true
is_read (Err f) = false

-- the words are a rule set
abbrev pub accepted : List ℕ → Bool
accepted ws = is_read (reading_of ws)

-- how many rules they say, 0 for words that are no rule set
abbrev pub count_of : Result (List Rule) SetFault → ℕ
count_of (Ok rs) = length rs
count_of (Err f) = 0

-- how many rules the words say
abbrev pub rule_count : List ℕ → ℕ
rule_count ws = count_of (reading_of ws)

-- the words say the rules: they are valid, and the words are what they are written as
pub record Says (ws : List ℕ) (rs : List Rule) : Type 0 where
  pub valid : ValidRules rs
  pub written : ws ≡ encode rs

-- words are read as rules exactly when they say them
pub record Exact (ws : List ℕ) (rs : List Rule) : Type 0 where
  pub says : reading_of ws ≡ Ok rs → Says ws rs
  pub read : Says ws rs → reading_of ws ≡ Ok rs

-- this holds of all words and all rules
abbrev pub EachExact : Type 0
EachExact = (ws : List ℕ) (rs : List Rule) → Exact ws rs

-- different rule sets have different words
abbrev pub Apart : Type 0
Apart = (rs qs : List Rule) → ValidRules rs → ValidRules qs → encode rs ≡ encode qs → rs ≡ qs

-- how many of the words end a rule
abbrev pub ends : List ℕ → ℕ
ends [] = 0
ends (w ∷ ws) = cond (w / 2 ^ 28 == 9) 1 0 + ends ws

-- a fault's rule is the number of words before its place that end a rule; too many words are rule 0's
abbrev pub RuleTold : Type 0
RuleTold = (ws : List ℕ) (f : SetFault) → length ws ≤ 1024 → reading_of ws ≡ Err f → f.rule ≡ ends (take f.place ws)
