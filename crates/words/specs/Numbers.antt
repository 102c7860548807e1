-- The number of each fault, and the layer that finds it.
use Rattle.std.specs.Prelude.{ℕ}
use Rattle.words.specs.declared.faults.Layer.{Layer}
use Rattle.words.specs.declared.faults.Layer.TheVariants.{Word as WordLayer, Rule as RuleLayer, Set as SetLayer}
use Rattle.words.specs.declared.faults.RuleFault.{RuleFault}
use Rattle.words.specs.declared.faults.RuleFault.TheVariants.{Word, OutOfPlace, OutOfRange, Twice, Unanchored, SharesNothing, SharesTwice, LinksShared, TooMany, MadeAtStruck}
use Rattle.words.specs.declared.faults.Cause.{Cause}
use Rattle.words.specs.declared.faults.Cause.TheVariants.{InRule, TooManyRules, TooManyWords}

-- the number of a fault that a word or a rule has
abbrev pub rule_number : RuleFault → ℕ
rule_number (Word f) = 10
rule_number OutOfPlace = 11
rule_number OutOfRange = 12
rule_number Twice = 13
rule_number Unanchored = 14
rule_number SharesNothing = 15
rule_number SharesTwice = 15
rule_number LinksShared = 15
rule_number TooMany = 16
rule_number MadeAtStruck = 17

-- the number of each fault
abbrev pub number : Cause → ℕ
number (InRule f) = rule_number f
number TooManyRules = 16
number TooManyWords = 16

-- a word's fault is found by the word reader, any other of a rule by the rule reader
abbrev pub rule_layer : RuleFault → Layer
rule_layer (Word f) = WordLayer
rule_layer OutOfPlace = RuleLayer
rule_layer OutOfRange = RuleLayer
rule_layer Twice = RuleLayer
rule_layer Unanchored = RuleLayer
rule_layer SharesNothing = RuleLayer
rule_layer SharesTwice = RuleLayer
rule_layer LinksShared = RuleLayer
rule_layer TooMany = RuleLayer
rule_layer MadeAtStruck = RuleLayer

-- the layer that finds each fault
abbrev pub layer : Cause → Layer
layer (InRule f) = rule_layer f
layer TooManyRules = SetLayer
layer TooManyWords = SetLayer

-- where the program's table has a fault
abbrev pub place_in_rule : RuleFault → ℕ
place_in_rule (Word f) = 0
place_in_rule OutOfPlace = 1
place_in_rule OutOfRange = 2
place_in_rule Twice = 3
place_in_rule Unanchored = 4
place_in_rule SharesNothing = 5
place_in_rule SharesTwice = 6
place_in_rule LinksShared = 7
place_in_rule TooMany = 8
place_in_rule MadeAtStruck = 9

-- where the program's table has any fault
abbrev pub place_in_table : Cause → ℕ
place_in_table (InRule f) = place_in_rule f
place_in_table TooManyRules = 10
place_in_table TooManyWords = 11
