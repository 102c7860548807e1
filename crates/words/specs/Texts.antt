-- The bytes that a layer is printed in.
use Rattle.std.specs.Prelude.{ℕ, List, codes}
use Rattle.words.specs.declared.faults.Layer.{Layer}
use Rattle.words.specs.declared.faults.Layer.TheVariants.{Word, Rule, Set}

-- the layer that found a fault, in words
abbrev pub layer_text : Layer → List ℕ
layer_text Word = codes "word"
layer_text Rule = codes "rule"
layer_text Set = codes "set"
