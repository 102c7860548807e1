-- What the first pass answers: the number of rules, or the fault.
use Rattle.std.specs.Prelude.{ℕ, List, length, Ok, Err, Result}
use Rattle.rules.specs.declared.faults.SetFault.{SetFault}
use Rattle.rules.specs.Rules.{Rule}

-- the number of the rules
abbrev pub counted : Result (List Rule) SetFault → Result ℕ SetFault
counted (Ok rs) = Ok (length rs)
counted (Err f) = Err f
