-- The refusals and their numbers.
use Rattle.std.specs.Prelude.{ℕ, Some, None, Option}
use Rattle.words.specs.Numbers.{number}
use Rattle.hub.specs.declared.refusals.HubRefusal.{HubRefusal}
use Rattle.hub.specs.declared.refusals.HubRefusal.TheVariants.{OutOfRange}
use Rattle.hub.specs.declared.refusals.ReadRefusal.{ReadRefusal}
use Rattle.hub.specs.declared.refusals.ReadRefusal.TheVariants.{Fault, NoMemory}
use Rattle.hub.specs.declared.refusals.WriteRefusal.{WriteRefusal}
use Rattle.hub.specs.declared.refusals.WriteRefusal.TheVariants.{Short}

-- the number of each refusal to make a hub
abbrev pub ask_number : HubRefusal → ℕ
ask_number OutOfRange = 21

-- a fault has its own number, want of memory has none
abbrev pub read_number : ReadRefusal → Option ℕ
read_number (Fault f) = Some (number f.cause)
read_number NoMemory = None

-- the number of each refusal to write out
abbrev pub write_number : WriteRefusal → ℕ
write_number Short = 39
