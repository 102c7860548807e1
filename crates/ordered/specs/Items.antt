-- What an ordered list holds: the records at the front of its memory.
use Rattle.std.specs.Prelude.{ℕ, List, length, take}
use Rattle.ordered.specs.declared.keyed.Keyed.{Ghosts}
use Rattle.ordered.specs.declared.list.OrderedList.{OrderedList}

-- the records held, in their order
abbrev pub items : {K : Type 0} {order : Ghosts K} → OrderedList K order → List K
items l = take l.len l.records.now

-- how many records the memory has room for
abbrev pub capacity : {K : Type 0} {order : Ghosts K} → OrderedList K order → ℕ
capacity l = length l.records.now
