-- The refusals and their numbers.
use Rattle.std.specs.Prelude.{◌≡◌, ℕ, Ok, Err, Result}
use Rattle.ordered.specs.declared.refusal.InsertRefusal.{InsertRefusal}
use Rattle.ordered.specs.declared.refusal.InsertRefusal.TheVariants.{AlreadyThere, Full as NoRoom}
use Rattle.links.specs.declared.switch_refusal.SwitchRefusal.{SwitchRefusal}
use Rattle.links.specs.declared.switch_refusal.SwitchRefusal.TheVariants.{NoSuchLink, AlreadyOn, NotOn, Full}
use Rattle.links.specs.declared.make_refusal.MakeRefusal.{MakeRefusal}
use Rattle.links.specs.declared.make_refusal.MakeRefusal.TheVariants.{OutOfRange}
use Rattle.links.specs.declared.sizes.Sizes.{Sizes}

-- the number of each refusal to switch a link
abbrev pub switch_number : SwitchRefusal → ℕ
switch_number NoSuchLink = 18
switch_number AlreadyOn = 34
switch_number NotOn = 35
switch_number Full = 37

-- an ordered list's refusal, as a store of links in one carries it on
abbrev pub insert_as_switch : InsertRefusal → SwitchRefusal
insert_as_switch AlreadyThere = AlreadyOn
insert_as_switch NoRoom = Full

-- the number of each refusal to make a store
abbrev pub make_number : MakeRefusal → ℕ
make_number OutOfRange = 21

-- What an asking answers: the sizes it was given, if the condition holds, else the refusal.
abbrev pub Asked : ℕ → ℕ → Type 0 → Result Sizes MakeRefusal → Type 0
Asked things limit P (Ok s) = P × (s.things ≡ things) × (s.limit ≡ limit)
Asked things limit P (Err e) = (P → ⊥) × (e ≡ OutOfRange)
