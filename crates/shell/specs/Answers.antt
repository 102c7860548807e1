-- What a command is answered, and what it leaves.
use Rattle.std.specs.Prelude.{◌≡◌, ℕ, ◌≤◌, [], length, Some, None, Ok, Err, Option, Result}
use Rattle.hub.specs.declared.refusals.ReadRefusal.{ReadRefusal}
use Rattle.hub.specs.declared.refusals.ReadRefusal.TheVariants as reading
use Rattle.hub.specs.declared.refusals.HubRefusal.{HubRefusal}
use Rattle.hub.specs.declared.commissioning.Commissioning.{Commissioning}
use Rattle.hub.specs.Calls.{InRange as HubInRange, held_words}
use Rattle.hub.specs.Numbers.{ask_number, write_number}
use Rattle.links.specs.declared.make_refusal.MakeRefusal.{MakeRefusal}
use Rattle.links.specs.declared.make_refusal.MakeRefusal.TheVariants.{OutOfRange}
use Rattle.links.specs.declared.switch_refusal.SwitchRefusal.{SwitchRefusal}
use Rattle.links.specs.Answers.{Least, Spare as Untouched, SwitchedOff, SwitchedOn}
use Rattle.links.specs.Numbers.{make_number, switch_number}
use Rattle.links.specs.Sets.{InRange, KeepsSizes, LinkSet, Within, link_of, member}
use Rattle.matching.specs.Survey.{survey_number}
use Rattle.bit_store.specs.Places.{words_for}
use Rattle.shell.specs.declared.answer.Answer.{Answer}
use Rattle.shell.specs.declared.answer.Answer.TheVariants.{Taken, Test, Number, Nothing, Refused, Fault, NoMemory, Unknown}
use Rattle.shell.specs.declared.answer.Refusal.{Refusal}
use Rattle.shell.specs.declared.answer.Refusal.TheVariants.{Make, Switch, Hub, Write, Survey}
use Rattle.commands.specs.declared.command.Call.{Call}
use Rattle.commands.specs.declared.command.Call.TheVariants.{On, Off, Is, Target, Source, Count, Spare}
use Rattle.commands.specs.declared.command.Command.{Command}
use Rattle.commands.specs.declared.command.Command.TheVariants as command
use Rattle.commands.specs.declared.command.HubCall.{HubCall}
use Rattle.commands.specs.declared.command.Kind.{Kind}
use Rattle.commands.specs.declared.command.Kind.TheVariants.{List as InList, Bits as InBits}
use Rattle.commands.specs.declared.command.Missing.{Missing}
use Rattle.commands.specs.declared.command.Missing.TheVariants.{Store, Layer, Hub as NoHub}
use Rattle.commands.specs.declared.command.Wanted.{Wanted}
use Rattle.commands.specs.declared.command.WantedHub.{WantedHub}
use Rattle.shell.specs.declared.replying.Reply.{Reply}
use Rattle.shell.specs.declared.serving.Plan.{Plan}

-- the number of each refusal
abbrev pub refusal_number : Refusal → ℕ
refusal_number (Make e) = make_number e
refusal_number (Switch e) = switch_number e
refusal_number (Hub e) = ask_number e
refusal_number (Write e) = write_number e
refusal_number (Survey e) = survey_number e

-- what a switching is answered
abbrev pub switch_answer : Result (Unit {0}) SwitchRefusal → Answer
switch_answer (Ok _) = Taken
switch_answer (Err e) = Refused (Switch e)

-- what a question for a node is answered
abbrev pub number_answer : Option ℕ → Answer
number_answer (Some n) = Number n
number_answer None = Nothing

-- what the reading of a rule set is answered
abbrev pub rules_answer : Result ℕ ReadRefusal → Answer
rules_answer (Ok n) = Number n
rules_answer (Err (reading.Fault f)) = Fault f
rules_answer (Err reading.NoMemory) = NoMemory

-- a hub with the wanted numbers and no rules, exactly when they are in range
abbrev pub Commissioned : WantedHub → Result Commissioning HubRefusal → Type 0
Commissioned w (Ok h) = HubInRange w.life w.rows × (h.terms.plate ≡ w.plate) × (h.terms.life ≡ w.life) × (h.terms.rows ≡ w.rows) × (held_words h ≡ [])
Commissioned w (Err e) = HubInRange w.life w.rows → ⊥

-- what goes to the hub, of the commands that lines write
abbrev pub hub_call_of : Result Command Missing → Option HubCall
hub_call_of (Ok (command.Hub c)) = Some c
hub_call_of (Ok (command.Make w)) = None
hub_call_of (Ok (command.Use c)) = None
hub_call_of (Ok command.Settle) = None
hub_call_of (Err m) = None

-- What a call is answered by a store that means the set, and the set that it leaves.
abbrev pub Served : LinkSet → Call → Answer → LinkSet → Type 0
Served g (On l) a after = (r : Result (Unit {0}) SwitchRefusal) × (a ≡ switch_answer r) × SwitchedOn l g r after
Served g (Off l) a after = (r : Result (Unit {0}) SwitchRefusal) × (a ≡ switch_answer r) × SwitchedOff l g r after
Served g (Is l) a after = (a ≡ Test (member l g.links)) × (after ≡ g)
Served g (Target q) a after = ((r : Option ℕ) × (a ≡ number_answer r) × Least (λ t. member (link_of q.node q.label t) g.links) q.from r) × (after ≡ g)
Served g (Source q) a after = ((r : Option ℕ) × (a ≡ number_answer r) × Least (λ s. member (link_of s q.label q.node) g.links) q.from r) × (after ≡ g)
Served g Count a after = (a ≡ Number (length g.links)) × (after ≡ g)
Served g Spare a after = ((r : Option ℕ) × (a ≡ number_answer r) × Untouched g r) × (after ≡ g)

-- the memory, where it is told, has at least so many places
abbrev pub Enough : ℕ → Option ℕ → Type 0
Enough places None = Unit {0}
Enough places (Some memory) = places ≤ memory

-- the places of memory that a store takes: a record for each link it may hold, or the words of its bits
abbrev pub places : Kind → ℕ → ℕ → ℕ
places InList things limit = limit
places InBits things limit = words_for things

-- a store can be made: its sizes are in range, and its memory is enough
abbrev pub CanMake : Wanted → Type 0
CanMake w = InRange w.things w.limit × Enough (places w.kind w.things w.limit) w.memory

-- what a wanted store is answered: a plan of its layer, kind and sizes, exactly when it can be made
abbrev pub Planned : Wanted → Result Plan MakeRefusal → Type 0
Planned w (Ok p) = CanMake w × (p.held ≡ w.held) × (p.kind ≡ w.kind) × (p.sizes.things ≡ w.things) × (p.sizes.limit ≡ w.limit)
Planned w (Err e) = (CanMake w → ⊥) × (e ≡ OutOfRange)

-- The reply to a wanted store: a plan and `taken`, or the refusal and no plan.
abbrev pub RepliedWanted : Wanted → Answer → Option Plan → Type 0
RepliedWanted w a (Some p) = (a ≡ Taken) × Planned w (Ok p)
RepliedWanted w a None = (a ≡ Refused (Make OutOfRange)) × (CanMake w → ⊥)

-- The reply to a line with no store in hand.
abbrev pub RepliedAlone : Result Command Missing → Reply → Type 0
RepliedAlone (Ok (command.Make w)) r = RepliedWanted w r.answer r.plan
RepliedAlone (Ok (command.Use c)) r = (r.answer ≡ Unknown Store) × (r.plan ≡ None)
RepliedAlone (Ok (command.Hub c)) r = (r.answer ≡ Unknown NoHub) × (r.plan ≡ None)
RepliedAlone (Ok command.Settle) r = (r.answer ≡ Unknown Store) × (r.plan ≡ None)
RepliedAlone (Err m) r = (r.answer ≡ Unknown m) × (r.plan ≡ None)

-- The reply to a line with a store in hand that has no layer, and the set that it leaves.
abbrev pub Replied : LinkSet → Result Command Missing → Reply → LinkSet → Type 0
Replied g (Ok (command.Make w)) r after = RepliedWanted w r.answer r.plan × (after ≡ g)
Replied g (Ok (command.Use c)) r after = Served g c r.answer after × (r.plan ≡ None)
Replied g (Ok (command.Hub c)) r after = (r.answer ≡ Unknown NoHub) × (r.plan ≡ None) × (after ≡ g)
Replied g (Ok command.Settle) r after = (r.answer ≡ Unknown Layer) × (r.plan ≡ None) × (after ≡ g)
Replied g (Err m) r after = (r.answer ≡ Unknown m) × (r.plan ≡ None) × (after ≡ g)

-- The reply to a line with a layer in hand that holds so many changes, the set that it leaves and how many changes are held then.
-- Settling tells their number, leaves none, and leaves the set as it is where that is within its limit; the sizes stay.
abbrev pub RepliedHeld : LinkSet → ℕ → Result Command Missing → Reply → LinkSet → ℕ → Type 0
RepliedHeld g held (Ok (command.Make w)) r after left = RepliedWanted w r.answer r.plan × (after ≡ g) × (left ≡ held)
RepliedHeld g held (Ok (command.Use c)) r after left = Served g c r.answer after × (r.plan ≡ None)
RepliedHeld g held (Ok command.Settle) r after left = (r.answer ≡ Number held) × (r.plan ≡ None) × (left ≡ 0) × (Within g → after ≡ g) × KeepsSizes g after
RepliedHeld g held (Ok (command.Hub c)) r after left = (r.answer ≡ Unknown NoHub) × (r.plan ≡ None) × (after ≡ g) × (left ≡ held)
RepliedHeld g held (Err m) r after left = (r.answer ≡ Unknown m) × (r.plan ≡ None) × (after ≡ g) × (left ≡ held)
