-- One step of the reading, over numbers.
use Rattle.std.specs.Prelude.{ℕ, ◌+◌, ◌^◌, ◌<◌, ◌≤◌, Bool, true, false, cond, ◌&&◌, List, [], ◌∷◌, Ok, Err, Result, ◌==◌, nat_le, nat_lt, slice_index_or}
use Rattle.std.specs.List.{list_any}
use Rattle.words.specs.declared.items.PatternLink.{PatternLink}
use Rattle.words.specs.declared.items.Target.{Target}
use Rattle.words.specs.declared.items.Target.TheVariants.{Variable, Mark}
use Rattle.words.specs.declared.items.Share.{Share}
use Rattle.words.specs.declared.items.Share.TheVariants.{New, With, Neither}
use Rattle.words.specs.declared.items.Item.{Item}
use Rattle.words.specs.declared.items.Item.TheVariants.{Opens, Link, Bans, Shares, StrikesNeed, StrikesThing, Makes, Ends}
use Rattle.words.specs.declared.faults.WordFault.{WordFault}
use Rattle.words.specs.declared.faults.RuleFault.{RuleFault}
use Rattle.words.specs.declared.faults.RuleFault.TheVariants.{Word, OutOfPlace, OutOfRange, Twice, TooMany}
use Rattle.words.specs.declared.faults.Cause.{Cause}
use Rattle.words.specs.declared.faults.Cause.TheVariants.{InRule, TooManyRules}
use Rattle.words.specs.declared.stages.Stage.{Stage}
use Rattle.words.specs.declared.stages.Stage.TheVariants.{Outside, Opened, Needs, BanOpened, BanReady, BanLinks, StruckNeeds, StruckThings, MakesOpened, Made}
use Rattle.words.specs.declared.steps.State.{State}
use Rattle.words.specs.Words.{item_of}

-- which words may follow at a stage
abbrev pub column : Item → ℕ
column (Opens n) = 0
column (Link l) = 1
column (Bans n) = 2
column (Shares s) = 3
column (StrikesNeed n) = 4
column (StrikesThing n) = 5
column (Makes n) = 6
column Ends = 7

-- the table's row of a stage
abbrev pub row : Stage → List Bool
row Outside = true ∷ false ∷ false ∷ false ∷ false ∷ false ∷ false ∷ false ∷ []
row Opened = false ∷ true ∷ false ∷ false ∷ false ∷ false ∷ false ∷ false ∷ []
row Needs = false ∷ true ∷ true ∷ false ∷ true ∷ true ∷ true ∷ true ∷ []
row BanOpened = false ∷ false ∷ false ∷ true ∷ false ∷ false ∷ false ∷ false ∷ []
row BanReady = false ∷ true ∷ false ∷ false ∷ false ∷ false ∷ false ∷ false ∷ []
row BanLinks = false ∷ true ∷ true ∷ false ∷ true ∷ true ∷ true ∷ true ∷ []
row StruckNeeds = false ∷ false ∷ false ∷ false ∷ true ∷ true ∷ true ∷ true ∷ []
row StruckThings = false ∷ false ∷ false ∷ false ∷ false ∷ true ∷ true ∷ true ∷ []
row MakesOpened = false ∷ true ∷ false ∷ false ∷ false ∷ false ∷ false ∷ false ∷ []
row Made = false ∷ true ∷ false ∷ false ∷ false ∷ false ∷ false ∷ true ∷ []

-- the stage after a link
abbrev pub linked : Stage → Stage
linked Outside = Outside
linked Opened = Needs
linked Needs = Needs
linked BanOpened = BanOpened
linked BanReady = BanLinks
linked BanLinks = BanLinks
linked StruckNeeds = StruckNeeds
linked StruckThings = StruckThings
linked MakesOpened = Made
linked Made = Made

-- the needs after a link
abbrev pub tallied : Stage → ℕ → ℕ → ℕ
tallied Outside needs seen = needs
tallied Opened needs seen = seen + 1
tallied Needs needs seen = seen + 1
tallied BanOpened needs seen = needs
tallied BanReady needs seen = needs
tallied BanLinks needs seen = needs
tallied StruckNeeds needs seen = needs
tallied StruckThings needs seen = needs
tallied MakesOpened needs seen = needs
tallied Made needs seen = needs

-- how many struck needs were seen
abbrev pub struck_needs : Stage → ℕ → ℕ
struck_needs Outside seen = 0
struck_needs Opened seen = 0
struck_needs Needs seen = 0
struck_needs BanOpened seen = 0
struck_needs BanReady seen = 0
struck_needs BanLinks seen = 0
struck_needs StruckNeeds seen = seen
struck_needs StruckThings seen = 0
struck_needs MakesOpened seen = 0
struck_needs Made seen = 0

-- how many struck things were seen
abbrev pub struck_things : Stage → ℕ → ℕ
struck_things Outside seen = 0
struck_things Opened seen = 0
struck_things Needs seen = 0
struck_things BanOpened seen = 0
struck_things BanReady seen = 0
struck_things BanLinks seen = 0
struck_things StruckNeeds seen = 0
struck_things StruckThings seen = seen
struck_things MakesOpened seen = 0
struck_things Made seen = 0

-- the item may follow at the stage
abbrev pub may : Stage → Item → Bool
may s i = slice_index_or (row s) (column i) false

-- 1 to 6
abbrev pub in_six : ℕ → Bool
in_six n = nat_le 1 n && nat_le n 6

-- a variable below the limit, or one of the 64 marks
abbrev pub target_in : ℕ → Target → Bool
target_in limit (Variable v) = nat_lt v limit
target_in limit (Mark m) = nat_lt m 64

-- a label of 16, a source below the limit, and such a target
abbrev pub link_in : ℕ → PatternLink → Bool
link_in limit l = nat_lt l.label 16 && (nat_lt l.source limit && target_in limit l.target)

-- a new ban variable, or one shared with a rule variable below n
abbrev pub share_in : ℕ → Share → Bool
share_in n New = true
share_in n (With v) = nat_lt v n
share_in n (Neither m) = false

-- the item's values are in range
abbrev pub in_range : State → Item → Bool
in_range s (Opens n) = in_six n
in_range s (Link l) = link_in s.limit l
in_range s (Bans n) = in_six n
in_range s (Shares x) = share_in s.variables x
in_range s (StrikesNeed n) = nat_lt n s.needs
in_range s (StrikesThing n) = nat_lt n s.variables
in_range s (Makes n) = nat_le n 4
in_range s Ends = true

-- of which items a second one alike is a fault: links, and strikes after the first of their kind
abbrev pub after_need : Stage → Bool
after_need Outside = false
after_need Opened = false
after_need Needs = false
after_need BanOpened = false
after_need BanReady = false
after_need BanLinks = false
after_need StruckNeeds = true
after_need StruckThings = false
after_need MakesOpened = false
after_need Made = false

-- a struck thing was seen
abbrev pub after_thing : Stage → Bool
after_thing Outside = false
after_thing Opened = false
after_thing Needs = false
after_thing BanOpened = false
after_thing BanReady = false
after_thing BanLinks = false
after_thing StruckNeeds = false
after_thing StruckThings = true
after_thing MakesOpened = false
after_thing Made = false

-- a second such item alike is a fault
abbrev pub listed : Stage → Item → Bool
listed s (Opens n) = false
listed s (Link l) = true
listed s (Bans n) = false
listed s (Shares x) = false
listed s (StrikesNeed n) = after_need s
listed s (StrikesThing n) = after_thing s
listed s (Makes n) = false
listed s Ends = false

-- one item too many
abbrev pub too_many : State → Item → Bool
too_many s (Opens n) = nat_le 16 s.rules
too_many s (Link l) = nat_le s.most s.seen
too_many s (Bans n) = nat_le 4 s.bans
too_many s (Shares x) = false
too_many s (StrikesNeed n) = false
too_many s (StrikesThing n) = false
too_many s (Makes n) = false
too_many s Ends = false

-- the fault of one item too many
abbrev pub many : Item → Cause
many (Opens n) = TooManyRules
many (Link l) = InRule TooMany
many (Bans n) = InRule TooMany
many (Shares x) = InRule TooMany
many (StrikesNeed n) = InRule TooMany
many (StrikesThing n) = InRule TooMany
many (Makes n) = InRule TooMany
many Ends = InRule TooMany

-- the smallest number that holds of an item, else what it leads to
abbrev pub judged : {A : Type 0} → State → Item → Bool → A → Result A Cause
judged s i dup a =
    cond (may s.stage i)
    (cond (in_range s i)
    (cond (listed s.stage i && dup) (Err (InRule Twice))
    (cond (too_many s i) (Err (many i))
    (Ok a)))
    (Err (InRule OutOfRange)))
    (Err (InRule OutOfPlace))

-- the state after a link, and after a ban variable
abbrev pub link_next : State → State
link_next s = record { stage = linked s.stage; rules = s.rules; variables = s.variables; needs = tallied s.stage s.needs s.seen; bans = s.bans; limit = s.limit; most = s.most; seen = s.seen + 1 }

-- the state after a ban variable
abbrev pub share_next : State → State
share_next s = record { stage = cond (s.seen + 1 == s.limit) BanReady BanOpened; rules = s.rules; variables = s.variables; needs = s.needs; bans = s.bans; limit = s.limit; most = s.most; seen = cond (s.seen + 1 == s.limit) 0 (s.seen + 1) }

-- the state where a run begins that may name the variables below the limit, and after a strike that follows so many
abbrev pub run_opened : State → Stage → ℕ → ℕ → State
run_opened s stage limit most = record { stage = stage; rules = s.rules; variables = s.variables; needs = s.needs; bans = s.bans; limit = limit; most = most; seen = 0 }

-- the state after a strike that follows so many of its kind
abbrev pub strike_next : State → Stage → ℕ → State
strike_next s stage before = record { stage = stage; rules = s.rules; variables = s.variables; needs = s.needs; bans = s.bans; limit = 0; most = 0; seen = before + 1 }

-- the state after an item that was taken
abbrev pub next_of : State → Item → State
next_of s (Opens n) = record { stage = Opened; rules = s.rules; variables = n; needs = 0; bans = 0; limit = n; most = 12; seen = 0 }
next_of s (Link l) = link_next s
next_of s (Bans n) = run_opened (record { stage = s.stage; rules = s.rules; variables = s.variables; needs = s.needs; bans = s.bans + 1; limit = s.limit; most = s.most; seen = s.seen }) BanOpened n 8
next_of s (Shares x) = share_next s
next_of s (StrikesNeed n) = strike_next s StruckNeeds (struck_needs s.stage s.seen)
next_of s (StrikesThing n) = strike_next s StruckThings (struck_things s.stage s.seen)
next_of s (Makes n) = run_opened s MakesOpened (s.variables + n) 12
next_of s Ends = record { stage = Outside; rules = s.rules + 1; variables = 0; needs = 0; bans = 0; limit = 0; most = 0; seen = 0 }

-- the number is in the list
abbrev pub has : ℕ → List ℕ → Bool
has x ys = list_any (λ y. y == x) ys

-- a word fault is a rule fault
abbrev pub worded : Result Item WordFault → Result Item RuleFault
worded (Ok i) = Ok i
worded (Err e) = Err (Word e)

-- go on with what was read, or stop at the fault
abbrev pub and_then : {A B : Type 0} → Result A RuleFault → (A → Result B Cause) → Result B Cause
and_then (Ok a) f = f a
and_then (Err e) f = Err (InRule e)

-- one word after those before: the fault that it has, or the state that it leads to
abbrev pub step_of : State → ℕ → Bool → Result State Cause
step_of s w dup = and_then (worded (item_of w)) (λ i. judged s i dup (next_of s i))

-- counts that are small enough to go on from
abbrev pub Small : State → Type 0
Small s = (s.rules < 2 ^ 32) × (s.bans < 2 ^ 32) × (s.seen < 2 ^ 32) × (s.variables ≤ 6)

-- the state before the first word
abbrev pub begun : State
begun = record { stage = Outside; rules = 0; variables = 0; needs = 0; bans = 0; limit = 0; most = 0; seen = 0 }
