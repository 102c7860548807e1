-- The second pass: for each word none or the fault that it has, and the first that there is.
use Rattle.std.specs.Prelude.{ℕ, ◌+◌, ◌%◌, Bool, true, false, cond, ◌&&◌, List, [], ◌∷◌, ◌++◌, map, length, Some, None, Ok, Err, Option, Result}
use Rattle.words.specs.declared.items.PatternLink.{PatternLink}
use Rattle.words.specs.declared.items.Share.{Share}
use Rattle.words.specs.declared.faults.RuleFault.{RuleFault}
use Rattle.words.specs.declared.faults.RuleFault.TheVariants.{Unanchored, SharesNothing, SharesTwice, LinksShared, MadeAtStruck}
use Rattle.words.specs.declared.faults.Cause.TheVariants.{InRule}
use Rattle.rules.specs.declared.faults.SetFault.{SetFault}
use Rattle.rules.specs.declared.faults.PlacedFault.{PlacedFault}
use Rattle.rules.specs.Rules.{Ban, Making, Rule, rule_words, bans_words}
use Rattle.words.specs.Words.{link_of}
use Rattle.rules.specs.Runs.{within}
use Rattle.rules.specs.Anchors.{some, anchored, is_shared, joins_shared, shares_again, touches}

-- the fault if the test holds
abbrev pub fault_if : Bool → RuleFault → Option RuleFault
fault_if true f = Some f
fault_if false f = None

-- the first if there is one, else the second
abbrev pub or_else : {A : Type 0} → Option A → Option A → Option A
or_else None y = y
or_else (Some x) y = Some x

-- a word's fault with its place
abbrev pub placed : ℕ → Option RuleFault → Option PlacedFault
placed place None = None
placed place (Some f) = Some (record { place = place; fault = f })

-- the first word that has a fault
abbrev pub first_mark : ℕ → List (Option RuleFault) → Option PlacedFault
first_mark place [] = None
first_mark place (m ∷ ms) = or_else (placed place m) (first_mark (place + 1) ms)

-- each ban variable after those before
abbrev pub share_marks : List Share → List Share → List (Option RuleFault)
share_marks before [] = []
share_marks before (s ∷ ss) = fault_if (shares_again before s) SharesTwice ∷ share_marks (before ++ s ∷ []) ss

-- the opening word of a ban: unanchored before sharing nothing
abbrev pub ban_mark : Ban → Option RuleFault
ban_mark b = cond (anchored b.variables b.links) (cond (some is_shared b.shares) None (Some SharesNothing)) (Some Unanchored)

-- the links of a ban
abbrev pub link_marks : List Share → List PatternLink → List (Option RuleFault)
link_marks ss ls = map (λ l. fault_if (joins_shared ss l) LinksShared) ls

-- the words of a ban: its opening, its variables, its links
abbrev pub ban_marks : Ban → List (Option RuleFault)
ban_marks b = ban_mark b ∷ (share_marks [] b.shares ++ link_marks b.shares b.links)

-- the words of the bans, one after another
abbrev pub bans_marks : List Ban → List (Option RuleFault)
bans_marks [] = []
bans_marks (b ∷ bs) = ban_marks b ++ bans_marks bs

-- the words of the makes: the first says no link
abbrev pub makes_marks : List ℕ → Option Making → List (Option RuleFault)
makes_marks st None = []
makes_marks st (Some m) = None ∷ map (λ l. fault_if (touches st l) MadeAtStruck) m.links

-- no fault, as many times as the list is long
abbrev pub unmarked : {X : Type 0} → List X → List (Option RuleFault)
unmarked [] = []
unmarked (x ∷ xs) = None ∷ unmarked xs

-- the words of a rule, one after another
abbrev pub rule_marks : Rule → List (Option RuleFault)
rule_marks r =
    cond (anchored r.variables r.needs) None (Some Unanchored) ∷
    (unmarked r.needs ++ (bans_marks r.bans ++ (unmarked r.struck_needs ++ (unmarked r.struck_things ++ (makes_marks r.struck_things r.makes ++ None ∷ [])))))

-- the marks of a rule's last words, from its makes on, and where these begin
abbrev pub last_marks : Rule → List (Option RuleFault)
last_marks r = makes_marks r.struck_things r.makes ++ None ∷ []

-- where the words from the makes on begin, in a rule at the place
abbrev pub last_place : ℕ → Rule → ℕ
last_place place r = place + 1 + length r.needs + length (bans_words r.bans) + length r.struck_needs + length r.struck_things

-- the number of a strike's word, and the mark of one of the last words by what it says
abbrev pub low_of : ℕ → ℕ
low_of w = w % 256

-- the mark of one of the last words, by what it says
abbrev pub made_mark : List ℕ → ℕ → Option RuleFault
made_mark st w = fault_if (within 2 3 w && touches st (link_of w)) MadeAtStruck

-- what a pass answers, by the first fault that it found
abbrev pub passed : {F : Type 0} → Option F → Result (Unit {0}) F
passed None = Ok tt
passed (Some f) = Err f

-- the fault in a set, where it is rule number n's
abbrev pub fault_in : ℕ → PlacedFault → SetFault
fault_in n m = record { place = m.place; rule = n; cause = InRule m.fault }

-- the fault at each word of which the test says so, by the word's number from n on
abbrev pub marks_by : (ℕ → ℕ → Bool) → RuleFault → ℕ → List ℕ → List (Option RuleFault)
marks_by t f n [] = []
marks_by t f n (w ∷ ws) = fault_if (t n w) f ∷ marks_by t f (n + 1) ws

-- the first fault of rule number n, whose first word stands at the place
abbrev pub in_rule : ℕ → Option PlacedFault → Option SetFault
in_rule n None = None
in_rule n (Some m) = Some (fault_in n m)

-- the first fault of the rules from number n on, of which the first stands at the place
abbrev pub second_fault : ℕ → ℕ → List Rule → Option SetFault
second_fault n place [] = None
second_fault n place (r ∷ rs) = or_else (in_rule n (first_mark place (rule_marks r))) (second_fault (n + 1) (place + length (rule_words r)) rs)

-- what the second pass makes of the first's answer
abbrev pub unless_fault : Option SetFault → List Rule → Result (List Rule) SetFault
unless_fault None rs = Ok rs
unless_fault (Some f) rs = Err f

-- the answer of both passes, from that of the first
abbrev pub settled : Result (List Rule) SetFault → Result (List Rule) SetFault
settled (Ok rs) = unless_fault (second_fault 0 0 rs) rs
settled (Err f) = Err f
