-- What the calls of a commissioning hub answer, and what they leave.
use Rattle.std.specs.Prelude.{◌≡◌, ℕ, ◌<◌, ◌≤◌, true, List, ◌++◌, length, drop, Ok, Err, vec_items, Result}
use Rattle.rules.specs.declared.sets.RuleSet.{RuleSet}
use Rattle.rules.specs.Rules.{Rule}
use Rattle.rules.specs.Reading.{reading_of, accepted, Says}
use Rattle.rules.specs.Sets.{SetHere}
use Rattle.hub.specs.declared.commissioning.Terms.{Terms}
use Rattle.hub.specs.declared.commissioning.Commissioning.{Commissioning}
use Rattle.hub.specs.declared.refusals.HubRefusal.{HubRefusal}
use Rattle.hub.specs.declared.refusals.HubRefusal.TheVariants.{OutOfRange}
use Rattle.hub.specs.declared.refusals.ReadRefusal.{ReadRefusal}
use Rattle.hub.specs.declared.refusals.ReadRefusal.TheVariants.{Fault, NoMemory}
use Rattle.hub.specs.declared.refusals.WriteRefusal.{WriteRefusal}
use Rattle.hub.specs.declared.refusals.WriteRefusal.TheVariants.{Short}

-- a life of 1 to 268,435,455 and a row limit of 1 to 1,024
abbrev pub InRange : ℕ → ℕ → Type 0
InRange life rows = (1 ≤ life) × (life ≤ 268435455) × (1 ≤ rows) × (rows ≤ 1024)

-- the terms asked for, or the refusal, which is given exactly outside the ranges
abbrev pub Asked : ℕ → ℕ → ℕ → Result Terms HubRefusal → Type 0
Asked plate life rows (Ok t) = InRange life rows × (t.plate ≡ plate) × (t.life ≡ life) × (t.rows ≡ rows)
Asked plate life rows (Err e) = (InRange life rows → ⊥) × (e ≡ OutOfRange)

-- the words of the rule set that the hub holds
abbrev pub held_words : Commissioning → List ℕ
held_words h = vec_items h.accepted.words

-- the view of the words held: they are a rule set, and it shows its rules
abbrev pub Shows : List ℕ → RuleSet → Type 0
Shows ws s = (s.words.now ≡ ws) × ((rs : List Rule) × Says ws rs × SetHere s rs)

-- Read: the words are held now, and the answer is how many rules they say. Refused, or no memory for a set that was right: the words before.
abbrev pub ReadsRules : List ℕ → List ℕ → Result ℕ ReadRefusal → List ℕ → Type 0
ReadsRules ws before (Ok n) after = ((rs : List Rule) × (reading_of ws ≡ Ok rs) × (n ≡ length rs)) × (after ≡ ws)
ReadsRules ws before (Err (Fault f)) after = (reading_of ws ≡ Err f) × (after ≡ before)
ReadsRules ws before (Err NoMemory) after = (accepted ws ≡ true) × (after ≡ before)

-- Written: the words stand at the buffer's start, the rest of it stays. Refused: the buffer is shorter than the words, and stays.
abbrev pub WritesRules : List ℕ → List ℕ → Result ℕ WriteRefusal → List ℕ → Type 0
WritesRules ws out (Ok n) after = (n ≡ length ws) × (n ≤ length out) × (after ≡ ws ++ drop n out)
WritesRules ws out (Err e) after = (e ≡ Short) × (length out < length ws) × (after ≡ out)
