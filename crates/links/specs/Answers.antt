-- What a store answers, and what it leaves.
use Rattle.std.specs.Prelude.{◌≡◌, ℕ, ◌+◌, ◌<◌, ◌≤◌, Bool, true, false, cond, List, length, Some, None, Ok, Err, Option, Result, nat_le}
use Rattle.links.specs.declared.link.Link.{Link}
use Rattle.links.specs.declared.switch_refusal.SwitchRefusal.{SwitchRefusal}
use Rattle.links.specs.declared.switch_refusal.SwitchRefusal.TheVariants.{NoSuchLink, AlreadyOn, NotOn, Full}
use Rattle.links.specs.Sets.{LinkSet, inserted, inside, member, removed, touched, with_links}

-- why a link is not switched on, the smallest number first; none where it is
abbrev pub on_refusal : LinkSet → Link → Option SwitchRefusal
on_refusal g l =
    cond (inside g.things l) (cond (member l g.links) (Some AlreadyOn) (cond (nat_le g.limit (length g.links)) (Some Full) None)) (Some NoSuchLink)

-- why a link is not switched off
abbrev pub off_refusal : LinkSet → Link → Option SwitchRefusal
off_refusal g l = cond (inside g.things l) (cond (member l g.links) None (Some NotOn)) (Some NoSuchLink)

-- A switching that is refused for `why`, if for anything: taken it leaves the new links, refused the old ones, and the sizes always.
abbrev pub Switched : Option SwitchRefusal → List Link → LinkSet → Result (Unit {0}) SwitchRefusal → LinkSet → Type 0
Switched why new old (Ok _) after = (why ≡ None) × (after ≡ with_links new old)
Switched why new old (Err e) after = (why ≡ Some e) × (after ≡ old)

-- a switching on adds exactly the link, or is refused
abbrev pub SwitchedOn : Link → LinkSet → Result (Unit {0}) SwitchRefusal → LinkSet → Type 0
SwitchedOn l old = Switched (on_refusal old l) (inserted l old.links) old

-- a switching off removes exactly the link, or is refused
abbrev pub SwitchedOff : Link → LinkSet → Result (Unit {0}) SwitchRefusal → LinkSet → Type 0
SwitchedOff l old = Switched (off_refusal old l) (removed l old.links) old

-- the smallest number from `from` on that passes the test; none exactly when none passes
abbrev pub Least : (ℕ → Bool) → ℕ → Option ℕ → Type 0
Least p from None = (n : ℕ) → from ≤ n → p n ≡ false
Least p from (Some n) = (from ≤ n) × (p n ≡ true) × ((m : ℕ) → from ≤ m → m < n → p m ≡ false)

-- a thing that no link touches; none exactly when every thing is touched
abbrev pub Spare : LinkSet → Option ℕ → Type 0
Spare g None = (n : ℕ) → 64 ≤ n → n < 64 + g.things → touched n g.links ≡ true
Spare g (Some n) = (64 ≤ n) × (n < 64 + g.things) × (touched n g.links ≡ false)
