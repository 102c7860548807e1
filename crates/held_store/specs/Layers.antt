-- A layer of held changes over a set of links, and what a change makes of it.
use Rattle.std.specs.Prelude.{◌≡◌, ℕ, ◌+◌, true, false, cond, List, [], ◌∷◌, ◌++◌, length, Ok, Err, Result, nat_le, nat_lt}
use Rattle.links.specs.declared.link.Link.{Link}
use Rattle.links.specs.declared.switch_refusal.SwitchRefusal.{SwitchRefusal}
use Rattle.links.specs.Sets.{member, removed}
use Rattle.link_edits.specs.Edits.{edited}

-- the set that lies below, the links held off and the links held on
pub record Layer : Type 0 where
  pub below : List Link
  pub off : List Link
  pub on : List Link

-- a layer with these links below, off and on
abbrev pub layer : List Link → List Link → List Link → Layer
layer below off on = record { below = below; off = off; on = on }

-- the layer's own set: the one below, with the held changes counted
abbrev pub set_in : ℕ → Layer → List Link
set_in things s = edited things s.off s.on s.below

-- how many changes are held
abbrev pub held_in : Layer → ℕ
held_in s = length s.off + length s.on

-- a layer that holds nothing
abbrev pub nothing_held : List Link → Layer
nothing_held ls = record { below = ls; off = []; on = [] }

-- the layer with its changes sent down
abbrev pub sent_down : ℕ → Layer → Layer
sent_down things s = nothing_held (set_in things s)

-- the layer with one change more held
abbrev pub held_on : Link → Layer → Layer
held_on l s = record { below = s.below; off = s.off; on = s.on ++ l ∷ [] }

abbrev pub held_off : Link → Layer → Layer
held_off l s = record { below = s.below; off = s.off ++ l ∷ []; on = s.on }

-- the layer with a held change taken back
abbrev pub back_off : Link → Layer → Layer
back_off l s = record { below = s.below; off = removed l s.off; on = s.on }

abbrev pub back_on : Link → Layer → Layer
back_on l s = record { below = s.below; off = s.off; on = removed l s.on }

-- the layer with a link switched off below
abbrev pub below_off : Link → Layer → Layer
below_off l s = record { below = removed l s.below; off = s.off; on = s.on }

-- the layer after a link is held on: a seventeenth change first sends the others down
abbrev pub on_held : ℕ → Link → Layer → Layer
on_held things l s = cond (nat_lt (held_in s) 16) (held_on l s) (held_on l (sent_down things s))

-- the same for a link held off; a set past the limit, which no switching makes, is not sent down but changed below
abbrev pub off_held : ℕ → ℕ → Link → Layer → Layer
off_held things limit l s = cond (nat_lt (held_in s) 16) (held_off l s) (cond (nat_le (length (set_in things s)) limit) (held_off l (sent_down things s)) (below_off l s))

-- The layer after a switching on: where the link is on below, it was held off, and that is taken back.
abbrev pub turned_on : ℕ → Link → Layer → Layer
turned_on things l s = cond (member l s.below) (back_off l s) (on_held things l s)

-- The layer after a switching off: where the link is off below, it was held on, and that is taken back.
abbrev pub turned_off : ℕ → ℕ → Link → Layer → Layer
turned_off things limit l s = cond (member l s.below) (off_held things limit l (back_on l s)) (back_on l s)

-- taken it leaves the new layer, refused the old one
abbrev pub Held : Layer → Layer → Result (Unit {0}) SwitchRefusal → Layer → Type 0
Held old new (Ok _) after = after ≡ new
Held old new (Err _) after = after ≡ old

-- each held change differs from what lies below
pub record Fresh (s : Layer) : Type 0 where
  pub ons : (x : Link) → member x s.on ≡ true → member x s.below ≡ false
  pub offs : (x : Link) → member x s.off ≡ true → member x s.below ≡ true
