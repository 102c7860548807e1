-- A change and its undoing leave no more held than before.
use Rattle.std.specs.Prelude.{◌≡◌, ℕ, ◌≤◌, true, false, length}
use Rattle.links.specs.declared.link.Link.{Link}
use Rattle.links.specs.Sets.{member}
use Rattle.held_store.specs.Layers.{Fresh, Layer, held_in, set_in, turned_off, turned_on}

-- a link that is off is switched on, and off again
abbrev pub OnUndone : Type 0
OnUndone = (things limit : ℕ) (l : Link) (s : Layer) → held_in s ≤ 16 → member l (set_in things s) ≡ false → held_in (turned_off things limit l (turned_on things l s)) ≤ held_in s

-- a link that is on is switched off, and on again
abbrev pub OffUndone : Type 0
OffUndone = (things limit : ℕ) (l : Link) (s : Layer) → held_in s ≤ 16 → Fresh s → length (set_in things s) ≤ limit → member l (set_in things s) ≡ true → held_in (turned_on things l (turned_off things limit l s)) ≤ held_in s
