-- What a held store means: the set below it with the held changes counted.
use Rattle.links.specs.declared.traits.Links.{Ghosts}
use Rattle.links.specs.Sets.{Lawful, LinkSet, with_links}
use Rattle.link_edits.specs.Kept.{inside_edited, rising_edited}
use Rattle.held_store.specs.declared.store.HeldStore.{HeldStore}
use Rattle.held_store.specs.Layers.{Layer, layer, set_in}

-- what lies below, and what is held
abbrev pub layer_of : {S : Type 0} (L : Ghosts S) → HeldStore S → Layer
layer_of L h = layer (L.set h.base).links h.off.items h.on.items

-- the set, with the sizes of the one below
abbrev pub set_of : {S : Type 0} (L : Ghosts S) → HeldStore S → LinkSet
set_of L h = with_links (set_in (L.set h.base).things (layer_of L h)) (L.set h.base)

pub held_lawful : {S : Type 0} (L : Ghosts S) → Lawful {X = HeldStore S} (set_of L)
held_lawful L = record {
  in_range = λ h. L.lawful.in_range h.base;
  all_in = λ h. inside_edited (L.set h.base).things h.off.items h.on.items (L.set h.base).links (L.lawful.all_in h.base);
  rises = λ h. rising_edited (L.set h.base).things h.off.items h.on.items (L.set h.base).links (L.lawful.rises h.base);
}
