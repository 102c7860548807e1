-- A bit store means a set of links: those whose bits are on.
use Rattle.links.specs.Sets.{Lawful, LinkSet}
use Rattle.bit_store.specs.Places.{links_in}
use Rattle.bit_store.specs.declared.store.BitStore.{BitStore}

-- the set that a bit store means
abbrev pub bits_set : BitStore → LinkSet
bits_set s = record { things = s.sizes.things; limit = s.sizes.limit; links = links_in s.words.now s.sizes.things }

pub bits_lawful : Lawful bits_set
bits_lawful = record {
  in_range = λ s. s.sizes.ranges;
  all_in = λ s. s.within;
  rises = λ s. s.rises;
}
