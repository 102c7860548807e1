-- A list store means a set of links: the records of its list.
use Rattle.ordered.specs.Items.{items}
use Rattle.links.specs.Sets.{Lawful, LinkSet}
use Rattle.list_store.specs.declared.store.ListStore.{ListStore}

-- the set that a list store means
abbrev pub list_set : ListStore → LinkSet
list_set s = record { things = s.sizes.things; limit = s.sizes.limit; links = items s.list }

pub list_lawful : Lawful list_set
list_lawful = record {
  in_range = λ s. s.sizes.ranges;
  all_in = λ s. s.within;
  rises = λ s. s.list.rises;
}
