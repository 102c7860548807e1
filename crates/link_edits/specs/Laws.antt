-- An edited set means a set of links: that of its base after the edit.
use Rattle.links.specs.declared.traits.Links.{Ghosts}
use Rattle.links.specs.Sets.{Lawful}
use Rattle.link_edits.specs.Kept.{inside_edited, rising_edited}
use Rattle.link_edits.specs.declared.edited.Edited.{Edited}
use Rattle.link_edits.specs.Edits.{after}

pub edited_lawful : {S : Type 0} (L : Ghosts S) → Lawful {X = Edited S} (λ v. after v.edit (L.set v.base.now))
edited_lawful L = record {
  in_range = λ v. L.lawful.in_range v.base.now;
  all_in = λ v. inside_edited (L.set v.base.now).things v.edit.off.now v.edit.on.now (L.set v.base.now).links (L.lawful.all_in v.base.now);
  rises = λ v. rising_edited (L.set v.base.now).things v.edit.off.now v.edit.on.now (L.set v.base.now).links (L.lawful.rises v.base.now);
}
