-- What an edit makes of a set: links are switched off, then links are switched on.
use Rattle.std.specs.Prelude.{ℕ, cond, not, ◌&&◌, List, [], ◌∷◌}
use Rattle.links.specs.declared.link.Link.{Link}
use Rattle.links.specs.Sets.{LinkSet, inserted, inside, member, removed, with_links}
use Rattle.link_edits.specs.declared.edit.Edit.{Edit}

-- the set with one link more, if it lies inside the sizes and is not there
abbrev pub with_link : ℕ → Link → List Link → List Link
with_link things l ls = cond (inside things l && not (member l ls)) (inserted l ls) ls

-- the set with all of these on
abbrev pub with_all : ℕ → List Link → List Link → List Link
with_all things [] ls = ls
with_all things (m ∷ ms) ls = with_all things ms (with_link things m ls)

-- the set with all of these off
abbrev pub without_all : List Link → List Link → List Link
without_all [] ls = ls
without_all (m ∷ ms) ls = without_all ms (removed m ls)

-- the set after an edit: those of `off` are off, and then those of `on` are on
abbrev pub edited : ℕ → List Link → List Link → List Link → List Link
edited things off on ls = with_all things on (without_all off ls)

-- the set after an edit, with the sizes that it had
abbrev pub after : Edit → LinkSet → LinkSet
after e g = with_links (edited g.things e.off.now e.on.now g.links) g
