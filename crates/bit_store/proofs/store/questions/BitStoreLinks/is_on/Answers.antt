use Rattle.std.proofs.Common.{sym, ap, ◌∙◌}
use Rattle.bit_store.specs.Places.{bit_on}
use Rattle.bit_store.proofs.Kept.{member_links, member_links_outside}
use Rattle.bit_store.proofs.store.questions.BitStoreLinks.is_on.Goals as goal

pub returns-in_default : goal.returns-in_default
returns-in_default c = sym (member_links_outside c.args.self.now.words.now c.args.self.now.sizes.things c.args.link c.in_default.ensures)

pub returns : goal.returns
returns c =
    let s = c.args.self.now in
    let placed = c.in-Some.ensures in
    c.is_bit_on.ensures ∙ ap (bit_on s.words.now) placed.1 ∙ sym (member_links s.words.now s.sizes.things c.args.link placed.0)
