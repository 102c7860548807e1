use Rattle.std.proofs.Common.{ℕ, sym, ap, ◌∙◌, subst, arith}
use Rattle.std.specs.Bool.{then_some}
use Rattle.ordered.specs.Order.{same}
use Rattle.links.specs.Sets.{link_before}
use Rattle.link_edits.specs.Adjacencies.{link_to}
use Rattle.link_edits.proofs.Loops.{Gives, one_told}
use Rattle.link_edits.proofs.edited.next_of_one.Goals as goal

pub returns : goal.returns
returns c =
    let w = c.args.way in
    let l = c.args.link in
    let end = c.other_end-other.ensures in
    let told = c.is_same.ensures ∙ ap (λ v. same link_before l v) (c.link_to.ensures ∙ ap (link_to w) end) in
    subst (λ o. Gives c.args.sizes.things w.direction w.node w.label c.args.from l o) (sym (c.then_some.ensures ∙ ap (λ (v : ℕ). then_some c.is_same.result v) end))
    (one_told c.args.sizes.things w.direction w.node w.label c.args.from l c.is_same.result (omega (arith, end)) (sym c.if-not-contain.ensures) told)
