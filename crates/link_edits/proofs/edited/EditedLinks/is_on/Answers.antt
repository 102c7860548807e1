use Rattle.std.proofs.Common.{◌≡◌, true, false, not, ◌&&◌, sym, ap, ◌∙◌, subst}
use Rattle.links.specs.Sets.{inside, member}
use Rattle.link_edits.proofs.Edits.{edited_put, edited_taken, edited_stays}
use Rattle.link_edits.proofs.edited.EditedLinks.is_on.Goals as goal

pub returns-then-puts_on : goal.returns-then-puts_on
returns-then-puts_on g c =
    let b = g.L.Links.set c.args.self.now.base.now in
    let e = c.args.self.now.edit in
    edited_put b.things e.off.now e.on.now b.links c.args.link
    (sym (subst (λ v. true ≡ (inside v c.args.link && member c.args.link e.on.now)) c.sizes.ensures.things c.if-puts_on.ensures))

pub returns-then-not-takes_off : goal.returns-then-not-takes_off
returns-then-not-takes_off g c =
    let b = g.L.Links.set c.args.self.now.base.now in
    let e = c.args.self.now.edit in
    c.is_on.ensures ∙
    edited_stays b.things e.off.now e.on.now b.links c.args.link
    (sym (subst (λ v. false ≡ (inside v c.args.link && member c.args.link e.on.now)) c.sizes.ensures.things c.if-puts_on.ensures))
    (sym c.takes_off.ensures ∙ c.if-not-takes_off.true)

pub returns-else-not-takes_off : goal.returns-else-not-takes_off
returns-else-not-takes_off g c =
    let b = g.L.Links.set c.args.self.now.base.now in
    let e = c.args.self.now.edit in
    ap not c.if-not-takes_off.false ∙
    edited_taken b.things e.off.now e.on.now b.links c.args.link
    (sym (subst (λ v. false ≡ (inside v c.args.link && member c.args.link e.on.now)) c.sizes.ensures.things c.if-puts_on.ensures))
    (sym c.takes_off.ensures ∙ c.if-not-takes_off.false)
