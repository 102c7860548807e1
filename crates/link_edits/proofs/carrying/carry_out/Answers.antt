use Rattle.std.proofs.Common.{◌≡◌, ◌+◌, ◌≤◌, length, get_or, take, sym, ap, ◌∙◌, arith}
use Rattle.links.specs.Sets.{link_of, removed, with_links}
use Rattle.link_edits.specs.Edits.{with_all, with_link, without_all}
use Rattle.link_edits.proofs.Edits.{off_more, on_more}
use Rattle.link_edits.proofs.Steps.{off_step, on_step, front_fits, sizes_stay}
use Rattle.link_edits.proofs.carrying.carry_out.Goals as goal

pub loop-link-preserved : goal.loop-link-preserved
loop-link-preserved g c =
    let s = g.S.Links.set c.loop-link.store in
    let off = c.args.edit.off.now in
    let l = get_or off c.loop-link.link-index (link_of 0 0 0) in
    let old = g.S.Links.set c.args.store.now in
    off_step s (g.S.Links.set c.switch_off.new.self) l c.switch_off.result (g.S.Links.lawful.all_in c.loop-link.store) c.switch_off.ensures
    ∙ ap (λ v. with_links (removed l v.links) v) c.loop-link.invariant
    ∙ ap (λ v. with_links v old) (sym (off_more off c.loop-link.link-index (link_of 0 0 0) old.links c.loop-link-test.true))

pub loop-link-2-preserved : goal.loop-link-2-preserved
loop-link-2-preserved g c =
    let s = g.S.Links.set c.loop-link-2.store in
    let t = g.S.Links.set c.switch_on.new.self in
    let old = g.S.Links.set c.args.store.now in
    let on = c.args.edit.on.now in
    let i = c.loop-link-2.link-index in
    let l = get_or on i (link_of 0 0 0) in
    let mid = without_all c.args.edit.off.now old.links in (
      λ p.
          let here : s ≡ with_links (with_all old.things (take i on) mid) old = c.loop-link-2.invariant.0 p in
          let next = sym (on_more old.things on i (link_of 0 0 0) mid c.loop-link-2-test.true) in
          let fits : length (with_link s.things l s.links) ≤ s.limit =
          (let a = ap (λ v. length (with_link v.things l v.links)) here in let e = ap length next in let b = front_fits old.things on (i + 1) mid in let r = ap (λ v. v.limit) here in omega arith) in
          on_step s t l c.switch_on.result fits c.switch_on.ensures ∙ ap (λ v. with_links (with_link v.things l v.links) v) here ∙ ap (λ v. with_links v old) next,
      sizes_stay _ _ s t c.switch_on.result c.switch_on.ensures ∙ ap (with_links t.links) c.loop-link-2.invariant.1,
    )
