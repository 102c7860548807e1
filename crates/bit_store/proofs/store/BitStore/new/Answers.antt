use Rattle.std.proofs.Common.{◌≤◌, ◌++◌, length, drop, replicate, sym, ap, ◌∙◌, zero-le, arith}
use Rattle.std.proofs.lemmas.List.{length-take-le, length-append, length-drop}
use Rattle.bit_store.specs.Places.{words_for}
use Rattle.bit_store.proofs.Kept.{links_cleared, rising_links, inside_links}
use Rattle.bit_store.proofs.Placing.{words_hold}
use Rattle.bit_store.proofs.store.BitStore.new.Goals as goal

pub invariant_of-result : goal.invariant_of-result
invariant_of-result c =
    let t = c.args.sizes.things in
    let n = c.words_needed.result in
    let l = length-take-le n c.args.words.now (omega (arith, c.requires, c.words_needed.ensures.is)) in
    let none = links_cleared c.fill.new.self (drop n c.args.words.now) t n (c.fill.ensures.after (λ y e. e) ∙ ap (λ v. replicate v 0) l) (omega (arith, words_hold t, c.words_needed.ensures.is)) in
    let long : words_for t ≤ length (c.fill.new.self ++ drop n c.args.words.now) = omega (arith, c.requires, c.words_needed.ensures.is, c.fill.ensures.len, l, length-drop n c.args.words.now, length-append c.fill.new.self (drop n c.args.words.now)) in
    record { long = long; counted = ap length (sym none); few = zero-le; rises = rising_links _ t; within = inside_links _ t }
