use Rattle.std.proofs.Common.{◌≡◌, [], Err, get_or, sym, ap, ◌∙◌, arith, rules}
use Rattle.words.specs.Steps.{step_of}
use Rattle.rules.specs.Rules.{outside}
use Rattle.rules.proofs.Machine.{start_at, start_counts, counts_small, at_more, at_stop}
use Rattle.rules.proofs.Mapped.{mapped_ok, mapped_err}
use Rattle.rules.proofs.scanning.scan.Goals as goal

pub loop-at-init : goal.loop-at-init
loop-at-init c = ((outside [], start_at c.args.words.now c.start-state.result c.start-state.ensures), start_counts c.start-state.result c.start-state.ensures)

pub returns-in_err-state : goal.returns-in_err-state
returns-in_err-state c =
    let k = c.loop-at.invariant.0 in
    let e = ap (step_of c.loop-at.state (get_or c.args.words.now c.loop-at.at-counter 0)) (sym c.repeated-repeats.ensures) ∙ sym (c.step.ensures (counts_small c.loop-at.at-counter c.loop-at.state c.loop-at.invariant.1 (omega arith))) in
    let m = mapped_err _ _ c.step.result c.in_err-state.ensures.cases c.in_err-state.ensures.variant in
    let d : c.in_err-state.field-0.0 ≡ record { place = c.loop-at.at-counter; rule = c.loop-at.state.rules; cause = m.0 } = search rules in
    let f : c.from_residual.result ≡ Err c.in_err-state.field-0.0 = search rules in
    f ∙ ap Err d ∙ at_stop c.args.words.now c.loop-at.at-counter c.loop-at.state k.0 k.1 c.loop-at-test.true m.0 (e ∙ m.1)

pub loop-at-preserved : goal.loop-at-preserved
loop-at-preserved c =
    let k = c.loop-at.invariant.0 in
    let e = ap (step_of c.loop-at.state (get_or c.args.words.now c.loop-at.at-counter 0)) (sym c.repeated-repeats.ensures) ∙ sym (c.step.ensures (counts_small c.loop-at.at-counter c.loop-at.state c.loop-at.invariant.1 (omega arith))) in
    at_more c.args.words.now c.loop-at.at-counter c.loop-at.state k.0 k.1 c.loop-at-test.true c.in_ok-state.state (e ∙ mapped_ok _ _ c.step.result c.in_ok-state.state c.in_ok-state.ensures.cases c.in_ok-state.ensures.variant) c.loop-at.invariant.1
