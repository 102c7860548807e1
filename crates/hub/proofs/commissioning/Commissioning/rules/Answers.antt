use Rattle.std.proofs.Common.{◌∙◌}
use Rattle.hub.specs.Calls.{held_words}
use Rattle.rules.proofs.ValidLaws.{accepted_says, set_here}
use Rattle.hub.proofs.commissioning.Commissioning.rules.Goals as goal

pub returns : goal.returns
returns c =
    let h = c.args.self.now in
    let k = accepted_says (held_words h) h.accepted.ok in
    (c.as_slice.ensures.value, (k.0, k.1, set_here (record { words = c.as_slice.result; rules = h.accepted.rules }) (held_words h) k.0 k.1 c.as_slice.ensures.value (h.accepted.counts ∙ k.2)))
