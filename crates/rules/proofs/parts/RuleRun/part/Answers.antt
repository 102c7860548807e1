use Rattle.std.proofs.Common.{◌+◌, length, take}
use Rattle.rules.specs.Parts.{pieces, pieces_words}
use Rattle.rules.proofs.PartRuns.{part_handed, none_left}
use Rattle.rules.proofs.parts.RuleRun.part.Goals as goal

pub returns-then-i-ge7 : goal.returns-then-i-ge7
returns-then-i-ge7 c = λ r h. none_left r c.args.i (c.args.self.place + 1 + length (pieces_words (take c.args.i (pieces r)))) h.formed c.if-i-ge7.true

pub returns : goal.returns
returns c =
    λ r h. part_handed c.args.self.words.now r h.formed c.args.i c.part_start-at.result (c.part_start-at.ensures.start r h.formed h.written) c.args.self.place c.part_end-end.result h.inside (c.part_end-end.ensures.end c.part_start-at.ensures.within) c.part_start-at.ensures.within c.cut.result c.cut.ensures
