use Rattle.std.proofs.Common.{◌||◌, eqb, map, sym, ap, ◌∙◌}
use mathlib.Core.Bool.{or-false}
use Rattle.rules.specs.Anchors.{some}
use Rattle.rules.specs.Marks.{low_of}
use Rattle.rules.proofs.RuleMarks.{touches_mark}
use Rattle.rules.proofs.checking.is_at_struck.Goals as goal

pub returns-in-Mark : goal.returns-in-Mark
returns-in-Mark c =
    let st = map low_of c.args.things.now in
    let here = some (eqb c.args.link.source) st in
    c.is_struck-in-Mark.ensures ∙ sym (ap (λ b. here || b) (touches_mark st c.args.link.target c.in-Mark.is) ∙ or-false here)
