use Rattle.std.proofs.Common.{map, rules, tests, arith, ◌∙◌}
use Rattle.std.proofs.lemmas.Iterator.{YieldsList-from_range}
use Rattle.std.proofs.lemmas.Iterator.Search.{all_from_yields_List}
use Rattle.words.specs.Words.{link_of}
use Rattle.rules.specs.Anchors.{some, anchors}
use Rattle.rules.proofs.Marking.{anchored_is}
use Rattle.rules.proofs.anchors.is_anchored.Goals as goal

pub returns : goal.returns
returns c =
    all_from_yields_List (λ v. some (anchors v) (map link_of c.args.links.now)) _ _ _ c.all.ensures.ran (YieldsList-from_range 0 c.args.variables c.args.variables (cc) (omega arith)) (λ x b q k. search (rules, tests))
    ∙ anchored_is c.args.variables (map link_of c.args.links.now)
