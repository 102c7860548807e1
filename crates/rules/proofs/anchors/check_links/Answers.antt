use Rattle.std.proofs.Common.{map, ap, sym, ◌∙◌, rules, tests}
use mathlib.Core.List.{map-map}
use Rattle.words.specs.Words.{link_of, share_of}
use Rattle.words.specs.declared.faults.RuleFault.TheVariants.{LinksShared}
use Rattle.rules.specs.Anchors.{joins_shared}
use Rattle.rules.specs.Marks.{fault_if, first_mark, passed}
use Rattle.rules.proofs.Marking.{marks_alone}
use Rattle.rules.proofs.anchors.check_links.Goals as goal

pub returns : goal.returns
returns c = λ l.
    let ss = map share_of c.args.shares.now in
    c.check_words.ensures (λ _ w. joins_shared ss (link_of w)) (λ at w b k. search (rules, tests)) l
    ∙ ap (λ z. passed (first_mark c.args.links.place z)) (marks_alone (λ w. joins_shared ss (link_of w)) LinksShared 0 c.args.links.words.now ∙ sym (map-map (λ l. fault_if (joins_shared ss l) LinksShared) link_of c.args.links.words.now))
