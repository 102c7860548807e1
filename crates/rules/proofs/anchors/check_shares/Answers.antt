use Rattle.std.proofs.Common.{map, take, ap, ◌∙◌, rules, tests}
use Rattle.words.specs.Words.{share_of}
use Rattle.rules.specs.Anchors.{shares_again}
use Rattle.rules.specs.Marks.{first_mark, passed}
use Rattle.rules.proofs.Marking.{marks_after}
use Rattle.rules.proofs.anchors.check_shares.Goals as goal

pub returns : goal.returns
returns c = λ l.
    let ws = c.args.shares.words.now in
    c.check_words.ensures (λ i w. shares_again (map share_of (take i ws)) (share_of w)) (λ at w b k. search (rules, tests)) l
    ∙ ap (λ z. passed (first_mark c.args.shares.place z)) (marks_after ws)
