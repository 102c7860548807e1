use Rattle.std.proofs.Common.{ℕ, Bool, ◌&&◌, map, ap, ◌∙◌, rules, tests}
use Rattle.words.specs.Words.{link_of}
use Rattle.words.specs.declared.faults.RuleFault.TheVariants.{MadeAtStruck}
use Rattle.rules.specs.Anchors.{touches}
use Rattle.rules.specs.Runs.{within}
use Rattle.rules.specs.Marks.{first_mark, low_of, passed}
use Rattle.rules.proofs.Marking.{marks_alone}
use Rattle.rules.proofs.checking.check_made.Goals as goal

pub returns : goal.returns
returns c = λ l.
    let test : ℕ → Bool = λ w. within 2 3 w && touches (map low_of c.args.things.now) (link_of w) in
    c.check_words.ensures (λ _ w. test w) (λ at w b k. search (rules, tests)) l
    ∙ ap (λ z. passed (first_mark c.args.words.place z)) (marks_alone test MadeAtStruck 0 c.args.words.words.now)
