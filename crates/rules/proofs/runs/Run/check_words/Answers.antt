use Rattle.std.proofs.Common.{ℕ, rules, tests}
use Rattle.std.proofs.lemmas.Iterator.{YieldsList-from_slice}
use Rattle.std.proofs.lemmas.Iterator.Consumers.{YieldsList-from_enumerate}
use Rattle.std.proofs.lemmas.Iterator.Search.{position_from_yields_List}
use Rattle.rules.proofs.Marking.{refused, accepted}
use Rattle.rules.proofs.runs.Run.check_words.Goals as goal

pub returns-in-Some : goal.returns-in-Some
returns-in-Some g c = λ t h l.
    let e = position_from_yields_List (λ (p : ℕ × ℕ). t p.0 p.1) _ _ _ c.position-found.ensures.ran (YieldsList-from_enumerate (YieldsList-from_slice c.args.self.words.now (cc)) (cc)) (λ x b q k. (search (rules, tests), h x.0 x.1.now b (search (rules, tests)))) in
    refused t c.args.fault c.args.self.place c.args.self.words.now c.position-found.result e c.in-Some.at c.saturating_add.result c.in-Some.is c.saturating_add.ensures l

pub returns : goal.returns
returns g c = λ t h l.
    let e = position_from_yields_List (λ (p : ℕ × ℕ). t p.0 p.1) _ _ _ c.position-found.ensures.ran (YieldsList-from_enumerate (YieldsList-from_slice c.args.self.words.now (cc)) (cc)) (λ x b q k. (search (rules, tests), h x.0 x.1.now b (search (rules, tests)))) in
    accepted t c.args.fault c.args.self.place c.args.self.words.now c.position-found.result e c.in-None.is
