use Rattle.std.proofs.Common.{◌≡◌, ℕ, ◌<◌, ◌≤◌, true, false, Some, None, Option, MatchOption, ◌+◌, ◌∙◌, rules, tests, arith}
use Rattle.std.proofs.lemmas.Iterator.{first_from_Range}
use Rattle.links.specs.Answers.{Spare}
use Rattle.links.specs.Sets.{LinkSet, touched}
use Rattle.links.proofs.traits.Links.spare_thing.Goals as goal

spare : (g : LinkSet) (n : ℕ) (r : Option ℕ) → n ≡ g.things → MatchOption r ((k : ℕ) → 64 ≤ k → k < 64 + n → touched k g.links ≡ true) (λ i. (64 ≤ i) × (i < 64 + n) × (touched i g.links ≡ false) × ((k : ℕ) → 64 ≤ k → k < i → touched k g.links ≡ true)) → Spare g r
spare g n None e h = λ k from below. h k from (omega (arith, e))
spare g n (Some i) e h = (h.0, omega (arith, e, h.1), h.2)

pub returns : goal.returns
returns g c =
    let ls = (g.Self.Links.set c.args.self.now).links in
    let h = first_from_Range _ _ _ c.find.result (λ n. touched n ls ≡ false) (λ n. touched n ls ≡ true) c.find.ensures.ran (λ x q k. search (rules, tests)) (λ x q k. search (rules, tests)) in
    spare (g.Self.Links.set c.args.self.now) c.things.result c.find.result (c.things.ensures.is ∙ c.sizes.ensures.things) h
