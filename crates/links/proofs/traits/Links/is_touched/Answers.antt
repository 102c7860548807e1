use Rattle.std.proofs.Common.{◌≡◌, ℕ, ◌<◌, ◌≤◌, Bool, true, false, List, MatchBool, rules, tests, sym, refl, arith}
use Rattle.links.specs.declared.link.Link.{Link}
use Rattle.links.specs.Sets.{all_inside, link_of, member, touched}
use Rattle.links.proofs.Ranges.{any_in_range}
use Rattle.links.proofs.Touching.{touched_source, touched_target, untouched}
use Rattle.links.proofs.traits.Links.is_touched.Goals as goal

decided : (set : List Link) (n t : ℕ) (r : Bool) → all_inside n set ≡ true → MatchBool r ((b : ℕ) × (0 ≤ b) × (b < 16) × (touched t set ≡ true)) ((b : ℕ) → 0 ≤ b → b < 16 → (x : ℕ) → (member (link_of t b x) set ≡ false) × (member (link_of x b t) set ≡ false)) → r ≡ touched t set
decided set n t true h k = sym k.3
decided set n t false h k = sym (untouched n t set h (λ b x l. k b (omega arith) l x))

pub returns : goal.returns
returns g c =
    let ls = (g.Self.Links.set c.args.self.now).links in
    let t = c.args.thing in
    let h = any_in_range 0 16 _ _ c.any.result (λ b. touched t ls ≡ true) (λ b. (x : ℕ) → (member (link_of t b x) ls ≡ false) × (member (link_of x b t) ls ≡ false)) c.any.ensures.ran refl (λ b q k. search (rules, tests, touched_source, touched_target)) (λ b q k. (search (rules, tests), search (rules, tests))) in
    decided ls (g.Self.Links.set c.args.self.now).things t c.any.result (g.Self.Links.lawful.all_in c.args.self.now) h
