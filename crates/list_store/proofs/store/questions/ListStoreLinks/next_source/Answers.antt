use Rattle.std.proofs.Common.{◌≡◌, true, false, rules, tests}
use Rattle.std.proofs.lemmas.Iterator.{first_from_Range}
use Rattle.ordered.specs.Items.{items}
use Rattle.links.specs.Sets.{link_of, member}
use Rattle.list_store.proofs.Sources.{least_source}
use Rattle.list_store.proofs.store.questions.ListStoreLinks.next_source.Goals as goal

pub returns : goal.returns
returns c =
    let s = c.args.self.now in
    let b = c.args.label in
    let x = c.args.target in
    let ls = items s.list in
    let first = first_from_Range _ _ _ c.find.result (λ n. member (link_of n b x) ls ≡ true) (λ n. member (link_of n b x) ls ≡ false) c.find.ensures.ran (λ n q k. search (rules, tests)) (λ n q k. search (rules, tests)) in
    least_source ls s.sizes.things c.things.result b x c.args.from c.max.result c.things.ensures.is c.max.ensures s.within c.find.result first
