-- Whatever an insertion answers, the links stay inside the sizes.
use Rattle.std.proofs.Common.{◌≡◌, ℕ, true, List, Ok, Err, Result, sym, subst}
use Rattle.ordered.specs.Answers.{Inserted}
use Rattle.ordered.specs.declared.refusal.InsertRefusal.{InsertRefusal}
use Rattle.ordered.specs.declared.refusal.InsertRefusal.TheVariants.{AlreadyThere, Full}
use Rattle.links.specs.declared.link.Link.{Link}
use Rattle.links.specs.Sets.{all_inside, inside, link_before}
use Rattle.links.proofs.Inside.{all_inserted}

pub still_within : (t n : ℕ) (l : Link) (ls ms : List Link) (r : Result (Unit {0}) InsertRefusal) → inside t l ≡ true → all_inside t ls ≡ true → Inserted link_before n l ls r ms → all_inside t ms ≡ true
still_within t n l ls ms (Ok u) h k i = subst (λ v. all_inside t v ≡ true) (sym i.2) (all_inserted t l ls h k)
still_within t n l ls ms (Err AlreadyThere) h k i = subst (λ v. all_inside t v ≡ true) (sym i.1) k
still_within t n l ls ms (Err Full) h k i = subst (λ v. all_inside t v ≡ true) (sym i.2) k
