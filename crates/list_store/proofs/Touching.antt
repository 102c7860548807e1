-- Whether a link touches a thing, as a search through the links asks it.
use Rattle.std.proofs.Common.{◌≡◌, ℕ, ◌||◌, List, refl}
use Rattle.std.specs.List.{list_any}
use Rattle.std.proofs.lemmas.List.Recursion.{same_from_clauses}
use Rattle.links.specs.declared.link.Link.{Link}
use Rattle.links.specs.Sets.{touched, touches}

pub touched_is : (t : ℕ) (ls : List Link) → list_any (touches t) ls ≡ touched t ls
touched_is t = same_from_clauses (list_any (touches t)) (touched t) (λ l r. touches t l || r) refl (λ _ _. refl) (λ _ _. refl)
