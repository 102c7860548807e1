-- Equal links are those of one key, so a list contains exactly its members.
use Rattle.std.proofs.Common.{◌≡◌, true, false, ◌||◌, List, [], ◌∷◌, refl, ap, ◌∙◌, arith}
use Rattle.std.specs.List.{list_any}
use Rattle.std.proofs.lemmas.Bool.Decides.{nat_tests}
use Rattle.ordered.specs.Order.{same}
use Rattle.links.specs.declared.link.Link.{Link}
use Rattle.links.specs.contracts.link.LinkPartialEq.TheImpl.{ghosts as equality}
use Rattle.links.specs.Sets.{link_before, member}

pub eq_is_same : (x y : Link) → equality.eq y x ≡ same link_before x y
eq_is_same x y = grind (arith, nat_tests)

pub eq_same : (x y : Link) → equality.eq x y ≡ same link_before x y
eq_same x y = grind (arith, nat_tests)

pub contains_member : (x : Link) (ls : List Link) → list_any (λ y. equality.eq y x) ls ≡ member x ls
contains_member x [] = refl
contains_member x (y ∷ ys) =
    ap (λ v. v || list_any (λ y. equality.eq y x) ys) (eq_is_same x y) ∙ ap (λ v. same link_before x y || v) (contains_member x ys)
