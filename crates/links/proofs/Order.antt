-- A link's key is the whole link: links of one key are one link, and so a set of links has one form.
use Rattle.std.specs.Prelude.{◌≡◌, ℕ, true, false, List}
use Rattle.std.proofs.Common.{ap, ◌∙◌, arith}
use Rattle.std.proofs.lemmas.Bool.Decides.{nat_tests}
use Rattle.ordered.specs.Order.{Exact, same}
use Rattle.ordered.proofs.Laws as laws
use Rattle.links.specs.declared.link.Link.{Link}
use Rattle.links.specs.Sets.{link_of, link_before, rising, member}
use Rattle.links.specs.Order.{link_order}

source_same : (x y : Link) → link_before x y ≡ false → link_before y x ≡ false → x.source ≡ y.source
source_same x y h k = grind (arith, nat_tests)

label_same : (x y : Link) → link_before x y ≡ false → link_before y x ≡ false → x.label ≡ y.label
label_same x y h k = grind (arith, nat_tests)

target_same : (x y : Link) → link_before x y ≡ false → link_before y x ≡ false → x.target ≡ y.target
target_same x y h k = grind (arith, nat_tests)

pub link_exact : Exact link_before
link_exact x y h k =
    ap (λ (v : ℕ). link_of v x.label x.target) (source_same x y h k)
    ∙ ap (λ (v : ℕ). link_of y.source v x.target) (label_same x y h k)
    ∙ ap (λ (v : ℕ). link_of y.source y.label v) (target_same x y h k)

-- links of one key are one link
pub same_is : (x y : Link) → same link_before x y ≡ true → x ≡ y
same_is = laws.same_is link_before link_order link_exact

pub same_members : (xs ys : List Link) → rising xs ≡ true → rising ys ≡ true → ((l : Link) → member l xs ≡ member l ys) → xs ≡ ys
same_members = laws.same_members link_before link_order link_exact
