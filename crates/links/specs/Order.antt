-- The order of links is a total one.
use Rattle.std.proofs.Common.{arith}
use Rattle.std.proofs.lemmas.Bool.Decides.{nat_tests}
use Rattle.ordered.specs.Order.{KeyOrder}
use Rattle.links.specs.Sets.{link_before}

pub link_order : KeyOrder link_before
link_order = record {
  irreflexive = λ x. grind (arith, nat_tests);
  transitive = λ x y z h k. grind (arith, nat_tests);
  alike = λ x y z h k. (grind (arith, nat_tests), grind (arith, nat_tests));
}
