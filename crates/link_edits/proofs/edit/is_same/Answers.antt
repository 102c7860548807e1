use Rattle.std.proofs.Common.{arith}
use Rattle.std.proofs.lemmas.Bool.Decides.{nat_tests}
use Rattle.link_edits.proofs.edit.is_same.Goals as goal

pub returns : goal.returns
returns c = let told = c.eq.ensures in grind (arith, nat_tests)
