use Rattle.std.proofs.Common.{rules}
use Rattle.bit_store.specs.Places.{bit_on}
use Rattle.bit_store.proofs.store.BitStore.is_bit_on.Goals as goal

pub returns : goal.returns
unfolding bit_on
returns c = search rules
