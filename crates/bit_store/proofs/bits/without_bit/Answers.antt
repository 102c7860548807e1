use Rattle.std.proofs.lemmas.Nat.{one_shl}
use Rattle.bit_store.proofs.Digits.{xor_power_same, xor_power_other}
use Rattle.bit_store.proofs.bits.without_bit.Goals as goal

pub returns : goal.returns
returns c = rw (one_shl c.args.bit 32 c.requires.small) (record { here = xor_power_same c.args.word c.args.bit c.requires.set; others = xor_power_other c.args.word c.args.bit })
