use Rattle.std.proofs.lemmas.Nat.{one_shl}
use Rattle.bit_store.proofs.Digits.{or_power_same, or_power_other}
use Rattle.bit_store.proofs.bits.with_bit.Goals as goal

pub returns : goal.returns
returns c = rw (one_shl c.args.bit 32 c.requires) (record { here = or_power_same c.args.word c.args.bit; others = or_power_other c.args.word c.args.bit })
