use Rattle.std.proofs.Common.{◌≡◌, ◌+◌, length}
use Rattle.rules.specs.Rules.{Rule}
use Rattle.rules.specs.Parts.{RuleAt}
use Rattle.rules.proofs.BanMarks.{BansFrom}
use Rattle.rules.proofs.checking.check_bans.Given as goal

abbrev pub invariant-loop-ban : goal.invariant-loop-ban
invariant-loop-ban l = (l.ban-iterator.iter.end ≡ 4) × (l.ban-iterator.f.0.now ≡ l.fn.rule) × ((r : Rule) → RuleAt l.fn.rule r → BansFrom (l.fn.rule.place + 1 + length r.needs) r.bans l.ban-iterator.iter.start)
