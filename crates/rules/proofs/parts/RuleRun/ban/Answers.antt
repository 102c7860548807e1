use Rattle.std.proofs.Common.{◌+◌, length, take, drop, sym, subst}
use Rattle.rules.specs.Rules.{bans_words}
use Rattle.rules.specs.Handed.{BanIs}
use Rattle.rules.proofs.BanRuns.{ban_handed, no_ban_left}
use Rattle.rules.proofs.parts.RuleRun.ban.Goals as goal

pub returns-then-i-ge4 : goal.returns-then-i-ge4
returns-then-i-ge4 c = λ r h. no_ban_left r c.args.i (c.args.self.place + 1 + length r.needs + length (bans_words (take c.args.i r.bans))) h.formed c.if-i-ge4.true

pub returns : goal.returns
returns c =
    λ r h.
    subst (BanIs r.variables (c.args.self.place + 1 + length r.needs + length (bans_words (take c.args.i r.bans))) (drop c.args.i r.bans)) (sym c.as_ban.ensures)
    (ban_handed c.args.self.place c.args.self.words.now r c.args.i c.part.result h (c.part.ensures r h))
