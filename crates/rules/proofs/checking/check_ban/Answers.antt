use Rattle.std.proofs.Common.{Ok, Err, sym, refl, ap}
use Rattle.std.proofs.lemmas.Result.{err_from_is_err_and}
use Rattle.rules.specs.Marks.{passed}
use Rattle.rules.proofs.RuleMarks.{ban_unanchored, ban_unshared, ban_found, ban_links}
use Rattle.rules.proofs.checking.check_ban.Goals as goal

pub returns-then-not-is_anchored : goal.returns-then-not-is_anchored
returns-then-not-is_anchored c = λ n b h. ap passed (ban_unanchored c.args.ban.place c.args.ban.words.now n b h c.variables.result c.shares-shares.result.words.now c.links-links.result.words.now (c.variables.ensures n b h) (c.shares-shares.ensures n b h).0.1 (c.links-links.ensures n b h).0.1 (sym c.if-not-is_anchored.ensures))

pub returns-then-not-shares_any : goal.returns-then-not-shares_any
returns-then-not-shares_any c = λ n b h. ap passed (ban_unshared c.args.ban.place c.args.ban.words.now n b h c.variables.result c.shares-shares.result.words.now c.links-links.result.words.now (c.variables.ensures n b h) (c.shares-shares.ensures n b h).0.1 (c.links-links.ensures n b h).0.1 (sym c.if-not-is_anchored.ensures) (sym c.if-not-shares_any.ensures))

pub returns-in_err-check_shares : goal.returns-in_err-check_shares
returns-in_err-check_shares c = λ n b h.
    let p = err_from_is_err_and c.from_residual.result c.from_residual.ensures.1 in
    rw (p.1, p.2) (ban_found c.args.ban.place c.args.ban.words.now n b h c.variables.result c.shares-shares.result.words.now c.links-links.result.words.now (c.variables.ensures n b h) (c.shares-shares.ensures n b h).0.1 (c.links-links.ensures n b h).0.1 (sym c.if-not-is_anchored.ensures) (sym c.if-not-shares_any.ensures) c.shares-shares.result.place c.links-links.result.place (c.shares-shares.ensures n b h).0.0 (c.links-links.ensures n b h).0.0 (Err c.in_err-check_shares.field-0.0) c.in_err-check_shares.field-0.0 c.in_err-check_shares.ensures refl)

pub returns : goal.returns
returns c = λ n b h. ban_links c.args.ban.place c.args.ban.words.now n b h c.variables.result c.shares-shares.result.words.now c.links-links.result.words.now (c.variables.ensures n b h) (c.shares-shares.ensures n b h).0.1 (c.links-links.ensures n b h).0.1 (sym c.if-not-is_anchored.ensures) (sym c.if-not-shares_any.ensures) c.shares-shares.result.place c.links-links.result.place (c.shares-shares.ensures n b h).0.0 (c.links-links.ensures n b h).0.0 (Ok tt) c.check_links.result c.in_ok-check_shares.ensures refl c.check_links.ensures
