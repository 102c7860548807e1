use Rattle.std.proofs.Common.{◌+◌, length, Some, Ok, Err, sym, refl, ◌∙◌, subst, rules}
use Rattle.std.proofs.lemmas.Result.{err_from_is_err_and}
use Rattle.rules.proofs.Counted.{some_turn}
use Rattle.rules.proofs.BanMarks.{BanHanded, BansFrom, bans_hit, bans_miss}
use Rattle.rules.proofs.checking.check_bans.Goals as goal

pub loop-ban-preserved : goal.loop-ban-preserved
loop-ban-preserved c =
    let k = some_turn _ _ _ _ _ c.in-Some.ban c.in-Some.ensures.steps in
    let i = c.loop-ban.ban-iterator.iter.start in
    let called = k.2 in
    let b : BanHanded c.args.rule i (Some c.in-Some.ban) = subst (λ q. BanHanded q i (Some c.in-Some.ban)) c.loop-ban.invariant.1 (λ r h. search rules) in (
      k.0 ∙ c.loop-ban.invariant.0,
      search rules,
      λ r h.
          let p = c.args.rule.place + 1 + length r.needs in
          subst (BansFrom p r.bans) (sym k.1) (bans_miss r.variables p r.bans i (c.loop-ban.invariant.2 r h) c.in-Some.ban (Ok tt) c.in_ok-check_ban.ensures (b r h) refl),
    )

pub returns-in_err-check_ban : goal.returns-in_err-check_ban
returns-in_err-check_ban c =
    let k = some_turn _ _ _ _ _ c.in-Some.ban c.in-Some.ensures.steps in
    let i = c.loop-ban.ban-iterator.iter.start in
    let called = k.2 in
    let b : BanHanded c.args.rule i (Some c.in-Some.ban) = subst (λ q. BanHanded q i (Some c.in-Some.ban)) c.loop-ban.invariant.1 (λ r h. search rules) in
    let e = err_from_is_err_and c.from_residual.result c.from_residual.ensures.1 in
    λ r h.
    rw (e.1, e.2) (bans_hit r.variables (c.args.rule.place + 1 + length r.needs) r.bans i (c.loop-ban.invariant.2 r h) c.in-Some.ban (Err c.in_err-check_ban.field-0.0) c.in_err-check_ban.ensures c.in_err-check_ban.field-0.0 (b r h) refl)
