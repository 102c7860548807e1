use Rattle.std.proofs.Common.{◌+◌, drop, ◌∙◌}
use Rattle.rules.proofs.BanRuns.{ban_some, shares_run, shares_read}
use Rattle.rules.proofs.KindNumbers.{run_by}
use Rattle.rules.proofs.bans.BanRun.shares.Goals as goal

pub returns : goal.returns
returns c =
    λ n b h.
    let place = c.args.self.place in
    let ws = c.args.self.words.now in
    let q = run_by c.new.result (place + 1) (drop 1 ws) c.after_first.result c.new.ensures.start c.new.ensures.end (c.after_first.ensures h.inside (ban_some place ws n b h)) in
    let w = q.1 ∙ shares_run place ws n b h in
    ((q.0, w), shares_read place ws n b h _ w)
