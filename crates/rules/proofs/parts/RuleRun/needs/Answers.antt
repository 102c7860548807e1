use Rattle.std.proofs.Common.{◌+◌, drop, ◌∙◌}
use Rattle.rules.proofs.BanRuns.{rule_some, needs_run, needs_read}
use Rattle.rules.proofs.KindNumbers.{run_by}
use Rattle.rules.proofs.parts.RuleRun.needs.Goals as goal

pub returns : goal.returns
returns c =
    λ r h.
    let place = c.args.self.place in
    let ws = c.args.self.words.now in
    let q = run_by c.new.result (place + 1) (drop 1 ws) c.after_first.result c.new.ensures.start c.new.ensures.end (c.after_first.ensures h.inside (rule_some place ws r h)) in
    let w = q.1 ∙ needs_run place ws r h in
    ((q.0, w), needs_read place ws r h _ w)
