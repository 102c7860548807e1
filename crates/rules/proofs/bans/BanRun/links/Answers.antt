use Rattle.std.proofs.Common.{arith}
use Rattle.rules.proofs.KindNumbers.{end_by}
use Rattle.rules.proofs.BanRuns.{links_found, links_place, links_read}
use Rattle.rules.proofs.bans.BanRun.links.Goals as goal

pub returns : goal.returns
returns c =
    λ n b h.
    let w = links_found c.args.self.place c.args.self.words.now n b h c.min-from.result c.run_end-end.result c.min-from.ensures (end_by c.new.result c.min-from.result c.args.self.words.now c.new.ensures.start c.new.ensures.end (c.run_end-end.ensures.end (let z = c.min-from.ensures in omega arith))) in
    ((links_place c.args.self.place c.args.self.words.now n b h c.min-from.result c.run_end-end.result c.min-from.ensures (end_by c.new.result c.min-from.result c.args.self.words.now c.new.ensures.start c.new.ensures.end (c.run_end-end.ensures.end (let z = c.min-from.ensures in omega arith))) c.saturating_add.result c.saturating_add.ensures, w), links_read c.args.self.place c.args.self.words.now n b h _ w)
