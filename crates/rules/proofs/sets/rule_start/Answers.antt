use Rattle.std.proofs.Common.{◌≡◌, ◌≤◌, List, length, rules, arith}
use Rattle.std.specs.List.{AllByRecursion}
use Rattle.rules.specs.Rules.{Rule, encode}
use Rattle.rules.specs.Formed.{FormedRule}
use Rattle.rules.specs.Runs.{rule_end}
use Rattle.rules.specs.Sets.{RuleStart}
use Rattle.rules.proofs.Counted.{after_steps}
use Rattle.rules.proofs.SetRuns.{rule_first, rule_more}
use Rattle.rules.proofs.sets.rule_start.Goals as goal

pub returns : goal.returns
returns c =
    let ws = c.args.words.now in
    let k = after_steps _ (λ n at. (at ≤ length ws) × ((rs : List Rule) → AllByRecursion FormedRule rs → ws ≡ encode rs → RuleStart ws rs n at)) _
    (λ n at x b f' j k.
    let e : at ≤ length ws → b ≡ rule_end ws at = search rules in
    let w : at ≤ length ws → (at ≤ b) × (b ≤ length ws) = search rules in
    (((w j.0).1, λ rs f q. rule_more ws rs f n at (j.1 rs f q) j.0 b (e j.0)), search rules))
    _ c.args.i 0 c.fold.result (cc) (omega arith, λ rs f q. rule_first ws rs q) c.fold.ensures.ran in
    record { within = k.0; start = k.1 }
