use Rattle.std.proofs.Common.{◌≡◌, ◌≤◌, length, rules, arith}
use Rattle.rules.specs.Rules.{Rule, rule_words}
use Rattle.rules.specs.Formed.{FormedRule}
use Rattle.rules.specs.Runs.{part_end}
use Rattle.rules.specs.Handed.{PartAt}
use Rattle.rules.proofs.Counted.{after_steps}
use Rattle.rules.proofs.PartRuns.{part_first, part_more}
use Rattle.rules.proofs.parts.part_start.Goals as goal

pub returns : goal.returns
returns c =
    let ws = c.args.words.now in
    let k = after_steps _ (λ n at. (at ≤ length ws) × ((r : Rule) → FormedRule r → ws ≡ rule_words r → PartAt ws r n at)) _
    (λ n at x b f' j k.
    let e : at ≤ length ws → b ≡ part_end ws at = search rules in
    let w : at ≤ length ws → (at ≤ b) × (b ≤ length ws) = search rules in
    (((w j.0).1, λ r f q. part_more ws r f n at (j.1 r f q) b (e j.0)), search rules))
    _ c.args.i c.min.result c.fold.result (cc) (let z = c.min.ensures in omega arith, λ r f q. part_first ws r c.min.result q c.min.ensures) c.fold.ensures.ran in
    record { within = k.0; start = k.1 }
