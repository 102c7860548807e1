-- runs of words by the numbers of their kinds
use Rattle.std.proofs.Common.{◌≡◌, ℕ, List, take, ap, ◌∙◌, subst}
use Rattle.std.specs.declared.ops.RangeInclusive.{RangeInclusive}
use Rattle.std.specs.Range.{range_inclusive_start, range_inclusive_end}
use Rattle.words.specs.declared.items.Kind.{Kind}
use Rattle.words.specs.Words.{kind_number}
use Rattle.rules.specs.declared.runs.Run.{Run}
use Rattle.rules.specs.Runs.{span, end_of}
use Rattle.rules.specs.Handed.{RunIs}

-- where a run of these kinds ends, from the range of kinds as it was made
pub end_by : (kinds : RangeInclusive Kind) {first last : Kind} {end : ℕ} (from : ℕ) (ws : List ℕ) → range_inclusive_start kinds ≡ first → range_inclusive_end kinds ≡ last → end ≡ end_of (kind_number (range_inclusive_start kinds)) (kind_number (range_inclusive_end kinds)) ws from → end ≡ end_of (kind_number first) (kind_number last) ws from
end_by kinds {first = first} from ws s e h = h ∙ ap (λ k. end_of (kind_number k) (kind_number (range_inclusive_end kinds)) ws from) s ∙ ap (λ k. end_of (kind_number first) (kind_number k) ws from) e

-- the words from the front on that have these kinds
pub run_by : (kinds : RangeInclusive Kind) {first last : Kind} (place : ℕ) (ws : List ℕ) (q : Run) → range_inclusive_start kinds ≡ first → range_inclusive_end kinds ≡ last → RunIs place (take (span (kind_number (range_inclusive_start kinds)) (kind_number (range_inclusive_end kinds)) ws) ws) q → RunIs place (take (span (kind_number first) (kind_number last) ws) ws) q
run_by kinds {first = first} place ws q s e h = subst (λ k. RunIs place (take (span (kind_number first) (kind_number k) ws) ws) q) e (subst (λ k. RunIs place (take (span (kind_number k) (kind_number (range_inclusive_end kinds)) ws) ws) q) s h)
