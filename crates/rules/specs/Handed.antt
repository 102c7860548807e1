-- What is handed out of a rule: the right run of the words, with its place.
use Rattle.std.specs.Prelude.{◌≡◌, ℕ, ◌+◌, ◌-◌, ◌/◌, ◌^◌, ◌≤◌, min, List, [], ◌∷◌, ◌++◌, map, length, take, drop, Some, None, Option, slice_index, slice_range}
use Rattle.words.specs.declared.items.Item.TheVariants.{Ends}
use Rattle.words.specs.declared.items.PatternLink.{PatternLink}
use Rattle.words.specs.declared.items.Share.{Share}
use Rattle.words.specs.Words.{word_of, link_of, share_of}
use Rattle.rules.specs.declared.runs.Run.{Run}
use Rattle.rules.specs.declared.bans.BanRun.{BanRun}
use Rattle.rules.specs.declared.parts.RuleRun.{RuleRun}
use Rattle.rules.specs.declared.parts.Part.{Part}
use Rattle.rules.specs.declared.parts.Part.TheVariants.{Need as NeedRun, Ban as BanPart, Strike as StrikeRun, Makes as MakesRun}
use Rattle.rules.specs.Rules.{Ban, Rule, link_words, share_words}
use Rattle.rules.specs.Runs.{part_of}
use Rattle.rules.specs.Parts.{Piece, piece_words, pieces_words, piece_number, pieces, RuleAt, BanAt}

-- which part it is, its place, and its words
abbrev pub part_number : Part → ℕ
part_number (NeedRun q) = 0
part_number (BanPart q) = 1
part_number (StrikeRun q) = 2
part_number (MakesRun q) = 3

-- the place of a part
abbrev pub part_place : Part → ℕ
part_place (NeedRun q) = q.place
part_place (BanPart q) = q.place
part_place (StrikeRun q) = q.place
part_place (MakesRun q) = q.place

-- the words of a part
abbrev pub part_words : Part → List ℕ
part_words (NeedRun q) = q.words.now
part_words (BanPart q) = q.words.now
part_words (StrikeRun q) = q.words.now
part_words (MakesRun q) = q.words.now

-- `at` is where part i of the rule begins in its words
abbrev pub PartAt : List ℕ → Rule → ℕ → ℕ → Type 0
PartAt ws r i at = (at ≡ 1 + length (pieces_words (take i (pieces r)))) × (drop at ws ≡ pieces_words (drop i (pieces r)) ++ word_of Ends ∷ [])

-- the words from `at` to `end`, as the part that their first word begins
abbrev pub Cut : ℕ → List ℕ → ℕ → ℕ → Option Part → Type 0
Cut place ws at end None = part_of (slice_index ws at / 2 ^ 28) ≡ None
Cut place ws at end (Some q) = (part_of (slice_index ws at / 2 ^ 28) ≡ Some (part_number q)) × (part_place q ≡ min (place + at) (2 ^ 64 - 1)) × (part_words q ≡ slice_range ws at end)

-- the part at the place is that of the rule, and lies inside a set's 1,024 words
pub record IsPart (place : ℕ) (p : Piece) (q : Part) : Type 0 where
  pub which : part_number q ≡ piece_number p
  pub stands : part_place q ≡ place
  pub words : part_words q ≡ piece_words p
  pub inside : part_place q + length (part_words q) ≤ 1024

-- the first of the parts that are left, none exactly when none is
abbrev pub PartIs : ℕ → List Piece → Option Part → Type 0
PartIs place [] None = Unit {0}
PartIs place [] (Some q) = ⊥
PartIs place (p ∷ ps) None = ⊥
PartIs place (p ∷ ps) (Some q) = IsPart place p q

-- a run of words with its place
abbrev pub RunIs : ℕ → List ℕ → Run → Type 0
RunIs place ws q = (q.place ≡ place) × (q.words.now ≡ ws)

-- a run of words that say these links, one word each
abbrev pub LinksAre : ℕ → List PatternLink → Run → Type 0
LinksAre place ls q = RunIs place (link_words ls) q × (map link_of q.words.now ≡ ls)

-- a run of words that say these ban variables, one word each
abbrev pub SharesAre : ℕ → List Share → Run → Type 0
SharesAre place ss q = RunIs place (share_words ss) q × (map share_of q.words.now ≡ ss)

-- the part, if it is a ban
abbrev pub ban_of : Option Part → Option BanRun
ban_of None = None
ban_of (Some (NeedRun q)) = None
ban_of (Some (BanPart q)) = Some q
ban_of (Some (StrikeRun q)) = None
ban_of (Some (MakesRun q)) = None

-- the first of the bans that are left of a rule with n variables, none exactly when none is
abbrev pub BanIs : ℕ → ℕ → List Ban → Option BanRun → Type 0
BanIs n place [] None = Unit {0}
BanIs n place [] (Some q) = ⊥
BanIs n place (b ∷ bs) None = ⊥
BanIs n place (b ∷ bs) (Some q) = (q.place ≡ place) × BanAt q n b

-- the first of the rules that are left, none exactly when none is
abbrev pub RuleIs : ℕ → List Rule → Option RuleRun → Type 0
RuleIs place [] None = Unit {0}
RuleIs place [] (Some q) = ⊥
RuleIs place (r ∷ rs) None = ⊥
RuleIs place (r ∷ rs) (Some q) = (q.place ≡ place) × RuleAt q r
