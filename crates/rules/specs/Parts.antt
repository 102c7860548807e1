-- The parts of a rule, in the order of its words.
use Rattle.std.specs.Prelude.{◌≡◌, ℕ, ◌+◌, ◌≤◌, List, [], ◌∷◌, ◌++◌, map, length, Some, None, Option}
use Rattle.words.specs.declared.items.PatternLink.{PatternLink}
use Rattle.rules.specs.declared.bans.BanRun.{BanRun}
use Rattle.rules.specs.declared.parts.RuleRun.{RuleRun}
use Rattle.rules.specs.Rules.{Ban, Making, Rule, rule_words, link_words, ban_words, need_words, thing_words, makes_words}
use Rattle.rules.specs.Formed.{FormedBan, FormedRule}

-- the needs, one ban, the strikes (needs, then things), the makes
pub data Piece : Type 0 where
  need_piece : List PatternLink → Piece
  ban_piece : Ban → Piece
  strike_piece : List ℕ → List ℕ → Piece
  make_piece : Making → Piece

-- the words of a part
abbrev pub piece_words : Piece → List ℕ
piece_words (need_piece ls) = link_words ls
piece_words (ban_piece b) = ban_words b
piece_words (strike_piece sn st) = need_words sn ++ thing_words st
piece_words (make_piece m) = makes_words (Some m)

-- the words of the parts, one after another
abbrev pub pieces_words : List Piece → List ℕ
pieces_words [] = []
pieces_words (p ∷ ps) = piece_words p ++ pieces_words ps

-- which part it is
abbrev pub piece_number : Piece → ℕ
piece_number (need_piece ls) = 0
piece_number (ban_piece b) = 1
piece_number (strike_piece sn st) = 2
piece_number (make_piece m) = 3

-- strikes are a part if there are any, makes if the rule has them
abbrev pub strike_pieces : List ℕ → List ℕ → List Piece
strike_pieces [] [] = []
strike_pieces [] (k ∷ ks) = strike_piece [] (k ∷ ks) ∷ []
strike_pieces (k ∷ ks) st = strike_piece (k ∷ ks) st ∷ []

-- makes are a part if the rule has them
abbrev pub make_pieces : Option Making → List Piece
make_pieces None = []
make_pieces (Some m) = make_piece m ∷ []

-- the parts of a rule
abbrev pub pieces : Rule → List Piece
pieces r = need_piece r.needs ∷ (map ban_piece r.bans ++ (strike_pieces r.struck_needs r.struck_things ++ make_pieces r.makes))

-- the words from a place on, within the 1,024 of a set, say the rule; they say the ban of a rule with n variables
pub record RuleHere (place : ℕ) (ws : List ℕ) (r : Rule) : Type 0 where
  pub formed : FormedRule r
  pub written : ws ≡ rule_words r
  pub inside : place + length ws ≤ 1024

-- the words from a place on, within the 1,024 of a set, say the ban of a rule with n variables
pub record BanHere (place : ℕ) (ws : List ℕ) (n : ℕ) (b : Ban) : Type 0 where
  pub formed : FormedBan n b
  pub few : n ≤ 6
  pub written : ws ≡ ban_words b
  pub inside : place + length ws ≤ 1024

-- the same of a run of words with its place
abbrev pub RuleAt : RuleRun → Rule → Type 0
RuleAt q r = RuleHere q.place q.words.now r

-- the same of a ban's words with their place
abbrev pub BanAt : BanRun → ℕ → Ban → Type 0
BanAt q n b = BanHere q.place q.words.now n b
