-- Rules, the words that say them, and a reading under way.
use Rattle.std.specs.Prelude.{ℕ, ◌+◌, cond, List, [], ◌∷◌, ◌++◌, map, length, Some, None, Ok, Err, Option, Result, ◌==◌}
use Rattle.words.specs.declared.items.PatternLink.{PatternLink}
use Rattle.words.specs.declared.items.Share.{Share}
use Rattle.words.specs.declared.items.Item.{Item}
use Rattle.words.specs.declared.items.Item.TheVariants.{Opens, Link, Bans, Shares, StrikesNeed, StrikesThing, Makes, Ends}
use Rattle.words.specs.declared.faults.RuleFault.TheVariants.{OutOfPlace}
use Rattle.words.specs.declared.faults.Cause.{Cause}
use Rattle.words.specs.declared.faults.Cause.TheVariants.{InRule}
use Rattle.rules.specs.declared.faults.SetFault.{SetFault}
use Rattle.words.specs.declared.stages.Stage.{Stage}
use Rattle.words.specs.declared.stages.Stage.TheVariants.{Outside, Opened, Needs, BanOpened, BanReady, BanLinks, StruckNeeds, StruckThings, MakesOpened, Made}
use Rattle.words.specs.declared.steps.State.{State}
use Rattle.words.specs.Words.{item_of, word_of}
use Rattle.words.specs.Steps.{has, judged, and_then, worded}

-- a ban: its variables, which of them are shared, and its links
pub record Ban : Type 0 where
  pub variables : ℕ
  pub shares : List Share
  pub links : List PatternLink

-- what a rule makes: new things and links
pub record Making : Type 0 where
  pub things : ℕ
  pub links : List PatternLink

-- a rule
pub record Rule : Type 0 where
  pub variables : ℕ
  pub needs : List PatternLink
  pub bans : List Ban
  pub struck_needs : List ℕ
  pub struck_things : List ℕ
  pub makes : Option Making

-- the words of links
abbrev pub link_words : List PatternLink → List ℕ
link_words ls = map (λ l. word_of (Link l)) ls

-- the words of ban variables
abbrev pub share_words : List Share → List ℕ
share_words ss = map (λ s. word_of (Shares s)) ss

-- the words of struck needs
abbrev pub need_words : List ℕ → List ℕ
need_words ks = map (λ k. word_of (StrikesNeed k)) ks

-- the words of struck things
abbrev pub thing_words : List ℕ → List ℕ
thing_words ks = map (λ k. word_of (StrikesThing k)) ks

-- the words of a ban
abbrev pub ban_words : Ban → List ℕ
ban_words b = word_of (Bans b.variables) ∷ (share_words b.shares ++ link_words b.links)

-- the words of bans, one after another
abbrev pub bans_words : List Ban → List ℕ
bans_words [] = []
bans_words (b ∷ bs) = ban_words b ++ bans_words bs

-- the words of the makes, if there are any
abbrev pub makes_words : Option Making → List ℕ
makes_words None = []
makes_words (Some m) = word_of (Makes m.things) ∷ link_words m.links

-- the words of a rule
abbrev pub rule_words : Rule → List ℕ
rule_words r =
    word_of (Opens r.variables) ∷
    (link_words r.needs ++ (bans_words r.bans ++ (need_words r.struck_needs ++ (thing_words r.struck_things ++ (makes_words r.makes ++ word_of Ends ∷ [])))))

-- the words of a rule set
abbrev pub encode : List Rule → List ℕ
encode [] = []
encode (r ∷ rs) = rule_words r ++ encode rs

-- a reading under way: the rules before, and what is known of the one that is open
pub record Head : Type 0 where
  pub rules : List Rule
  pub variables : ℕ
  pub needs : List PatternLink
  pub bans : List Ban

-- where a reading stands, with what it has read
pub data Partial : Type 0 where
  outside : List Rule → Partial
  in_needs : List Rule → ℕ → List PatternLink → Partial
  in_shares : Head → ℕ → List Share → Partial
  in_links : Head → ℕ → List Share → List PatternLink → Partial
  in_struck_needs : Head → List ℕ → Partial
  in_struck_things : Head → List ℕ → List ℕ → Partial
  in_makes : Head → List ℕ → List ℕ → ℕ → List PatternLink → Partial

-- the rules before, and the open rule without its strikes and makes
abbrev pub head_of : Partial → Head
head_of (outside rs) = record { rules = rs; variables = 0; needs = []; bans = [] }
head_of (in_needs rs n ls) = record { rules = rs; variables = n; needs = ls; bans = [] }
head_of (in_shares h m ss) = h
head_of (in_links h m ss ls) = record { rules = h.rules; variables = h.variables; needs = h.needs; bans = h.bans ++ record { variables = m; shares = ss; links = ls } ∷ [] }
head_of (in_struck_needs h sn) = h
head_of (in_struck_things h sn st) = h
head_of (in_makes h sn st k ls) = h

-- the needs struck so far
abbrev pub struck_needs_of : Partial → List ℕ
struck_needs_of (outside rs) = []
struck_needs_of (in_needs rs n ls) = []
struck_needs_of (in_shares h m ss) = []
struck_needs_of (in_links h m ss ls) = []
struck_needs_of (in_struck_needs h sn) = sn
struck_needs_of (in_struck_things h sn st) = sn
struck_needs_of (in_makes h sn st k ls) = sn

-- the things struck so far
abbrev pub struck_things_of : Partial → List ℕ
struck_things_of (outside rs) = []
struck_things_of (in_needs rs n ls) = []
struck_things_of (in_shares h m ss) = []
struck_things_of (in_links h m ss ls) = []
struck_things_of (in_struck_needs h sn) = []
struck_things_of (in_struck_things h sn st) = st
struck_things_of (in_makes h sn st k ls) = st

-- the makes so far
abbrev pub makes_of : Partial → Option Making
makes_of (outside rs) = None
makes_of (in_needs rs n ls) = None
makes_of (in_shares h m ss) = None
makes_of (in_links h m ss ls) = None
makes_of (in_struck_needs h sn) = None
makes_of (in_struck_things h sn st) = None
makes_of (in_makes h sn st k ls) = Some (record { things = k; links = ls })

-- the open rule, closed
abbrev pub made : Head → List ℕ → List ℕ → Option Making → Rule
made h sn st m = record { variables = h.variables; needs = h.needs; bans = h.bans; struck_needs = sn; struck_things = st; makes = m }

-- a link joins the open run
abbrev pub with_link : Partial → PatternLink → Partial
with_link (outside rs) l = outside rs
with_link (in_needs rs n ls) l = in_needs rs n (ls ++ l ∷ [])
with_link (in_shares h m ss) l = in_shares h m ss
with_link (in_links h m ss ls) l = in_links h m ss (ls ++ l ∷ [])
with_link (in_struck_needs h sn) l = in_struck_needs h sn
with_link (in_struck_things h sn st) l = in_struck_things h sn st
with_link (in_makes h sn st k ls) l = in_makes h sn st k (ls ++ l ∷ [])

-- a ban variable joins the open run; after the last one the links begin
abbrev pub with_share : Partial → Share → Partial
with_share (outside rs) s = outside rs
with_share (in_needs rs n ls) s = in_needs rs n ls
with_share (in_shares h m ss) s = cond (length ss + 1 == m) (in_links h m (ss ++ s ∷ []) []) (in_shares h m (ss ++ s ∷ []))
with_share (in_links h m ss ls) s = in_links h m ss ls
with_share (in_struck_needs h sn) s = in_struck_needs h sn
with_share (in_struck_things h sn st) s = in_struck_things h sn st
with_share (in_makes h sn st k ls) s = in_makes h sn st k ls

-- the reading after one more item
abbrev pub grown : Partial → Item → Partial
grown p (Opens n) = in_needs (head_of p).rules n []
grown p (Link l) = with_link p l
grown p (Bans m) = in_shares (head_of p) m []
grown p (Shares s) = with_share p s
grown p (StrikesNeed k) = in_struck_needs (head_of p) (struck_needs_of p ++ k ∷ [])
grown p (StrikesThing k) = in_struck_things (head_of p) (struck_needs_of p) (struck_things_of p ++ k ∷ [])
grown p (Makes k) = in_makes (head_of p) (struck_needs_of p) (struck_things_of p) k []
grown p Ends = outside ((head_of p).rules ++ made (head_of p) (struck_needs_of p) (struck_things_of p) (makes_of p) ∷ [])

-- the words read so far: those before the run in which a word may not stand twice, and that run
abbrev pub head_words : Head → List ℕ
head_words h = encode h.rules ++ word_of (Opens h.variables) ∷ (link_words h.needs ++ bans_words h.bans)

-- the words before the open run
abbrev pub front : Partial → List ℕ
front (outside rs) = encode rs
front (in_needs rs n ls) = encode rs ++ word_of (Opens n) ∷ []
front (in_shares h m ss) = head_words h ++ word_of (Bans m) ∷ []
front (in_links h m ss ls) = head_words h ++ word_of (Bans m) ∷ share_words ss
front (in_struck_needs h sn) = head_words h
front (in_struck_things h sn st) = head_words h ++ need_words sn
front (in_makes h sn st k ls) = head_words h ++ (need_words sn ++ (thing_words st ++ word_of (Makes k) ∷ []))

-- the words of the open run
abbrev pub tail : Partial → List ℕ
tail (outside rs) = []
tail (in_needs rs n ls) = link_words ls
tail (in_shares h m ss) = share_words ss
tail (in_links h m ss ls) = link_words ls
tail (in_struck_needs h sn) = need_words sn
tail (in_struck_things h sn st) = thing_words st
tail (in_makes h sn st k ls) = link_words ls

-- all words read so far
abbrev pub written : Partial → List ℕ
written p = front p ++ tail p

-- the numbers of a reading, all that a fault depends on besides the run
abbrev pub staged : {X : Type 0} → List X → Stage → Stage → Stage
staged [] a b = a
staged (x ∷ xs) a b = b

-- the numbers of a reading that has its needs
abbrev pub counts : Head → Stage → ℕ → ℕ → ℕ → ℕ → State
counts h s bans limit most seen = record { stage = s; rules = length h.rules; variables = h.variables; needs = length h.needs; bans = bans; limit = limit; most = most; seen = seen }

-- the numbers of a reading
abbrev pub numbers : Partial → State
numbers (outside rs) = record { stage = Outside; rules = length rs; variables = 0; needs = 0; bans = 0; limit = 0; most = 0; seen = 0 }
numbers (in_needs rs n ls) = record { stage = staged ls Opened Needs; rules = length rs; variables = n; needs = length ls; bans = 0; limit = n; most = 12; seen = length ls }
numbers (in_shares h m ss) = counts h BanOpened (length h.bans + 1) m 8 (length ss)
numbers (in_links h m ss ls) = counts h (staged ls BanReady BanLinks) (length h.bans + 1) m 8 (length ls)
numbers (in_struck_needs h sn) = counts h StruckNeeds (length h.bans) 0 0 (length sn)
numbers (in_struck_things h sn st) = counts h StruckThings (length h.bans) 0 0 (length st)
numbers (in_makes h sn st k ls) = counts h (staged ls MakesOpened Made) (length h.bans) (h.variables + k) 12 (length ls)

-- one word read, and all of them
abbrev pub read_of : Partial → ℕ → Result Partial Cause
read_of p w = and_then (worded (item_of w)) (λ i. judged (numbers p) i (has w (tail p)) (grown p i))

-- the fault at a place, in the rule that is open there
abbrev pub fault_at : ℕ → Partial → Cause → SetFault
fault_at at p c = record { place = at; rule = (numbers p).rules; cause = c }

-- the rules, if the words end outside a rule
abbrev pub ended : ℕ → Partial → Result (List Rule) SetFault
ended at (outside rs) = Ok rs
ended at (in_needs rs n ls) = Err (fault_at at (in_needs rs n ls) (InRule OutOfPlace))
ended at (in_shares h m ss) = Err (fault_at at (in_shares h m ss) (InRule OutOfPlace))
ended at (in_links h m ss ls) = Err (fault_at at (in_links h m ss ls) (InRule OutOfPlace))
ended at (in_struck_needs h sn) = Err (fault_at at (in_struck_needs h sn) (InRule OutOfPlace))
ended at (in_struck_things h sn st) = Err (fault_at at (in_struck_things h sn st) (InRule OutOfPlace))
ended at (in_makes h sn st k ls) = Err (fault_at at (in_makes h sn st k ls) (InRule OutOfPlace))

-- go on with what was read, or stop at the fault
abbrev pub go_on : {A B : Type 0} → ℕ → Partial → (A → Result B SetFault) → Result A Cause → Result B SetFault
go_on at p f (Ok q) = f q
go_on at p f (Err c) = Err (fault_at at p c)

-- the reading of the words from a place on
abbrev pub run : ℕ → Partial → List ℕ → Result (List Rule) SetFault
run at p [] = ended at p
run at p (w ∷ ws) = go_on at p (λ q. run (at + 1) q ws) (read_of p w)

-- the first pass over all words
abbrev pub scanned : List ℕ → Result (List Rule) SetFault
scanned ws = run 0 (outside []) ws
