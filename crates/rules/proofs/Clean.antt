-- rules are valid exactly when no word has a fault of the second pass
use Rattle.std.proofs.Common.{◌≡◌, ℕ, ◌+◌, Bool, true, false, cond, List, [], ◌∷◌, ◌++◌, map, length, Some, None, Option, refl, ap, ◌∙◌, arith}
use Rattle.std.specs.List.{AllByRecursion}
use Rattle.std.proofs.ByRecursion.{All-append}
use Rattle.words.specs.declared.items.PatternLink.{PatternLink}
use Rattle.words.specs.declared.items.Share.{Share}
use Rattle.words.specs.declared.faults.RuleFault.{RuleFault}
use Rattle.words.specs.declared.faults.RuleFault.TheVariants.{Unanchored, SharesNothing, SharesTwice, LinksShared, MadeAtStruck}
use Rattle.rules.specs.declared.faults.PlacedFault.{PlacedFault}
use Rattle.rules.specs.Rules.{Ban, Making, Rule, rule_words}
use Rattle.rules.specs.Formed.{FormedRule}
use Rattle.rules.specs.Anchors.{some, anchored, is_shared, joins_shared, shares_again, touches}
use Rattle.rules.specs.Marks.{fault_if, or_else, placed, first_mark, share_marks, ban_marks, bans_marks, makes_marks, unmarked, rule_marks, in_rule, second_fault}
use Rattle.rules.specs.Valid.{SharedOnce, ValidBan, ValidMaking, ValidRule}

abbrev Clean : List (Option RuleFault) → Type 0
Clean ms = AllByRecursion (λ m. m ≡ None) ms

clean_first : (place : ℕ) (ms : List (Option RuleFault)) → Clean ms → first_mark place ms ≡ None
clean_first place [] h = refl
clean_first place (m ∷ ms) h = ap (λ z. or_else (placed place z) (first_mark (place + 1) ms)) h.0 ∙ clean_first (place + 1) ms h.1

first_clean : (place : ℕ) (ms : List (Option RuleFault)) → first_mark place ms ≡ None → Clean ms
first_clean place [] h = tt
first_clean place (None ∷ ms) h = (refl, first_clean (place + 1) ms h)
first_clean place (Some f ∷ ms) h = let z : ◌≡◌ {A = ℕ} 0 1 = cc in absurd (omega arith)

clean_parts : (xs ys : List (Option RuleFault)) → Clean (xs ++ ys) → Clean xs × Clean ys
clean_parts [] ys h = (tt, h)
clean_parts (x ∷ xs) ys h = let k = clean_parts xs ys h.1 in ((h.0, k.0), k.1)

clean_join : (xs ys : List (Option RuleFault)) → Clean xs → Clean ys → Clean (xs ++ ys)
clean_join xs ys a b = All-append (λ m. m ≡ None) xs ys a b

-- one test
no_fault : (b : Bool) (f : RuleFault) → b ≡ false → fault_if b f ≡ None
no_fault b f e = ap (λ z. fault_if z f) e

fault_no : (b : Bool) (f : RuleFault) → fault_if b f ≡ None → b ≡ false
fault_no false f h = refl
fault_no true f h = let z : ◌≡◌ {A = ℕ} 0 1 = cc in absurd (omega arith)

module _ (t : PatternLink → Bool) (f : RuleFault) where
  links_clean : (ls : List PatternLink) → AllByRecursion (λ l. t l ≡ false) ls → Clean (map (λ l. fault_if (t l) f) ls)
  links_clean [] h = tt
  links_clean (l ∷ ls) h = (no_fault (t l) f h.0, links_clean ls h.1)

  clean_links : (ls : List PatternLink) → Clean (map (λ l. fault_if (t l) f) ls) → AllByRecursion (λ l. t l ≡ false) ls
  clean_links [] h = tt
  clean_links (l ∷ ls) h = (fault_no (t l) f h.0, clean_links ls h.1)

shares_clean : (before ss : List Share) → SharedOnce before ss → Clean (share_marks before ss)
shares_clean before [] h = tt
shares_clean before (s ∷ ss) h = (no_fault (shares_again before s) SharesTwice h.0, shares_clean (before ++ s ∷ []) ss h.1)

clean_shares : (before ss : List Share) → Clean (share_marks before ss) → SharedOnce before ss
clean_shares before [] h = tt
clean_shares before (s ∷ ss) h = (fault_no (shares_again before s) SharesTwice h.0, clean_shares (before ++ s ∷ []) ss h.1)

open_clean : (a : Bool) (f : RuleFault) (m : Option RuleFault) → cond a m (Some f) ≡ None → (a ≡ true) × (m ≡ None)
open_clean true f m h = (refl, h)
open_clean false f m h = let z : ◌≡◌ {A = ℕ} 0 1 = cc in absurd (omega arith)

ban_clean : (b : Ban) → ValidBan b → Clean (ban_marks b)
ban_clean b v = (
  ap (λ z. cond z (cond (some is_shared b.shares) None (Some SharesNothing)) (Some Unanchored)) v.anchored ∙ ap (λ z. cond z None (Some SharesNothing)) v.shares,
  clean_join (share_marks [] b.shares) (map (λ l. fault_if (joins_shared b.shares l) LinksShared) b.links) (shares_clean [] b.shares v.once) (links_clean (joins_shared b.shares) LinksShared b.links v.links),
)

clean_ban : (b : Ban) → Clean (ban_marks b) → ValidBan b
clean_ban b h =
    let o = open_clean (anchored b.variables b.links) Unanchored (cond (some is_shared b.shares) None (Some SharesNothing)) h.0 in
    let s = open_clean (some is_shared b.shares) SharesNothing None o.1 in
    let k = clean_parts (share_marks [] b.shares) (map (λ l. fault_if (joins_shared b.shares l) LinksShared) b.links) h.1 in
    record { anchored = o.0; shares = s.0; once = clean_shares [] b.shares k.0; links = clean_links (joins_shared b.shares) LinksShared b.links k.1 }

bans_clean : (bs : List Ban) → AllByRecursion ValidBan bs → Clean (bans_marks bs)
bans_clean [] v = tt
bans_clean (b ∷ bs) v = clean_join (ban_marks b) (bans_marks bs) (ban_clean b v.0) (bans_clean bs v.1)

clean_bans : (bs : List Ban) → Clean (bans_marks bs) → AllByRecursion ValidBan bs
clean_bans [] h = tt
clean_bans (b ∷ bs) h = let k = clean_parts (ban_marks b) (bans_marks bs) h in (clean_ban b k.0, clean_bans bs k.1)

makes_clean : (st : List ℕ) (m : Option Making) → ValidMaking st m → Clean (makes_marks st m)
makes_clean st None v = tt
makes_clean st (Some m) v = (refl, links_clean (touches st) MadeAtStruck m.links v)

clean_makes : (st : List ℕ) (m : Option Making) → Clean (makes_marks st m) → ValidMaking st m
clean_makes st None h = tt
clean_makes st (Some m) h = clean_links (touches st) MadeAtStruck m.links h.1

unmarked_clean : {X : Type 0} (xs : List X) → Clean (unmarked xs)
unmarked_clean [] = tt
unmarked_clean (x ∷ xs) = (refl, unmarked_clean xs)

module _ (r : Rule) where
  abbrev marks3 : List (Option RuleFault)
  marks3 = makes_marks r.struck_things r.makes ++ None ∷ []

  abbrev marks2 : List (Option RuleFault)
  marks2 = unmarked r.struck_needs ++ (unmarked r.struck_things ++ marks3)

  rule_clean : ValidRule r → Clean (rule_marks r)
  rule_clean v = (
    ap (λ z. cond z None (Some Unanchored)) v.anchored,
    clean_join (unmarked r.needs) (bans_marks r.bans ++ marks2) (unmarked_clean r.needs)
        (clean_join (bans_marks r.bans) marks2 (bans_clean r.bans v.bans)
        (clean_join (unmarked r.struck_needs) (unmarked r.struck_things ++ marks3) (unmarked_clean r.struck_needs)
        (clean_join (unmarked r.struck_things) marks3 (unmarked_clean r.struck_things)
        (clean_join (makes_marks r.struck_things r.makes) (None ∷ []) (makes_clean r.struck_things r.makes v.makes) (refl, tt))))),
  )

  clean_rule : FormedRule r → Clean (rule_marks r) → ValidRule r
  clean_rule f h =
      let o = open_clean (anchored r.variables r.needs) Unanchored None h.0 in
      let a = clean_parts (unmarked r.needs) (bans_marks r.bans ++ marks2) h.1 in
      let b = clean_parts (bans_marks r.bans) marks2 a.1 in
      let c = clean_parts (unmarked r.struck_needs) (unmarked r.struck_things ++ marks3) b.1 in
      let d = clean_parts (unmarked r.struck_things) marks3 c.1 in
      let e = clean_parts (makes_marks r.struck_things r.makes) (None ∷ []) d.1 in
      record { formed = f; anchored = o.0; bans = clean_bans r.bans b.0; makes = clean_makes r.struck_things r.makes e.0 }

-- a set
none_else : {A : Type 0} (x y : Option A) → or_else x y ≡ None → (x ≡ None) × (y ≡ None)
none_else None y h = (refl, h)
none_else (Some x) y h = let z : ◌≡◌ {A = ℕ} 0 1 = cc in absurd (omega arith)

none_in : (n : ℕ) (m : Option PlacedFault) → in_rule n m ≡ None → m ≡ None
none_in n None h = refl
none_in n (Some m) h = let z : ◌≡◌ {A = ℕ} 0 1 = cc in absurd (omega arith)

pub rules_clean : (n place : ℕ) (rs : List Rule) → AllByRecursion ValidRule rs → second_fault n place rs ≡ None
rules_clean n place [] v = refl
rules_clean n place (r ∷ rs) v =
    ap (λ z. or_else (in_rule n z) (second_fault (n + 1) (place + length (rule_words r)) rs)) (clean_first place (rule_marks r) (rule_clean r v.0))
    ∙ rules_clean (n + 1) (place + length (rule_words r)) rs v.1

pub clean_rules : (n place : ℕ) (rs : List Rule) → AllByRecursion FormedRule rs → second_fault n place rs ≡ None → AllByRecursion ValidRule rs
clean_rules n place [] f h = tt
clean_rules n place (r ∷ rs) f h =
    let k = none_else (in_rule n (first_mark place (rule_marks r))) (second_fault (n + 1) (place + length (rule_words r)) rs) h in (
      clean_rule r f.0 (first_clean place (rule_marks r) (none_in n (first_mark place (rule_marks r)) k.0)),
      clean_rules (n + 1) (place + length (rule_words r)) rs f.1 k.1,
    )
