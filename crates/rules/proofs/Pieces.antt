-- the parts of a rule as they stand in its words
use Rattle.std.proofs.Common.{◌≡◌, ℕ, ◌+◌, ◌/◌, ◌<◌, ◌≤◌, true, false, cond, ◌&&◌, ◌||◌, eqb, ltb, leb, List, [], ◌∷◌, ◌++◌, map, length, get_or, drop, Some, None, Option, sym, refl, ap, ◌∙◌, subst, append_assoc, append-nil, arith, length-append}
use Rattle.std.proofs.lemmas.Bool.Decides.{nat_tests}
use Rattle.std.proofs.lemmas.Bool.{leb-true}
use Rattle.std.specs.List.{AllByRecursion}
use Rattle.words.specs.declared.items.PatternLink.{PatternLink}
use Rattle.words.specs.declared.items.Item.TheVariants.{Opens, Link, Bans, Makes, Ends}
use Rattle.words.specs.Words.{word_of}
use Rattle.words.proofs.Coding.{kind_of_word}
use Rattle.rules.specs.Rules.{Ban, Making, Rule, rule_words, link_words, share_words, ban_words, bans_words, need_words, thing_words, makes_words}
use Rattle.rules.specs.Formed.{FormedBan, FormedMaking, FormedRule}
use Rattle.rules.specs.Runs.{within, span, end_of, part_of, part_end_by, part_end}
use Rattle.rules.specs.Parts.{Piece, need_piece, ban_piece, strike_piece, make_piece, piece_words, pieces_words, strike_pieces, make_pieces, pieces, piece_number}
use Rattle.rules.proofs.Complete.{six}
use Rattle.rules.proofs.Spans.{Kinds, Starts, span_exact}
use Rattle.rules.proofs.WordKinds.{kinds_links, kinds_shares, kinds_needs, kinds_things, kinds_wider, kinds_join, starts_makes, starts_bans, head_at, tail_at, past_at, end_at}
use Rattle.rules.proofs.Walking.{Suffixes}

-- the kind that what follows a part begins with at least
abbrev after : Piece → ℕ
after (need_piece ls) = 4
after (ban_piece b) = 4
after (strike_piece sn st) = 8
after (make_piece m) = 4

abbrev PieceFine : Piece → Type 0
PieceFine (need_piece ls) = (0 < length ls) × Kinds 2 3 (link_words ls)
PieceFine (ban_piece b) = (b.variables < 256) × Kinds 5 5 (share_words b.shares) × (0 < length b.links) × Kinds 2 3 (link_words b.links)
PieceFine (strike_piece sn st) = (0 < length (need_words sn ++ thing_words st)) × Kinds 6 7 (need_words sn ++ thing_words st)
PieceFine (make_piece m) = (m.things < 256) × Kinds 2 3 (link_words m.links)

abbrev pub PieceAt : Piece → List Piece → Type 0
PieceAt p ps = PieceFine p × Starts (after p) (pieces_words ps ++ word_of Ends ∷ [])

-- the words of the parts are those of the rule
make_words : (m : Option Making) → pieces_words (make_pieces m) ≡ makes_words m
make_words None = refl
make_words (Some m) = append-nil (makes_words (Some m))

strike_words : (sn st : List ℕ) (ps : List Piece) → pieces_words (strike_pieces sn st ++ ps) ≡ need_words sn ++ (thing_words st ++ pieces_words ps)
strike_words [] [] ps = refl
strike_words [] (k ∷ ks) ps = refl
strike_words (k ∷ ks) st ps = append_assoc (need_words (k ∷ ks)) (thing_words st) (pieces_words ps)

ban_pieces_words : (bs : List Ban) (ps : List Piece) → pieces_words (map ban_piece bs ++ ps) ≡ bans_words bs ++ pieces_words ps
ban_pieces_words [] ps = refl
ban_pieces_words (b ∷ bs) ps = ap (λ z. ban_words b ++ z) (ban_pieces_words bs ps) ∙ sym (append_assoc (ban_words b) (bans_words bs) (pieces_words ps))

rest_words : (sn st : List ℕ) (m : Option Making) (e : List ℕ) → pieces_words (strike_pieces sn st ++ make_pieces m) ++ e ≡ need_words sn ++ (thing_words st ++ (makes_words m ++ e))
rest_words sn st m e =
    ap (λ z. z ++ e) (strike_words sn st (make_pieces m) ∙ ap (λ z. need_words sn ++ (thing_words st ++ z)) (make_words m))
    ∙ append_assoc (need_words sn) (thing_words st ++ makes_words m) e ∙ ap (λ z. need_words sn ++ z) (append_assoc (thing_words st) (makes_words m) e)

pub all_words : (bs : List Ban) (sn st : List ℕ) (m : Option Making) (e : List ℕ) → pieces_words (map ban_piece bs ++ (strike_pieces sn st ++ make_pieces m)) ++ e ≡ bans_words bs ++ (need_words sn ++ (thing_words st ++ (makes_words m ++ e)))
all_words bs sn st m e =
    ap (λ z. z ++ e) (ban_pieces_words bs (strike_pieces sn st ++ make_pieces m)) ∙ append_assoc (bans_words bs) (pieces_words (strike_pieces sn st ++ make_pieces m)) e ∙ ap (λ z. bans_words bs ++ z) (rest_words sn st m e)

pub rule_pieces : (r : Rule) → rule_words r ≡ word_of (Opens r.variables) ∷ (pieces_words (pieces r) ++ word_of Ends ∷ [])
rule_pieces r =
    let o = word_of (Opens r.variables) in
    let l = link_words r.needs in
    let e = word_of Ends ∷ [] in
    let ps = map ban_piece r.bans ++ (strike_pieces r.struck_needs r.struck_things ++ make_pieces r.makes) in
    ap (λ z. o ∷ (l ++ z)) (sym (all_words r.bans r.struck_needs r.struck_things r.makes e)) ∙ ap (λ z. o ∷ z) (sym (append_assoc l (pieces_words ps) e))

-- each part of a rule that the first pass takes ends where the next begins
module _ (n c : ℕ) (f : n ≤ 6) (q : c ≤ 12) where
  fine_make : (m : Option Making) → FormedMaking n m → Suffixes PieceAt (make_pieces m)
  fine_make None v = tt
  fine_make (Some m) v =
      let k = leb-true m.things 4 v.0 in
      (((omega arith, kinds_links (n + m.things) m.links (omega arith) v.2.ranges), omega arith), tt)

  fine_strike : (sn st : List ℕ) (m : Option Making) → AllByRecursion (λ k. ltb k c ≡ true) sn → AllByRecursion (λ k. ltb k n ≡ true) st → FormedMaking n m → Suffixes PieceAt (strike_pieces sn st ++ make_pieces m)
  fine_strike [] [] m a b v = fine_make m v
  fine_strike [] (k ∷ ks) m a b v = (
    (
      (omega arith, kinds_wider 7 7 6 7 (thing_words (k ∷ ks)) (omega arith) (omega arith) (kinds_things n (k ∷ ks) (omega arith) b)),
      subst (λ z. Starts 8 (z ++ word_of Ends ∷ [])) (sym (make_words m)) (starts_makes n f m v),
    ),
    fine_make m v,
  )
  fine_strike (k ∷ ks) st m a b v = (
    (
      (
        omega arith,
        kinds_join 6 7 (need_words (k ∷ ks)) (thing_words st) (kinds_wider 6 6 6 7 (need_words (k ∷ ks)) (omega arith) (omega arith) (kinds_needs c (k ∷ ks) (omega arith) a)) (kinds_wider 7 7 6 7 (thing_words st) (omega arith) (omega arith) (kinds_things n st (omega arith) b)),
      ),
      subst (λ z. Starts 8 (z ++ word_of Ends ∷ [])) (sym (make_words m)) (starts_makes n f m v),
    ),
    fine_make m v,
  )

  fine_bans : (bs : List Ban) (sn st : List ℕ) (m : Option Making) → AllByRecursion (FormedBan n) bs → AllByRecursion (λ k. ltb k c ≡ true) sn → AllByRecursion (λ k. ltb k n ≡ true) st → FormedMaking n m → Suffixes PieceAt (map ban_piece bs ++ (strike_pieces sn st ++ make_pieces m))
  fine_bans [] sn st m d a b v = fine_strike sn st m a b v
  fine_bans (x ∷ xs) sn st m d a b v =
      let s = six x.variables d.0.variables in (
        (
          (omega arith, kinds_shares n x.shares (omega arith) d.0.shares, d.0.some, kinds_links x.variables x.links (omega arith) d.0.links.ranges),
          subst (Starts 4) (sym (all_words xs sn st m (word_of Ends ∷ []))) (starts_bans n f c xs sn st m q d.1 a b v),
        ),
        fine_bans xs sn st m d.1 a b v,
      )

pub pieces_fine : (r : Rule) → FormedRule r → Suffixes PieceAt (pieces r)
pieces_fine r v =
    let s = six r.variables v.variables in
    let f = v.needs.few in (
      (
        (v.some, kinds_links r.variables r.needs (omega arith) v.needs.ranges),
        subst (Starts 4) (sym (all_words r.bans r.struck_needs r.struck_things r.makes (word_of Ends ∷ []))) (starts_bans r.variables s.1 (length r.needs) r.bans r.struck_needs r.struck_things r.makes f v.bans v.struck_needs v.struck_things v.makes),
      ),
      fine_bans r.variables (length r.needs) s.1 f r.bans r.struck_needs r.struck_things r.makes v.bans v.struck_needs v.struck_things v.makes,
    )

-- one part
pub record Stands (ws : List ℕ) (at : ℕ) (p : Piece) : Type 0 where
  pub ends : part_end ws at ≡ at + length (piece_words p)
  pub begins : part_of (get_or ws at 0 / 268435456) ≡ Some (piece_number p)

two_three : (w : ℕ) → within 2 3 w ≡ true → (eqb (w / 268435456) 2 || eqb (w / 268435456) 3) ≡ true
two_three w h = grind (arith, nat_tests)

pub record Six (k : ℕ) : Type 0 where
  pub no23 : (eqb k 2 || eqb k 3) ≡ false
  pub no4 : eqb k 4 ≡ false
  pub yes67 : (eqb k 6 || eqb k 7) ≡ true

six_seven : (k : ℕ) → (leb 6 k && leb k 7) ≡ true → Six k
six_seven k h = record { no23 = grind (arith, nat_tests); no4 = grind (arith, nat_tests); yes67 = grind (arith, nat_tests) }

not_five : (w : ℕ) (ws : List ℕ) → within 2 3 w ≡ true → span 5 5 (w ∷ ws) ≡ 0
not_five w ws h = let b : within 5 5 w ≡ false = grind (arith, nat_tests) in ap (λ z. cond z (1 + span 5 5 ws) 0) b

pub shares_stop : (ls : List PatternLink) (rest : List ℕ) → 0 < length ls → Kinds 2 3 (link_words ls) → span 5 5 (link_words ls ++ rest) ≡ 0
shares_stop [] rest h k = absurd (omega arith)
shares_stop (l ∷ ls) rest h k = not_five (word_of (Link l)) (link_words ls ++ rest) k.0

links_stand : (w : ℕ) (us : List ℕ) (ws : List ℕ) (at : ℕ) (rest : List ℕ) → drop at ws ≡ w ∷ us ++ rest → Kinds 2 3 (w ∷ us) → Starts 4 rest → (part_end ws at ≡ at + length (w ∷ us)) × (part_of (get_or ws at 0 / 268435456) ≡ Some 0)
links_stand w us ws at rest e k s =
    let h = head_at ws at w (us ++ rest) e in
    let b = two_three w k.0 in
    (ap (λ z. part_end_by (z / 268435456) ws at) h ∙ rw b (end_at 2 3 ws at (w ∷ us) rest e k s), ap (λ z. part_of (z / 268435456)) h ∙ rw b refl)

strikes_stand : (w : ℕ) (us : List ℕ) (ws : List ℕ) (at : ℕ) (rest : List ℕ) → drop at ws ≡ w ∷ us ++ rest → Kinds 6 7 (w ∷ us) → Starts 8 rest → (part_end ws at ≡ at + length (w ∷ us)) × (part_of (get_or ws at 0 / 268435456) ≡ Some 2)
strikes_stand w us ws at rest e k s =
    let h = head_at ws at w (us ++ rest) e in
    let b = six_seven (w / 268435456) k.0 in
    let x = b.no23 in let y = b.no4 in let z = b.yes67 in
    (ap (λ z. part_end_by (z / 268435456) ws at) h ∙ rw (x, y, z) (end_at 6 7 ws at (w ∷ us) rest e k s), ap (λ z. part_of (z / 268435456)) h ∙ rw (x, y, z) refl)

strikes_of : (us : List ℕ) (ws : List ℕ) (at : ℕ) (rest : List ℕ) → drop at ws ≡ us ++ rest → 0 < length us → Kinds 6 7 us → Starts 8 rest → (part_end ws at ≡ at + length us) × (part_of (get_or ws at 0 / 268435456) ≡ Some 2)
strikes_of [] ws at rest e h k s = absurd (omega arith)
strikes_of (w ∷ us) ws at rest e h k s = strikes_stand w us ws at rest e k s

pub stands : (p : Piece) (ws : List ℕ) (at : ℕ) (rest : List ℕ) → drop at ws ≡ piece_words p ++ rest → PieceFine p → Starts (after p) rest → Stands ws at p
stands (need_piece []) ws at rest e f s = absurd (omega (arith, f.0))
stands (need_piece (l ∷ ls)) ws at rest e f s = let k = links_stand (word_of (Link l)) (link_words ls) ws at rest e f.1 s in record { ends = k.0; begins = k.1 }
stands (strike_piece sn st) ws at rest e f s = let k = strikes_of (need_words sn ++ thing_words st) ws at rest e f.0 f.1 s in record { ends = k.0; begins = k.1 }
stands (make_piece m) ws at rest e f s =
    let w = word_of (Makes m.things) in
    let us = link_words m.links in
    let h : get_or ws at 0 / 268435456 ≡ 8 = ap (λ z. z / 268435456) (head_at ws at w (us ++ rest) e) ∙ kind_of_word (Makes m.things) f.0 in
    let t = tail_at ws at w (us ++ rest) e in
    let q = end_at 2 3 ws (at + 1) us rest t f.1 s in
    record { ends = ap (λ z. part_end_by z ws at) h ∙ (let g : end_of 2 3 ws (at + 1) ≡ at + length (w ∷ us) = omega arith in g); begins = ap part_of h }
stands (ban_piece b) ws at rest e f s =
    let w = word_of (Bans b.variables) in
    let us = share_words b.shares in
    let vs = link_words b.links in
    let h : get_or ws at 0 / 268435456 ≡ 4 = ap (λ z. z / 268435456) (head_at ws at w ((us ++ vs) ++ rest) e) ∙ kind_of_word (Bans b.variables) f.0 in
    let t : drop (at + 1) ws ≡ us ++ (vs ++ rest) = tail_at ws at w ((us ++ vs) ++ rest) e ∙ append_assoc us vs rest in
    let x : end_of 5 5 ws (at + 1) ≡ at + 1 + length us = ap (λ z. at + 1 + span 5 5 z) t ∙ ap (λ n. at + 1 + n) (span_exact 5 5 us (vs ++ rest) f.1 (shares_stop b.links rest f.2 f.3)) in
    let u : drop (at + 1 + length us) ws ≡ vs ++ rest = past_at ws (at + 1) us (vs ++ rest) t in
    let y = end_at 2 3 ws (at + 1 + length us) vs rest u f.3 s in
    let l = length-append us vs in
    record { ends = ap (λ z. part_end_by z ws at) h ∙ ap (end_of 2 3 ws) x ∙ (let g : end_of 2 3 ws (at + 1 + length us) ≡ at + length (w ∷ (us ++ vs)) = omega arith in g); begins = ap part_of h }
