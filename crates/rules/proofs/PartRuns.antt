-- the parts of a rule, found one after another
use Rattle.std.proofs.Common.{◌≡◌, ℕ, ◌+◌, ◌-◌, ◌/◌, ◌≤◌, min, List, [], ◌∷◌, ◌++◌, map, length, get_or, take, drop, Some, None, Option, sym, refl, ap, ◌∙◌, subst, arith, length-append, length-drop}
use Rattle.std.proofs.lemmas.List.{length-map, drop_all}
use Rattle.words.specs.declared.items.Item.TheVariants.{Opens, Ends}
use Rattle.words.specs.Words.{word_of}
use Rattle.rules.specs.declared.parts.Part.{Part}
use Rattle.rules.specs.Rules.{Making, Rule, rule_words}
use Rattle.rules.specs.Formed.{FormedRule}
use Rattle.rules.specs.Runs.{part_of, part_end_by, part_end}
use Rattle.rules.specs.Parts.{Piece, ban_piece, piece_words, pieces_words, piece_number, strike_pieces, make_pieces, pieces}
use Rattle.rules.specs.Handed.{part_number, part_place, part_words, PartAt, Cut, IsPart, PartIs}
use Rattle.rules.proofs.WordKinds.{head_at, run_at}
use Rattle.rules.proofs.Walking.{suffix_at, Reached, reached_element, reached_more}
use Rattle.rules.proofs.Pieces.{PieceAt, pieces_fine, rule_pieces, stands}

pub part_first : (ws : List ℕ) (r : Rule) (at : ℕ) → ws ≡ rule_words r → at ≡ min (length ws) 1 → PartAt ws r 0 at
part_first ws r at e a =
    let q : ws ≡ word_of (Opens r.variables) ∷ (pieces_words (pieces r) ++ word_of Ends ∷ []) = e ∙ rule_pieces r in
    let l : length ws ≡ length (word_of (Opens r.variables) ∷ (pieces_words (pieces r) ++ word_of Ends ∷ [])) = ap length q in
    let b : at ≡ 1 = omega arith in
    (b, ap (λ z. drop z ws) b ∙ ap (drop 1) q)

module _ (ws : List ℕ) (r : Rule) (f : FormedRule r) (k at : ℕ) (p : PartAt ws r k at) where
  reached : Reached piece_words pieces_words refl (λ _ _. refl) ws (word_of Ends ∷ []) 1 (pieces r) k at
  reached = record { place = p.0; rest = p.1 }

  element : (x : Piece) (ys : List Piece) → drop k (pieces r) ≡ x ∷ ys → drop at ws ≡ piece_words x ++ (pieces_words ys ++ word_of Ends ∷ [])
  element x ys e = reached_element piece_words pieces_words refl (λ _ _. refl) ws (word_of Ends ∷ []) 1 (pieces r) k at at reached x ys e

  ends_here : drop k (pieces r) ≡ [] → get_or ws at 0 ≡ word_of Ends
  ends_here e = head_at ws at (word_of Ends) [] (p.1 ∙ ap (λ z. pieces_words z ++ word_of Ends ∷ []) e)

  pub part_more : (next : ℕ) → next ≡ part_end ws at → PartAt ws r (k + 1) next
  part_more next n =
      let q = reached_more piece_words pieces_words refl (λ _ _. refl) ws (word_of Ends ∷ []) 1 (pieces r) k at next reached
      (λ x ys e. let s = suffix_at PieceAt (pieces r) k x ys (pieces_fine r f) e in n ∙ (stands x ws at (pieces_words ys ++ word_of Ends ∷ []) (element x ys e) s.0 s.1).ends)
      (λ e. n ∙ ap (λ z. part_end_by (z / 268435456) ws at) (ends_here e)) in
      (q.place, q.rest)

  module _ (place end : ℕ) (i : place + length ws ≤ 1024) (n : end ≡ part_end ws at) (h : at ≤ length ws) where
    cut_some : (x : Piece) (ys : List Piece) → drop k (pieces r) ≡ x ∷ ys → (q : Part) → Cut place ws at end (Some q) → IsPart (place + 1 + length (pieces_words (take k (pieces r)))) x q
    cut_some x ys e q c =
        let s = suffix_at PieceAt (pieces r) k x ys (pieces_fine r f) e in
        let d = element x ys e in
        let t = stands x ws at (pieces_words ys ++ word_of Ends ∷ []) d s.0 s.1 in
        let w : part_words q ≡ piece_words x = c.2 ∙ run_at ws at end (piece_words x) (pieces_words ys ++ word_of Ends ∷ []) d (n ∙ t.ends) in
        let m : part_number q ≡ piece_number x = let u = c.0 in let v = t.begins in cc in
        let l : length ws - at ≡ length (piece_words x) + length (pieces_words ys ++ word_of Ends ∷ []) = sym (length-drop at ws) ∙ ap length d ∙ length-append (piece_words x) (pieces_words ys ++ word_of Ends ∷ []) in
        let o : part_place q ≡ place + at = let z = c.1 in omega arith in
        let lw : length (part_words q) ≡ length (piece_words x) = ap length w in
        let pa = p.0 in
        record { which = m; stands = omega arith; words = w; inside = omega arith }

    cut_none : (x : Piece) (ys : List Piece) → drop k (pieces r) ≡ x ∷ ys → part_of (get_or ws at 0 / 268435456) ≡ None → ⊥
    cut_none x ys e c =
        let s = suffix_at PieceAt (pieces r) k x ys (pieces_fine r f) e in
        let t = (stands x ws at (pieces_words ys ++ word_of Ends ∷ []) (element x ys e) s.0 s.1).begins in
        let z : ◌≡◌ {A = ℕ} 0 1 = cc in omega arith

    cut_end : drop k (pieces r) ≡ [] → (q : Part) → Cut place ws at end (Some q) → ⊥
    cut_end e q c = let a : part_of (get_or ws at 0 / 268435456) ≡ None = ap (λ z. part_of (z / 268435456)) (ends_here e) in let b = c.0 in let z : ◌≡◌ {A = ℕ} 0 1 = cc in omega arith

    cut_cases : (l : List Piece) → drop k (pieces r) ≡ l → (o : Option Part) → Cut place ws at end o → PartIs (place + 1 + length (pieces_words (take k (pieces r)))) l o
    cut_cases [] e None c = tt
    cut_cases [] e (Some q) c = cut_end e q c
    cut_cases (x ∷ ys) e None c = cut_none x ys e c
    cut_cases (x ∷ ys) e (Some q) c = cut_some x ys e q c

    pub part_handed : (o : Option Part) → Cut place ws at end o → PartIs (place + 1 + length (pieces_words (take k (pieces r)))) (drop k (pieces r)) o
    part_handed o c = cut_cases (drop k (pieces r)) refl o c

-- a rule has at most seven parts
strikes_few : (sn st : List ℕ) → length (strike_pieces sn st) ≤ 1
strikes_few [] [] = omega arith
strikes_few [] (k ∷ ks) = omega arith
strikes_few (k ∷ ks) st = omega arith

makes_few : (m : Option Making) → length (make_pieces m) ≤ 1
makes_few None = omega arith
makes_few (Some m) = omega arith

pub pieces_few : (r : Rule) → FormedRule r → length (pieces r) ≤ 7
pieces_few r f =
    let a = strikes_few r.struck_needs r.struck_things in
    let b = makes_few r.makes in
    let c = length-append (strike_pieces r.struck_needs r.struck_things) (make_pieces r.makes) in
    let d = length-append (map ban_piece r.bans) (strike_pieces r.struck_needs r.struck_things ++ make_pieces r.makes) in
    let e = length-map r.bans ban_piece in
    let g = f.few in
    omega arith

pub none_left : (r : Rule) (i place : ℕ) → FormedRule r → 7 ≤ i → PartIs place (drop i (pieces r)) None
none_left r i place f h = let e : drop i (pieces r) ≡ [] = drop_all i (pieces r) (let z = pieces_few r f in omega arith) in subst (λ z. PartIs place z None) (sym e) tt
