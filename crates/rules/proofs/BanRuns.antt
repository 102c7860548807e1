-- the runs of one rule and of one ban
use Rattle.std.proofs.Common.{◌≡◌, ℕ, zero, suc, ◌+◌, ◌-◌, ◌^◌, ◌<◌, ◌≤◌, min, List, [], ◌∷◌, ◌++◌, map, length, take, drop, Some, None, Option, sym, refl, ap, ◌∙◌, subst, append-nil, arith, length-append, length-drop}
use Rattle.std.proofs.lemmas.List.{length-map, take_rest, drop_all}
use Rattle.std.specs.List.{AllByRecursion}
use Rattle.std.proofs.ByRecursion.{All-drop}
use Rattle.words.specs.declared.items.Item.TheVariants.{Opens, Ends, Shares, Link}
use Rattle.words.specs.Words.{word_of, link_of, share_of}
use Rattle.rules.specs.declared.parts.Part.{Part}
use Rattle.rules.specs.declared.parts.Part.TheVariants.{Need as NeedRun, Ban as BanPart, Strike as StrikeRun, Makes as MakesRun}
use Rattle.rules.specs.declared.bans.BanRun.{BanRun}
use Rattle.rules.specs.Rules.{Ban, Making, Rule, link_words, share_words, bans_words, ban_words, need_words, thing_words, makes_words}
use Rattle.rules.specs.Formed.{FormedBan, FormedRule}
use Rattle.rules.specs.Runs.{span, end_of}
use Rattle.rules.specs.Parts.{Piece, ban_piece, pieces_words, piece_number, strike_pieces, make_pieces, pieces, RuleHere, BanHere}
use Rattle.rules.specs.Handed.{PartIs, ban_of, BanIs}
use Rattle.rules.proofs.Complete.{six}
use Rattle.rules.proofs.Spans.{span_exact}
use Rattle.rules.proofs.WordKinds.{links_back, shares_back, kinds_links, kinds_shares, starts_bans, past_at, end_at, run_at}
use Rattle.rules.proofs.Pieces.{shares_stop}

module _ (place : ℕ) (ws : List ℕ) (n : ℕ) (b : Ban) (h : BanHere place ws n b) where
  share_run : drop 1 ws ≡ share_words b.shares ++ link_words b.links
  share_run = ap (drop 1) h.written

  ban_length : length ws ≡ 1 + (length b.shares + length b.links)
  ban_length =
      let a : length ws ≡ length (ban_words b) = ap length h.written in
      let c = length-append (share_words b.shares) (link_words b.links) in
      let d = length-map b.shares (λ s. word_of (Shares s)) in
      let e = length-map b.links (λ l. word_of (Link l)) in
      omega arith

  shares_end : end_of 5 5 ws 1 ≡ 1 + length (share_words b.shares)
  shares_end =
      let k = kinds_links b.variables b.links (omega (arith, six b.variables h.formed.variables)) h.formed.links.ranges in
      let e : span 5 5 (link_words b.links) ≡ 0 = ap (span 5 5) (sym (append-nil (link_words b.links))) ∙ shares_stop b.links [] h.formed.some k in
      ap (λ z. 1 + span 5 5 z) share_run ∙ ap (λ m. 1 + m) (span_exact 5 5 (share_words b.shares) (link_words b.links) (kinds_shares n b.shares (omega (arith, h.few)) h.formed.shares) e)

  module _ (from end : ℕ) (f : from ≡ min (length ws) 1) (e : end ≡ end_of 5 5 ws from) where
    first_one : from ≡ 1
    first_one = let l = ban_length in omega arith

    end_is : end ≡ 1 + length (share_words b.shares)
    end_is = e ∙ ap (end_of 5 5 ws) first_one ∙ shares_end

    pub links_found : take (length ws - end) (drop end ws) ≡ link_words b.links
    links_found = take_rest ws end ∙ ap (λ z. drop z ws) end_is ∙ past_at ws 1 (share_words b.shares) (link_words b.links) share_run

    pub links_place : (p : ℕ) → p ≡ min (place + end) (2 ^ 64 - 1) → p ≡ place + 1 + length b.shares
    links_place p q = let i = h.inside in let y = end_is in let l = ban_length in let d = length-map b.shares (λ s. word_of (Shares s)) in omega arith

  pub ban_some : 1 ≤ length ws
  ban_some = let l = ban_length in omega arith

  pub shares_run : take (span 5 5 (drop 1 ws)) (drop 1 ws) ≡ share_words b.shares
  shares_run =
      let n : span 5 5 (drop 1 ws) ≡ end_of 5 5 ws 1 - 1 = omega arith in
      ap (λ k. take k (drop 1 ws)) n ∙ run_at ws 1 (end_of 5 5 ws 1) (share_words b.shares) (link_words b.links) share_run shares_end

pub shares_read : (place : ℕ) (ws : List ℕ) (n : ℕ) (b : Ban) → BanHere place ws n b → (us : List ℕ) → us ≡ share_words b.shares → map share_of us ≡ b.shares
shares_read place ws n b h us e = ap (map share_of) e ∙ shares_back n b.shares (let z = h.few in omega arith) h.formed.shares

pub links_read : (place : ℕ) (ws : List ℕ) (n : ℕ) (b : Ban) → BanHere place ws n b → (us : List ℕ) → us ≡ link_words b.links → map link_of us ≡ b.links
links_read place ws n b h us e = ap (map link_of) e ∙ links_back b.variables b.links (omega (arith, six b.variables h.formed.variables)) h.formed.links.ranges

pub needs_read : (place : ℕ) (ws : List ℕ) (r : Rule) → RuleHere place ws r → (us : List ℕ) → us ≡ link_words r.needs → map link_of us ≡ r.needs
needs_read place ws r h us e = ap (map link_of) e ∙ links_back r.variables r.needs (omega (arith, six r.variables h.formed.variables)) h.formed.needs.ranges

-- the needs
module _ (place : ℕ) (ws : List ℕ) (r : Rule) (h : RuleHere place ws r) where
  abbrev others : List ℕ
  others = bans_words r.bans ++ (need_words r.struck_needs ++ (thing_words r.struck_things ++ (makes_words r.makes ++ word_of Ends ∷ [])))

  pub rule_some : 1 ≤ length ws
  rule_some = let a : length ws ≡ length (word_of (Opens r.variables) ∷ (link_words r.needs ++ others)) = ap length h.written in omega arith

  pub needs_run : take (span 2 3 (drop 1 ws)) (drop 1 ws) ≡ link_words r.needs
  needs_run =
      let v = h.formed in
      let s = six r.variables v.variables in
      let d : drop 1 ws ≡ link_words r.needs ++ others = ap (drop 1) h.written in
      let q : end_of 2 3 ws 1 ≡ 1 + length (link_words r.needs) = end_at 2 3 ws 1 (link_words r.needs) others d (kinds_links r.variables r.needs (omega arith) v.needs.ranges) (starts_bans r.variables s.1 (length r.needs) r.bans r.struck_needs r.struck_things r.makes v.needs.few v.bans v.struck_needs v.struck_things v.makes) in
      let n : span 2 3 (drop 1 ws) ≡ end_of 2 3 ws 1 - 1 = omega arith in
      ap (λ k. take k (drop 1 ws)) n ∙ run_at ws 1 (end_of 2 3 ws 1) (link_words r.needs) others d q

-- bans among the parts
abbrev NoBan : List Piece → Type 0
NoBan ps = AllByRecursion (λ p. piece_number p ≡ 1 → ⊥) ps

no_bans : (sn st : List ℕ) (m : Option Making) → NoBan (strike_pieces sn st ++ make_pieces m)
no_bans [] [] None = tt
no_bans [] [] (Some m) = (λ e. omega arith, tt)
no_bans [] (k ∷ ks) None = (λ e. omega arith, tt)
no_bans [] (k ∷ ks) (Some m) = (λ e. omega arith, (λ e. omega arith, tt))
no_bans (k ∷ ks) st None = (λ e. omega arith, tt)
no_bans (k ∷ ks) st (Some m) = (λ e. omega arith, (λ e. omega arith, tt))

-- a ban found with its words, before its rule's facts are added
abbrev Found : ℕ → List Ban → Option BanRun → Type 0
Found place [] None = Unit {0}
Found place [] (Some q) = ⊥
Found place (b ∷ bs) None = ⊥
Found place (b ∷ bs) (Some q) = (q.place ≡ place) × (q.words.now ≡ ban_words b) × (q.place + length q.words.now ≤ 1024)

no_found : (place : ℕ) (ps : List Piece) (o : Option Part) → NoBan ps → PartIs place ps o → Found place [] (ban_of o)
no_found place [] None n p = tt
no_found place [] (Some q) n p = absurd p
no_found place (x ∷ ps) None n p = tt
no_found place (x ∷ ps) (Some (NeedRun q)) n p = tt
no_found place (x ∷ ps) (Some (BanPart q)) n p = n.0 (sym p.which)
no_found place (x ∷ ps) (Some (StrikeRun q)) n p = tt
no_found place (x ∷ ps) (Some (MakesRun q)) n p = tt

one_found : (place : ℕ) (b : Ban) (bs : List Ban) (ps : List Piece) (o : Option Part) → PartIs place (ban_piece b ∷ ps) o → Found place (b ∷ bs) (ban_of o)
one_found place b bs ps None p = p
one_found place b bs ps (Some (NeedRun q)) p = absurd (omega (arith, p.which))
one_found place b bs ps (Some (BanPart q)) p = (p.stands, p.words, p.inside)
one_found place b bs ps (Some (StrikeRun q)) p = absurd (omega (arith, p.which))
one_found place b bs ps (Some (MakesRun q)) p = absurd (omega (arith, p.which))

found : (place : ℕ) (bs : List Ban) (ps : List Piece) (i : ℕ) (o : Option Part) → NoBan ps → PartIs place (drop i (map ban_piece bs ++ ps)) o → Found place (drop i bs) (ban_of o)
found place [] ps zero o n p = no_found place ps o n p
found place [] ps (suc i) o n p = no_found place (drop (suc i) ps) o (All-drop (λ p. piece_number p ≡ 1 → ⊥) (suc i) ps n) p
found place (b ∷ bs) ps zero o n p = one_found place b bs (map ban_piece bs ++ ps) o p
found place (b ∷ bs) ps (suc i) o n p = found place bs ps i o n p

bans_before : (bs : List Ban) (ps : List Piece) (i : ℕ) → i ≤ length bs → pieces_words (take i (map ban_piece bs ++ ps)) ≡ bans_words (take i bs)
bans_before bs ps zero h = refl
bans_before [] ps (suc i) h = absurd (omega arith)
bans_before (b ∷ bs) ps (suc i) h = ap (λ z. ban_words b ++ z) (bans_before bs ps i (omega arith))

ban_is : (n p q : ℕ) (bs : List Ban) (o : Option BanRun) → n ≤ 6 → AllByRecursion (FormedBan n) bs → (0 < length bs → p ≡ q) → Found p bs o → BanIs n q bs o
ban_is n p q [] None h v e f = tt
ban_is n p q [] (Some x) h v e f = f
ban_is n p q (b ∷ bs) None h v e f = f
ban_is n p q (b ∷ bs) (Some x) h v e f = (f.0 ∙ e (omega arith), record { formed = v.0; few = h; written = f.1; inside = f.2 })

pub ban_handed : (place : ℕ) (ws : List ℕ) (r : Rule) (i : ℕ) (o : Option Part) → RuleHere place ws r → PartIs (place + 1 + length (pieces_words (take (i + 1) (pieces r)))) (drop (i + 1) (pieces r)) o → BanIs r.variables (place + 1 + length r.needs + length (bans_words (take i r.bans))) (drop i r.bans) (ban_of o)
ban_handed place ws r i o h p =
    let ps = strike_pieces r.struck_needs r.struck_things ++ make_pieces r.makes in
    let x = place + 1 + length (pieces_words (take (i + 1) (pieces r))) in
    let one : i + 1 ≡ suc i = omega arith in
    let g : Found x (drop i r.bans) (ban_of o) = found x r.bans ps i o (no_bans r.struck_needs r.struck_things r.makes) (subst (λ z. PartIs x (drop z (pieces r)) o) one p) in
    ban_is r.variables x (place + 1 + length r.needs + length (bans_words (take i r.bans))) (drop i r.bans) (ban_of o) (six r.variables h.formed.variables).1 (All-drop (FormedBan r.variables) i r.bans h.formed.bans)
    (λ l.
    let d = length-drop i r.bans in
    let w : pieces_words (take (i + 1) (pieces r)) ≡ link_words r.needs ++ bans_words (take i r.bans) = ap (λ z. pieces_words (take z (pieces r))) one ∙ ap (λ z. link_words r.needs ++ z) (bans_before r.bans ps i (omega arith)) in
    let m : length (pieces_words (take (i + 1) (pieces r))) ≡ length (link_words r.needs) + length (bans_words (take i r.bans)) = ap length w ∙ length-append (link_words r.needs) (bans_words (take i r.bans)) in
    let k = length-map r.needs (λ l. word_of (Link l)) in
    omega arith)
    g

pub no_ban_left : (r : Rule) (i place : ℕ) → FormedRule r → 4 ≤ i → BanIs r.variables place (drop i r.bans) None
no_ban_left r i place f h = let e : drop i r.bans ≡ [] = drop_all i r.bans (let z = f.few in omega arith) in subst (λ z. BanIs r.variables place z None) (sym e) tt
