-- what is read was written
use Rattle.std.proofs.Common.{◌≡◌, ℕ, ◌+◌, true, false, ◌&&◌, List, [], ◌∷◌, ◌++◌, Ok, Err, Result, sym, refl, ap, ◌∙◌, append_assoc, append-nil, arith}
use Rattle.words.specs.declared.items.Item.{Item}
use Rattle.words.specs.declared.faults.WordFault.{WordFault}
use Rattle.words.specs.declared.faults.Cause.{Cause}
use Rattle.words.specs.Words.{item_of}
use Rattle.words.specs.Steps.{has, may, in_range, listed, too_many, many, judged, and_then, worded}
use Rattle.rules.specs.Rules.{Rule, Partial, outside, in_needs, in_shares, in_links, in_struck_needs, in_struck_things, in_makes, grown, numbers, written, tail, read_of, ended, go_on, run, scanned, encode}
use Rattle.rules.proofs.Readings.{written_grown}
use Rattle.words.proofs.Coding.{item_word}
use Rattle.rules.proofs.Machine.{passed}

-- what a word that is read tells
pub record Read (p : Partial) (w : ℕ) (q : Partial) (i : Item) : Type 0 where
  pub item : item_of w ≡ Ok i
  pub may : may (numbers p).stage i ≡ true
  pub range : in_range (numbers p) i ≡ true
  pub once : (listed (numbers p).stage i && has w (tail p)) ≡ false
  pub room : too_many (numbers p) i ≡ false
  pub grows : grown p i ≡ q

read_at : (p : Partial) (w : ℕ) (q : Partial) (x : Result Item WordFault) → item_of w ≡ x → and_then (worded x) (λ i. judged (numbers p) i (has w (tail p)) (grown p i)) ≡ Ok q → (i : Item) × Read p w q i
read_at p w q (Ok i) e h =
    let s = numbers p in
    let k = passed (may s.stage i) (in_range s i) (listed s.stage i && has w (tail p)) (too_many s i) (many i) (grown p i) q h in
    (i, record { item = e; may = k.may; range = k.range; once = k.once; room = k.room; grows = k.same })
read_at p w q (Err f) e h = let z : ◌≡◌ {A = ℕ} 0 1 = cc in absurd (omega arith)

pub read_some_item : (p : Partial) (w : ℕ) (q : Partial) → read_of p w ≡ Ok q → (i : Item) × Read p w q i
read_some_item p w q h = read_at p w q (item_of w) refl h

pub read_written : (p : Partial) (w : ℕ) (q : Partial) → read_of p w ≡ Ok q → written q ≡ written p ++ w ∷ []
read_written p w q h =
    let r = read_some_item p w q h in
    ap written (sym r.1.grows) ∙ written_grown p r.0 r.1.may ∙ ap (λ z. written p ++ z ∷ []) (item_word w r.0 r.1.item)

end_written : (at : ℕ) (p : Partial) (rs : List Rule) → ended at p ≡ Ok rs → written p ≡ encode rs
end_written at (outside qs) rs e = let q : qs ≡ rs = cc in append-nil (encode qs) ∙ ap encode q
end_written at (in_needs qs n ls) rs e = let z : ◌≡◌ {A = ℕ} 0 1 = cc in absurd (omega arith)
end_written at (in_shares h m ss) rs e = let z : ◌≡◌ {A = ℕ} 0 1 = cc in absurd (omega arith)
end_written at (in_links h m ss ls) rs e = let z : ◌≡◌ {A = ℕ} 0 1 = cc in absurd (omega arith)
end_written at (in_struck_needs h sn) rs e = let z : ◌≡◌ {A = ℕ} 0 1 = cc in absurd (omega arith)
end_written at (in_struck_things h sn st) rs e = let z : ◌≡◌ {A = ℕ} 0 1 = cc in absurd (omega arith)
end_written at (in_makes h sn st k ls) rs e = let z : ◌≡◌ {A = ℕ} 0 1 = cc in absurd (omega arith)

-- a run that comes to rules goes on from its first word, whatever is kept (I) over one word
module _ (I : Partial → Type 0) (kept : (p : Partial) (w : ℕ) (q : Partial) → read_of p w ≡ Ok q → I p → I q) where
  mutual_step : (at : ℕ) (p : Partial) (w : ℕ) (ws : List ℕ) (rs : List Rule) (x : Result Partial Cause) → read_of p w ≡ x → go_on at p (λ q. run (at + 1) q ws) x ≡ Ok rs → (q : Partial) × (read_of p w ≡ Ok q) × (run (at + 1) q ws ≡ Ok rs)
  mutual_step at p w ws rs (Ok q) e h = (q, e, h)
  mutual_step at p w ws rs (Err c) e h = let z : ◌≡◌ {A = ℕ} 0 1 = cc in absurd (omega arith)

  pub run_keeps : (at : ℕ) (p : Partial) (ws : List ℕ) (rs : List Rule) → run at p ws ≡ Ok rs → I p → (n : ℕ) × (q : Partial) × (ended n q ≡ Ok rs) × (written q ≡ written p ++ ws) × I q
  run_keeps at p [] rs h i = (at, p, h, sym (append-nil (written p)), i)
  run_keeps at p (w ∷ ws) rs h i =
      let r = mutual_step at p w ws rs (read_of p w) refl h in
      let k = run_keeps (at + 1) r.0 ws rs r.2 (kept p w r.0 r.1 i) in
      (k.0, k.1, k.2, k.3 ∙ ap (λ z. z ++ ws) (read_written p w r.0 r.1) ∙ append_assoc (written p) (w ∷ []) ws, k.4)

pub scanned_encode : (ws : List ℕ) (rs : List Rule) → scanned ws ≡ Ok rs → ws ≡ encode rs
scanned_encode ws rs h =
    let k = run_keeps (λ _. Unit {0}) (λ _ _ _ _ _. tt) 0 (outside []) ws rs h tt in
    sym k.3 ∙ end_written k.0 k.1 rs k.2
