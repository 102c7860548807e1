-- The next source along a column of places.
use Rattle.std.proofs.Common.{◌≡◌, ℕ, ◌+◌, ◌-◌, ◌*◌, ◌<◌, ◌≤◌, max, true, false, List, MatchOption, Some, None, Option, sym, ap, ◌∙◌, subst, ⊎_elim, arith}
use Rattle.std.specs.Option.{IsSomeAnd}
use Rattle.std.proofs.lemmas.Bool.{cases_lt}
use Rattle.links.specs.Sets.{member, inside, link_of}
use Rattle.links.specs.Answers.{Least}
use Rattle.bit_store.specs.Places.{place, places, bit_on, links_in}
use Rattle.bit_store.proofs.Kept.{member_links, member_links_outside}
use Rattle.bit_store.proofs.Placing.{place_below, place_strides, outside_column, inside_column}
use Rattle.links.proofs.Inside.{outside_source, outside_marks}

module _ (ws : List ℕ) (t b x from start : ℕ) (is : start ≡ max from 64) where
  -- nothing from `from` on and before the start
  column_none : (s : ℕ) → from ≤ s → s < start → member (link_of s b x) (links_in ws t) ≡ false
  column_none s h l = member_links_outside ws t (link_of s b x) (outside_marks t s b x (omega arith))

  pub column_outside : inside t (link_of start b x) ≡ false → Least (λ s. member (link_of s b x) (links_in ws t)) from None
  column_outside o s h =
      ⊎_elim (λ l. column_none s h l) (λ l. member_links_outside ws t (link_of s b x) (outside_column t start b x s o (omega arith) l)) (cases_lt s start)

  module _ (i : inside t (link_of start b x) ≡ true) (first : ℕ) (at : first ≡ place t (link_of start b x)) (n : ℕ) (things : n ≡ t) where
    -- the places of the sources from the start on, a stride apart
    column_place : (k : ℕ) → first + k * (16 * (64 + n)) ≡ place t (link_of (start + k) b x)
    column_place k = rw things (ap (λ v. v + k * (16 * (64 + t))) at ∙ sym (place_strides t start b x k (omega arith)))

    column_inside : (k : ℕ) → k < 64 + n - start → inside t (link_of (start + k) b x) ≡ true
    column_inside k l = inside_column t start b x (start + k) i (omega arith) (omega (arith, things))

    pub column_below : (k : ℕ) → k < 64 + n - start → first + k * (16 * (64 + n)) < places t
    column_below k l = subst (λ v. v < places t) (sym (column_place k)) (place_below t (link_of (start + k) b x) (column_inside k l))

    column_bit : (s : ℕ) → start ≤ s → s < 64 + n → member (link_of s b x) (links_in ws t) ≡ bit_on ws (first + (s - start) * (16 * (64 + n)))
    column_bit s lo hi =
        let e : start + (s - start) ≡ s = omega arith in
        subst (λ v. member (link_of v b x) (links_in ws t) ≡ bit_on ws (first + (s - start) * (16 * (64 + n)))) e
        (member_links ws t (link_of (start + (s - start)) b x) (column_inside (s - start) (omega arith)) ∙ ap (bit_on ws) (sym (column_place (s - start))))

    -- what the next source is, by how many strides there are to the first place of the column whose bit is on
    pub next_column : (o r : Option ℕ) (P : ℕ → ℕ → Type 0) → MatchOption o ((k : ℕ) → 0 ≤ k → k < 64 + n - start → bit_on ws (first + k * (16 * (64 + n))) ≡ false) (λ m. (0 ≤ m) × (m < 64 + n - start) × (bit_on ws (first + m * (16 * (64 + n))) ≡ true) × ((k : ℕ) → 0 ≤ k → k < m → bit_on ws (first + k * (16 * (64 + n))) ≡ false)) → MatchOption o (r ≡ None) (λ k. IsSomeAnd r (P k)) → ((k s : ℕ) → P k s → s ≡ start + k) → Least (λ s. member (link_of s b x) (links_in ws t)) from r
    next_column None r P h q f =
        rw q (λ s l. ⊎_elim
        (λ k. column_none s l k)
        (λ k. ⊎_elim (λ m. column_bit s k m ∙ h (s - start) (omega arith) (omega arith)) (λ m. member_links_outside ws t (link_of s b x) (outside_source t s b x (omega (arith, things)))) (cases_lt s (64 + n)))
        (cases_lt s start))
    next_column (Some m) None P h q f = absurd q
    next_column (Some m) (Some s) P h q f =
        let e = f m s q in
        let d : s - start ≡ m = omega (arith, e) in
        (omega (arith, e), column_bit s (omega (arith, e)) (omega (arith, e, h.1)) ∙ ap (λ v. bit_on ws (first + v * (16 * (64 + n)))) d ∙ h.2, λ r l k. ⊎_elim (λ j. column_none r l j) (λ j. column_bit r j (omega (arith, e, k, h.1)) ∙ h.3 (r - start) (omega arith) (omega (arith, e, k, j))) (cases_lt r start))
