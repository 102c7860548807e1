-- Reading a number byte by byte, whatever a byte adds.
use Rattle.std.proofs.Common.{◌≡◌, ℕ, List, [], ◌∷◌, Some, None, Option, MatchOption, sym, refl, ap, ◌∙◌}
use Rattle.std.proofs.Math.Path.{subst}
use Rattle.std.proofs.lemmas.Iterator.{YieldsList}
use Rattle.std.specs.Fn.{Called, Mut}
use Rattle.std.specs.Iterator.{AlwaysYields, YieldsThen}
use Rattle.std.specs.List.{FoldsTo}
use Rattle.commands.specs.Words.{read_from}

none_from : (step : ℕ → ℕ → Option ℕ) (bs : List ℕ) → read_from step None bs ≡ None
none_from step [] = refl
none_from step (b ∷ bs) = refl

-- a turn of `try_fold` that goes on, and what its last turn gives
abbrev Turn : {F A : Type 0} → Mut F (ℕ × (A × Unit {0})) (Option ℕ) → F × ℕ → A → F × ℕ → Type 0
Turn g p x q = (o : Option ℕ) × Called g p.0 (p.1, (x, tt)) o q.0 × (o ≡ Some q.1)

abbrev End : {F A : Type 0} (E : Type 0) → Mut F (ℕ × (A × Unit {0})) (Option ℕ) → Option ℕ → F → ℕ → Option A → Type 0
End {F} E g r j a o = MatchOption o (r ≡ Some a) (λ x. (w : Option ℕ) × (h : F) × (e : E) × Called g j (a, (x, tt)) w h × (w ≡ None) × (r ≡ None))

-- where each call of a closure answers what the step does, `try_fold` reads
module _ {S A F : Type 0} (steps : S → Option A → S → Type 0) (v : A → ℕ) {g : Mut F (ℕ × (A × Unit {0})) (Option ℕ)} (E : Type 0) (step : ℕ → ℕ → Option ℕ) (f : F)
    (k : (a : ℕ) (x : A) (o : Option ℕ) (q : F) → Called g f (a, (x, tt)) o q → (q ≡ f) × (o ≡ step a (v x))) where
  reads : (s u : S) (bs : List ℕ) (a : ℕ) (r : Option ℕ) (xs : List A) (o : Option A) (j : F) (b : ℕ) → AlwaysYields steps v s bs → YieldsThen steps s xs o u → FoldsTo {P = F × ℕ} (Turn g) (f, a) xs (j, b) → End E g r j b o → r ≡ read_from step (Some a) bs
  reads s u [] a r [] None j b y t c e = e ∙ sym (ap (λ (p : F × ℕ). Some p.1) c)
  reads s u (z ∷ zs) a r [] None j b y t c e = absurd (y.0 u (subst (λ i. steps i None u) (sym t.1) t.2))
  reads s u [] a r [] (Some x) j b y t c e = absurd (y x u (subst (λ i. steps i (Some x) u) (sym t.1) t.2))
  reads s u (z ∷ zs) a r [] (Some x) j b y t c e =
      let m = y.1 x u (subst (λ i. steps i (Some x) u) (sym t.1) t.2) in
      let call : Called g f (a, (x, tt)) e.0 e.1 = subst (λ (p : F × ℕ). Called g p.0 (p.1, (x, tt)) e.0 e.1) (sym c) e.3 in
      e.5 ∙ sym (none_from step zs) ∙ ap (λ q. read_from step q zs) (sym e.4 ∙ (k a x e.0 e.1 call).1 ∙ ap (step a) m.0)
  reads s u [] a r (x ∷ xs) o j b y t c e = absurd (y x t.1.0 t.1.1)
  reads s u (z ∷ zs) a r (x ∷ xs) o j b y t c e =
      let m = y.1 x t.1.0 t.1.1 in
      let done = k a x c.1.0 c.0.0 c.1.1 in
      let after = subst (λ (p : F × ℕ). FoldsTo {P = F × ℕ} (Turn g) p xs (j, b)) {x = c.0} {y = (f, c.0.1)} (λ i. (done.0 i, c.0.1)) c.2 in
      reads t.1.0 u zs c.0.1 r xs o j b m.1 (t.0, t.1.2, t.2) after e ∙ ap (λ q. read_from step q zs) (sym c.1.2 ∙ done.1 ∙ ap (step a) m.0)

  pub read_by_try_fold : (s u : S) (bs : List ℕ) (a : ℕ) (r : Option ℕ)
      → (xs : List A) × (o : Option A) × (j : F) × (b : ℕ) × YieldsThen steps s xs o u × FoldsTo {P = F × ℕ} (Turn g) (f, a) xs (j, b) × End E g r j b o
      → YieldsList steps v s bs → r ≡ read_from step (Some a) bs
  read_by_try_fold s u bs a r d e = reads s u bs a r d.0 d.1 d.2 d.3 e.runs d.4 d.5 d.6
