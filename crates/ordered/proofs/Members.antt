-- What a list has after a record is put in or taken out, how long it is then, and what it has past a place.
use Rattle.std.proofs.Common.{◌≡◌, ℕ, zero, suc, ◌+◌, ◌<◌, Bool, true, false, not, ◌&&◌, ◌||◌, List, [], ◌∷◌, length, get_or, Some, None, sym, refl, ap, ◌∙◌, subst, ⊎_elim, arith}
use Rattle.std.proofs.lemmas.Bool.{cond_both, cond-true, cond-false, or_from, or_left, or_right, or_cases, and_parts, both_ways, cases_Bool}
use Rattle.ordered.specs.Order.{KeyOrder, leads, ascending, same, has, lookup, placed, without, rank}
use Rattle.ordered.proofs.Laws.{same_refl, same_alike, same_before, same_after, leads_has, leads_trans, without_none}

or_swap : (a b c : Bool) → (a || (b || c)) ≡ (b || (a || c))
or_swap true true c = refl
or_swap true false c = refl
or_swap false b c = refl

and_none : (a : Bool) → (a && false) ≡ false
and_none true = refl
and_none false = refl

or_and : (s t h : Bool) → (t ≡ true → s ≡ false) → (t || (not s && h)) ≡ (not s && (t || h))
or_and true true h k = absurd (both_ways true (k refl) refl)
or_and true false h k = refl
or_and false true h k = refl
or_and false false h k = refl

gone : (s t h : Bool) → t ≡ s → (not s && h) ≡ (not s && (t || h))
gone true t h e = refl
gone false true h e = absurd (both_ways true e refl)
gone false false h e = refl

pub has_placed : {K : Type 0} (b : K → K → Bool) (z x : K) (xs : List K) → has b z (placed b x xs) ≡ (same b z x || has b z xs)
has_placed b z x [] = refl
has_placed b z x (y ∷ ys) =
    cond_both (b y x) (y ∷ placed b x ys) (x ∷ y ∷ ys) (λ v. has b z v ≡ (same b z x || (same b z y || has b z ys)))
    (λ _. ap (λ v. same b z y || v) (has_placed b z x ys) ∙ or_swap (same b z y) (same b z x) (has b z ys))
    (λ _. refl)

pub length_placed : {K : Type 0} (b : K → K → Bool) (x : K) (xs : List K) → length (placed b x xs) ≡ length xs + 1
length_placed b x [] = refl
length_placed b x (y ∷ ys) =
    cond_both (b y x) (y ∷ placed b x ys) (x ∷ y ∷ ys) (λ v. length v ≡ length (y ∷ ys) + 1)
    (λ _. omega (arith, length_placed b x ys))
    (λ _. omega arith)

-- a key that is found is there, and one that is not found is not
pub lookup_found : {K : Type 0} (b : K → K → Bool) (x y : K) (xs : List K) → Some y ≡ lookup b x xs → has b x xs ≡ true
lookup_found b x y [] h = absurd (let z : ◌≡◌ {A = ℕ} 0 1 = cc in omega arith)
lookup_found b x y (z ∷ zs) h =
    ⊎_elim
    (λ s. or_left (same b x z) (has b x zs) s)
    (λ s. or_right (same b x z) (has b x zs) (lookup_found b x y zs (h ∙ cond-false (same b x z) (Some z) (lookup b x zs) s)))
    (cases_Bool (same b x z))

pub lookup_missed : {K : Type 0} (b : K → K → Bool) (x : K) (xs : List K) → None ≡ lookup b x xs → has b x xs ≡ false
lookup_missed b x [] h = refl
lookup_missed b x (z ∷ zs) h =
    ⊎_elim
    (λ s. absurd (let e : None ≡ Some z = h ∙ cond-true (same b x z) (Some z) (lookup b x zs) s in let q : ◌≡◌ {A = ℕ} 0 1 = cc in omega arith))
    (λ s. or_from (same b x z) (has b x zs) s (lookup_missed b x zs (h ∙ cond-false (same b x z) (Some z) (lookup b x zs) s)))
    (cases_Bool (same b x z))

module _ {K : Type 0} (b : K → K → Bool) (o : KeyOrder b) where
  -- a record of x's key is to z as x is
  pub same_through : (x y z : K) → same b x y ≡ true → same b z y ≡ same b z x
  same_through x y z s = let p = same_alike b o x y z s in ap (λ v. not v && not (b y z)) (sym p.1) ∙ ap (λ v. not (b z x) && not v) (sym p.0)

  pub same_turn : (x y : K) → same b x y ≡ true → same b y x ≡ true
  same_turn x y s = sym (same_through x y y s) ∙ same_refl b o y

  pub has_without : (z x : K) (xs : List K) → has b z (without b x xs) ≡ (not (same b z x) && has b z xs)
  has_without z x [] = sym (and_none (not (same b z x)))
  has_without z x (y ∷ ys) =
      cond_both (same b x y) (without b x ys) (y ∷ without b x ys) (λ v. has b z v ≡ (not (same b z x) && (same b z y || has b z ys)))
      (λ s. has_without z x ys ∙ gone (same b z x) (same b z y) (has b z ys) (same_through x y z s))
      (λ s. ap (λ v. same b z y || v) (has_without z x ys)
      ∙ or_and (same b z x) (same b z y) (has b z ys)
      (λ t. ⊎_elim (λ u. absurd (both_ways (same b x y) s (same_through z y x t ∙ same_turn z x u))) (λ u. u) (cases_Bool (same b z x))))

  -- what comes before all of a list is not in it
  pub leads_lacks : (x : K) (ys : List K) → leads b x ys ≡ true → has b x ys ≡ false
  leads_lacks x [] h = refl
  leads_lacks x (y ∷ ys) h =
      let p = and_parts (b x y) (leads b x ys) h in
      or_from (same b x y) (has b x ys) (same_before b x y p.0) (leads_lacks x ys p.1)

  pub length_without : (x : K) (xs : List K) → ascending b xs ≡ true → has b x xs ≡ true → length (without b x xs) + 1 ≡ length xs
  length_without x [] h m = absurd (both_ways false refl m)
  length_without x (y ∷ ys) h m =
      let p = and_parts (leads b y ys) (ascending b ys) h in
      cond_both (same b x y) (without b x ys) (y ∷ without b x ys) (λ v. length v + 1 ≡ length (y ∷ ys))
      (λ s. let none : has b x ys ≡ false = ⊎_elim (λ u. absurd (both_ways (same b x y) (same_after b x y (leads_has b o y x ys p.0 u)) s)) (λ u. u) (cases_Bool (has b x ys)) in
      let e = ap length (without_none b x ys none) in omega arith)
      (λ s. let r = length_without x ys p.1 (⊎_elim (λ t. absurd (both_ways (same b x y) s t)) (λ t. t) (or_cases (same b x y) (has b x ys) m)) in omega arith)

  module _ (x y : K) (past : b y x ≡ false) where
    apart_below : (z : K) → b z x ≡ true → same b y z ≡ false
    apart_below z t = ⊎_elim (λ s. absurd (both_ways (b y x) past ((same_alike b o y z x s).0 ∙ t))) (λ s. s) (cases_Bool (same b y z))

    -- where all of the list come before x, it has nothing from x on
    pub none_past : (xs : List K) → rank b x xs ≡ length xs → has b y xs ≡ false
    none_past [] h = refl
    none_past (z ∷ zs) h =
        ⊎_elim
        (λ t. let e : suc (rank b x zs) ≡ suc (length zs) = sym (cond-true (b z x) (suc (rank b x zs)) zero t) ∙ h in
        or_from (same b y z) (has b y zs) (apart_below z t) (none_past zs (omega arith)))
        (λ f. let e : zero ≡ suc (length zs) = sym (cond-false (b z x) (suc (rank b x zs)) zero f) ∙ h in absurd (omega arith))
        (cases_Bool (b z x))

    -- and nothing from x on that comes before the record e at x's place
    pub none_between : (e : K) (xs : List K) → ascending b xs ≡ true → rank b x xs < length xs → e ≡ get_or xs (rank b x xs) e → b y e ≡ true → has b y xs ≡ false
    none_between e [] h l r m = refl
    none_between e (z ∷ zs) h l r m =
        let p = and_parts (leads b z zs) (ascending b zs) h in
        ⊎_elim
        (λ t. let q : rank b x (z ∷ zs) ≡ suc (rank b x zs) = cond-true (b z x) (suc (rank b x zs)) zero t in
        or_from (same b y z) (has b y zs) (apart_below z t) (none_between e zs p.1 (omega (arith, q)) (subst (λ v. e ≡ get_or (z ∷ zs) v e) q r) m))
        (λ f. let q : rank b x (z ∷ zs) ≡ zero = cond-false (b z x) (suc (rank b x zs)) zero f in
        let i : e ≡ z = subst (λ v. e ≡ get_or (z ∷ zs) v e) q r in
        let k : b y z ≡ true = subst (λ v. b y v ≡ true) i m in
        or_from (same b y z) (has b y zs) (same_before b y z k) (leads_lacks y zs (leads_trans b o y z zs k p.0)))
        (cases_Bool (b z x))

  -- what stands at a place of the list is in it
  pub has_get_d : (x : K) (xs : List K) (k : ℕ) → k < length xs → has b (get_or xs k x) xs ≡ true
  has_get_d x [] k l = absurd (omega arith)
  has_get_d x (y ∷ ys) zero l = or_left (same b y y) (has b y ys) (same_refl b o y)
  has_get_d x (y ∷ ys) (suc k) l = or_right (same b (get_or ys k x) y) (has b (get_or ys k x) ys) (has_get_d x ys k (omega arith))

  -- what stands at x's place does not come before x
  pub rank_past : (x e : K) (xs : List K) → rank b x xs < length xs → e ≡ get_or xs (rank b x xs) e → b e x ≡ false
  rank_past x e [] l r = absurd (omega arith)
  rank_past x e (z ∷ zs) l r =
      ⊎_elim
      (λ t. let q : rank b x (z ∷ zs) ≡ suc (rank b x zs) = cond-true (b z x) (suc (rank b x zs)) zero t in
      rank_past x e zs (omega (arith, q)) (subst (λ v. e ≡ get_or (z ∷ zs) v e) q r))
      (λ f. let q : rank b x (z ∷ zs) ≡ zero = cond-false (b z x) (suc (rank b x zs)) zero f in
      subst (λ v. b v x ≡ false) (sym (subst (λ v. e ≡ get_or (z ∷ zs) v e) q r)) f)
      (cases_Bool (b z x))
