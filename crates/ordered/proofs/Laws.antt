-- What the strict order of a test gives of a list in that order.
use Rattle.std.proofs.Common.{◌≡◌, ℕ, zero, suc, ◌<◌, ◌≤◌, Bool, true, false, cond, not, ◌||◌, List, [], ◌∷◌, ◌++◌, length, get_or, take, drop, Some, None, Option, sym, refl, ap, ◌∙◌, subst, ⊎_elim, arith, MatchOption}
use Rattle.std.proofs.lemmas.Bool.{cond_both, or_parts, or_from, and_parts, and_from, or_cases, or_left, or_right, both_ways, cases_Bool, not-true, not_from_true, not_from_false, cond-true, cond-false, and_left, and_right}
use Rattle.ordered.specs.Order.{KeyOrder, Exact}
use Rattle.ordered.specs.Order.{leads, ascending, same, has, lookup, placed, without, rank}

pub iff_bool : (p q : Bool) → (p ≡ true → q ≡ true) → (q ≡ true → p ≡ true) → p ≡ q
iff_bool true q f g = sym (f refl)
iff_bool false true f g = g refl
iff_bool false false f g = refl

-- x before the list is x before what stands at each place
pub leads_at : {K : Type 0} (b : K → K → Bool) (x : K) (ys : List K) (k : ℕ) (d : K) → leads b x ys ≡ true → k < length ys → b x (get_or ys k d) ≡ true
leads_at b x [] k d h l = absurd (omega arith)
leads_at b x (y ∷ ys) zero d h l = (and_parts (b x y) (leads b x ys) h).0
leads_at b x (y ∷ ys) (suc k) d h l = leads_at b x ys k d (and_parts (b x y) (leads b x ys) h).1 (omega arith)

pub ascending_at : {K : Type 0} (b : K → K → Bool) (xs : List K) (i j : ℕ) (d : K) → ascending b xs ≡ true → i < j → j < length xs → b (get_or xs i d) (get_or xs j d) ≡ true
ascending_at b [] i j d h l m = absurd (omega arith)
ascending_at b (x ∷ xs) zero zero d h l m = absurd (omega arith)
ascending_at b (x ∷ xs) zero (suc j) d h l m = leads_at b x xs j d (and_parts (leads b x xs) (ascending b xs) h).0 (omega arith)
ascending_at b (x ∷ xs) (suc i) zero d h l m = absurd (omega arith)
ascending_at b (x ∷ xs) (suc i) (suc j) d h l m = ascending_at b xs i j d (and_parts (leads b x xs) (ascending b xs) h).1 (omega arith) (omega arith)

-- the rank, from what stands below it and at it
pub rank_is : {K : Type 0} (b : K → K → Bool) (x : K) (xs : List K) (r : ℕ) → r ≤ length xs → ((k : ℕ) (d : K) → k < r → b (get_or xs k d) x ≡ true) → ((d : K) → r < length xs → b (get_or xs r d) x ≡ false) → r ≡ rank b x xs
rank_is b x [] r l f g = omega arith
rank_is b x (y ∷ ys) zero l f g = sym (cond-false (b y x) (suc (rank b x ys)) zero (g y (omega arith)))
rank_is b x (y ∷ ys) (suc r) l f g =
    ap suc (rank_is b x ys r (omega arith) (λ k d h. f (suc k) d (omega arith)) (λ d h. g d (omega arith)))
    ∙ sym (cond-true (b y x) (suc (rank b x ys)) zero (f zero y (omega arith)))

module _ {K : Type 0} (b : K → K → Bool) (o : KeyOrder b) where
  pub same_refl : (x : K) → same b x x ≡ true
  same_refl x = and_from (not (b x x)) (not (b x x)) (not_from_false (b x x) (o.irreflexive x)) (not_from_false (b x x) (o.irreflexive x))

  pub same_is : Exact b → (x y : K) → same b x y ≡ true → x ≡ y
  same_is t x y h = let p = and_parts (not (b x y)) (not (b y x)) h in t x y (not-true (b x y) p.0) (not-true (b y x) p.1)

  -- one key has one place
  pub same_alike : (x y z : K) → same b x y ≡ true → (b x z ≡ b y z) × (b z x ≡ b z y)
  same_alike x y z h = let p = and_parts (not (b x y)) (not (b y x)) h in o.alike x y z (not-true (b x y) p.0) (not-true (b y x) p.1)

  -- what comes before a list comes before what it holds
  pub leads_has : (x z : K) (ys : List K) → leads b x ys ≡ true → has b z ys ≡ true → b x z ≡ true
  leads_has x z [] h m = absurd (both_ways false refl m)
  leads_has x z (y ∷ ys) h m =
      let p = and_parts (b x y) (leads b x ys) h in
      ⊎_elim (λ s. (same_alike z y x s).1 ∙ p.0) (λ t. leads_has x z ys p.1 t) (or_cases (same b z y) (has b z ys) m)

  -- before is not the same
  pub apart : (x z : K) → b x z ≡ true → same b z x ≡ false
  apart x z h = and_right (not (b z x)) (not (b x z)) (not_from_true (b x z) h)

  -- two lists in order with the same members are equal
  pub same_members : Exact b → (xs ys : List K) → ascending b xs ≡ true → ascending b ys ≡ true → ((x : K) → has b x xs ≡ has b x ys) → xs ≡ ys
  same_members t' [] [] p q h = refl
  same_members t' [] (y ∷ ys) p q h = absurd (both_ways false refl (h y ∙ or_left (same b y y) (has b y ys) (same_refl y)))
  same_members t' (x ∷ xs) [] p q h = absurd (both_ways false refl (sym (h x) ∙ or_left (same b x x) (has b x xs) (same_refl x)))
  same_members t' (x ∷ xs) (y ∷ ys) p q h =
      let px = and_parts (leads b x xs) (ascending b xs) p in
      let qy = and_parts (leads b y ys) (ascending b ys) q in
      let inx : has b x (y ∷ ys) ≡ true = sym (h x) ∙ or_left (same b x x) (has b x xs) (same_refl x) in
      let iny : has b y (x ∷ xs) ≡ true = h y ∙ or_left (same b y y) (has b y ys) (same_refl y) in
      let e : x ≡ y = ⊎_elim (λ s. same_is t' x y s) (λ t. ⊎_elim (λ s. sym (same_is t' y x s)) (λ u. absurd (both_ways (b x x) (o.irreflexive x) (o.transitive x y x (leads_has x y xs px.0 u) (leads_has y x ys qy.0 t)))) (or_cases (same b y x) (has b y xs) iny)) (or_cases (same b x y) (has b x ys) inx) in
      let tails : (z : K) → has b z xs ≡ has b z ys = λ z. iff_bool (has b z xs) (has b z ys)
      (λ t. held z y ys (sym (h z) ∙ or_right (same b z x) (has b z xs) t) (subst (λ v. b v z ≡ true) e (leads_has x z xs px.0 t)))
      (λ t. held z x xs (h z ∙ or_right (same b z y) (has b z ys) t) (subst (λ v. b v z ≡ true) (sym e) (leads_has y z ys qy.0 t))) in
      subst (λ v. x ∷ xs ≡ v ∷ ys) e (ap (λ l. x ∷ l) (same_members t' xs ys px.1 qy.1 tails))
    where
      held : (z y : K) (ys : List K) → has b z (y ∷ ys) ≡ true → b y z ≡ true → has b z ys ≡ true
      held z y ys m l = ⊎_elim (λ s. absurd (both_ways (same b z y) (apart y z l) s)) (λ t. t) (or_cases (same b z y) (has b z ys) m)

-- the list with x in its place, by that place
pub placed_at : {K : Type 0} (b : K → K → Bool) (x : K) (xs : List K) → placed b x xs ≡ take (rank b x xs) xs ++ x ∷ drop (rank b x xs) xs
placed_at b x [] = refl
placed_at b x (y ∷ ys) =
    elim (b y x) as (λ t. cond t (y ∷ placed b x ys) (x ∷ y ∷ ys) ≡ take (cond t (suc (rank b x ys)) zero) (y ∷ ys) ++ x ∷ drop (cond t (suc (rank b x ys)) zero) (y ∷ ys)) [ true ↦ ap (λ l. y ∷ l) (placed_at b x ys) | false ↦ refl ]

pub same_after : {K : Type 0} (b : K → K → Bool) (x y : K) → b y x ≡ true → same b x y ≡ false
same_after b x y h = and_right (not (b x y)) (not (b y x)) (not_from_true (b y x) h)

pub same_before : {K : Type 0} (b : K → K → Bool) (x y : K) → b x y ≡ true → same b x y ≡ false
same_before b x y h = and_left (not (b x y)) (not (b y x)) (not_from_true (b x y) h)

-- where all come before x, the list does not hold it
pub has_past : {K : Type 0} (b : K → K → Bool) (x : K) (xs : List K) → rank b x xs ≡ length xs → has b x xs ≡ false
has_past b x [] h = refl
has_past b x (y ∷ ys) h =
    ⊎_elim
    (λ t. let e : suc (rank b x ys) ≡ suc (length ys) = sym (cond-true (b y x) (suc (rank b x ys)) zero t) ∙ h in
    or_from (same b x y) (has b x ys) (same_after b x y t) (has_past b x ys (omega arith)))
    (λ f. let e : zero ≡ suc (length ys) = sym (cond-false (b y x) (suc (rank b x ys)) zero f) ∙ h in absurd (omega arith))
    (cases_Bool (b y x))

pub without_none : {K : Type 0} (b : K → K → Bool) (x : K) (xs : List K) → has b x xs ≡ false → without b x xs ≡ xs
without_none b x [] h = refl
without_none b x (y ∷ ys) h =
    let p = or_parts (same b x y) (has b x ys) h in
    cond-false (same b x y) (without b x ys) (y ∷ without b x ys) p.0 ∙ ap (λ l. y ∷ l) (without_none b x ys p.1)

pub leads_without : {K : Type 0} (b : K → K → Bool) (y x : K) (xs : List K) → leads b y xs ≡ true → leads b y (without b x xs) ≡ true
leads_without b y x [] h = refl
leads_without b y x (z ∷ zs) h =
    let p = and_parts (b y z) (leads b y zs) h in
    let k = leads_without b y x zs p.1 in
    cond_both (same b x z) (without b x zs) (z ∷ without b x zs) (λ l. leads b y l ≡ true) (λ _. k) (λ _. and_from (b y z) (leads b y (without b x zs)) p.0 k)

pub ascending_without : {K : Type 0} (b : K → K → Bool) (x : K) (xs : List K) → ascending b xs ≡ true → ascending b (without b x xs) ≡ true
ascending_without b x [] h = refl
ascending_without b x (z ∷ zs) h =
    let p = and_parts (leads b z zs) (ascending b zs) h in
    let k = ascending_without b x zs p.1 in
    cond_both (same b x z) (without b x zs) (z ∷ without b x zs) (λ l. ascending b l ≡ true) (λ _. k) (λ _. and_from (leads b z (without b x zs)) (ascending b (without b x zs)) (leads_without b z x zs p.0) k)

module _ {K : Type 0} (b : K → K → Bool) (o : KeyOrder b) where
  -- whether the list holds x, by what stands at x's place
  pub has_at : (x e : K) (xs : List K) → ascending b xs ≡ true → rank b x xs < length xs → e ≡ get_or xs (rank b x xs) e → has b x xs ≡ not (b x e)
  has_at x e [] h l r = absurd (omega arith)
  has_at x e (y ∷ ys) h l r =
      let p = and_parts (leads b y ys) (ascending b ys) h in
      ⊎_elim
      (λ t. let q : rank b x (y ∷ ys) ≡ suc (rank b x ys) = cond-true (b y x) (suc (rank b x ys)) zero t in
      ap (λ v. v || has b x ys) (same_after b x y t)
      ∙ has_at x e ys p.1 (omega (arith, q)) (subst (λ v. e ≡ get_or (y ∷ ys) v e) q r))
      (λ f. let q : rank b x (y ∷ ys) ≡ zero = cond-false (b y x) (suc (rank b x ys)) zero f in
      let i : e ≡ y = subst (λ v. e ≡ get_or (y ∷ ys) v e) q r in
      let none : has b x ys ≡ false = ⊎_elim (λ u. absurd (both_ways (b y x) f (leads_has b o y x ys p.0 u))) (λ u. u) (cases_Bool (has b x ys)) in
      subst (λ v. has b x (y ∷ ys) ≡ not (b x v)) (sym i)
      (⊎_elim
      (λ u. or_from (same b x y) (has b x ys) (same_before b x y u) none ∙ sym (not_from_true (b x y) u))
      (λ u. or_left (same b x y) (has b x ys) (and_from (not (b x y)) (not (b y x)) (not_from_false (b x y) u) (not_from_false (b y x) f)) ∙ sym (not_from_false (b x y) u))
      (cases_Bool (b x y))))
      (cases_Bool (b y x))

  pub without_at : (x : K) (xs : List K) → ascending b xs ≡ true → has b x xs ≡ true → without b x xs ≡ take (rank b x xs) xs ++ drop (suc (rank b x xs)) xs
  without_at x [] h m = absurd (both_ways false refl m)
  without_at x (y ∷ ys) h m =
      let p = and_parts (leads b y ys) (ascending b ys) h in
      ⊎_elim
      (λ t. let q : rank b x (y ∷ ys) ≡ suc (rank b x ys) = cond-true (b y x) (suc (rank b x ys)) zero t in
      let s : same b x y ≡ false = same_after b x y t in
      let k : has b x ys ≡ true = ⊎_elim (λ u. absurd (both_ways (same b x y) s u)) (λ u. u) (or_cases (same b x y) (has b x ys) m) in
      subst (λ v. without b x (y ∷ ys) ≡ take v (y ∷ ys) ++ drop (suc v) (y ∷ ys)) (sym q)
      (cond-false (same b x y) (without b x ys) (y ∷ without b x ys) s ∙ ap (λ l. y ∷ l) (without_at x ys p.1 k)))
      (λ f. let q : rank b x (y ∷ ys) ≡ zero = cond-false (b y x) (suc (rank b x ys)) zero f in
      let none : has b x ys ≡ false = ⊎_elim (λ u. absurd (both_ways (b y x) f (leads_has b o y x ys p.0 u))) (λ u. u) (cases_Bool (has b x ys)) in
      let s : same b x y ≡ true = ⊎_elim (λ u. u) (λ u. absurd (both_ways (has b x ys) none u)) (or_cases (same b x y) (has b x ys) m) in
      subst (λ v. without b x (y ∷ ys) ≡ take v (y ∷ ys) ++ drop (suc v) (y ∷ ys)) (sym q)
      (cond-true (same b x y) (without b x ys) (y ∷ without b x ys) s ∙ without_none b x ys none))
      (cases_Bool (b y x))

  pub leads_trans : (x y : K) (ys : List K) → b x y ≡ true → leads b y ys ≡ true → leads b x ys ≡ true
  leads_trans x y [] l h = refl
  leads_trans x y (z ∷ zs) l h =
      let p = and_parts (b y z) (leads b y zs) h in
      and_from (b x z) (leads b x zs) (o.transitive x y z l p.0) (leads_trans x y zs l p.1)

  pub leads_placed : (y x : K) (xs : List K) → leads b y xs ≡ true → b y x ≡ true → leads b y (placed b x xs) ≡ true
  leads_placed y x [] h l = and_from (b y x) true l refl
  leads_placed y x (z ∷ zs) h l =
      let p = and_parts (b y z) (leads b y zs) h in
      cond_both (b z x) (z ∷ placed b x zs) (x ∷ z ∷ zs) (λ v. leads b y v ≡ true)
      (λ _. and_from (b y z) (leads b y (placed b x zs)) p.0 (leads_placed y x zs p.1 l))
      (λ _. and_from (b y x) (leads b y (z ∷ zs)) l h)

  pub ascending_placed : (x : K) (xs : List K) → ascending b xs ≡ true → has b x xs ≡ false → ascending b (placed b x xs) ≡ true
  ascending_placed x [] h m = refl
  ascending_placed x (y ∷ ys) h m =
      let p = and_parts (leads b y ys) (ascending b ys) h in
      let q = or_parts (same b x y) (has b x ys) m in
      cond_both (b y x) (y ∷ placed b x ys) (x ∷ y ∷ ys) (λ v. ascending b v ≡ true)
      (λ t. and_from (leads b y (placed b x ys)) (ascending b (placed b x ys)) (leads_placed y x ys p.0 t) (ascending_placed x ys p.1 q.1))
      (λ f. let l : b x y ≡ true = ⊎_elim (λ u. u) (λ u. absurd (both_ways (same b x y) q.0 (and_from (not (b x y)) (not (b y x)) (not_from_false (b x y) u) (not_from_false (b y x) f)))) (cases_Bool (b x y)) in
      and_from (leads b x (y ∷ ys)) (ascending b (y ∷ ys)) (and_from (b x y) (leads b x ys) l (leads_trans x y ys l p.0)) h)

  pub found_at : (x e : K) (xs : List K) (r : ℕ) (t : Bool) → ascending b xs ≡ true → r ≡ rank b x xs → r < length xs → e ≡ get_or xs r e → t ≡ b x e → has b x xs ≡ not t
  found_at x e xs r t h q l i u = has_at x e xs h (subst (λ v. v < length xs) q l) (subst (λ v. e ≡ get_or xs v e) q i) ∙ ap not (sym u)

  -- what comes before a list is not in it
  pub lookup_leads : (x : K) (ys : List K) → leads b x ys ≡ true → lookup b x ys ≡ None
  lookup_leads x [] h = refl
  lookup_leads x (y ∷ ys) h =
      let p = and_parts (b x y) (leads b x ys) h in
      cond-false (same b x y) (Some y) (lookup b x ys) (same_before b x y p.0) ∙ lookup_leads x ys p.1

  leads_alike : (z x : K) (ys : List K) → same b z x ≡ true → leads b x ys ≡ true → leads b z ys ≡ true
  leads_alike z x [] s h = refl
  leads_alike z x (y ∷ ys) s h =
      let p = and_parts (b x y) (leads b x ys) h in
      and_from (b z y) (leads b z ys) ((same_alike b o z x y s).0 ∙ p.0) (leads_alike z x ys s p.1)

  -- one head less
  lookup_tail : (x : K) (xs ys : List K) → leads b x xs ≡ true → leads b x ys ≡ true → ((z : K) → lookup b z (x ∷ xs) ≡ lookup b z (x ∷ ys)) → (z : K) → lookup b z xs ≡ lookup b z ys
  lookup_tail x xs ys p q h z =
      ⊎_elim
      (λ s. lookup_leads z xs (leads_alike z x xs s p) ∙ sym (lookup_leads z ys (leads_alike z x ys s q)))
      (λ s. sym (cond-false (same b z x) (Some x) (lookup b z xs) s) ∙ h z ∙ cond-false (same b z x) (Some x) (lookup b z ys) s)
      (cases_Bool (same b z x))

  lookup_head : (x : K) (xs : List K) → lookup b x (x ∷ xs) ≡ Some x
  lookup_head x xs = cond-true (same b x x) (Some x) (lookup b x xs) (same_refl b o x)

  some_none : (x : K) → Some x ≡ None → ⊥
  some_none x e = let z : ◌≡◌ {A = ℕ} 0 1 = cc in omega arith

  -- two lists in order with the same record at each key are equal
  pub same_lookups : (xs ys : List K) → ascending b xs ≡ true → ascending b ys ≡ true → ((x : K) → lookup b x xs ≡ lookup b x ys) → xs ≡ ys
  same_lookups [] [] p q h = refl
  same_lookups [] (y ∷ ys) p q h = absurd (some_none y (sym (lookup_head y ys) ∙ sym (h y)))
  same_lookups (x ∷ xs) [] p q h = absurd (some_none x (sym (lookup_head x xs) ∙ h x))
  same_lookups (x ∷ xs) (y ∷ ys) p q h =
      let px = and_parts (leads b x xs) (ascending b xs) p in
      let qy = and_parts (leads b y ys) (ascending b ys) q in
      let e : x ≡ y =
      ⊎_elim
      (λ t. absurd (some_none x (sym (lookup_head x xs) ∙ h x ∙ lookup_leads x (y ∷ ys) (and_from (b x y) (leads b x ys) t (leads_trans x y ys t qy.0)))))
      (λ f. ⊎_elim
      (λ t. absurd (some_none y (sym (lookup_head y ys) ∙ sym (h y) ∙ lookup_leads y (x ∷ xs) (and_from (b y x) (leads b y xs) t (leads_trans y x xs t px.0)))))
      (λ g. let s : Some x ≡ Some y = sym (lookup_head x xs) ∙ h x ∙ cond-true (same b x y) (Some y) (lookup b x ys) (and_from (not (b x y)) (not (b y x)) (not_from_false (b x y) f) (not_from_false (b y x) g)) in cc)
      (cases_Bool (b y x)))
      (cases_Bool (b x y)) in
      let ends : (z : K) → lookup b z xs ≡ lookup b z ys = lookup_tail x xs ys px.0 (subst (λ v. leads b v ys ≡ true) (sym e) qy.0) (λ z. h z ∙ ap (λ v. lookup b z (v ∷ ys)) (sym e)) in
      subst (λ v. x ∷ xs ≡ v ∷ ys) e (ap (λ l. x ∷ l) (same_lookups xs ys px.1 qy.1 ends))

  pub lookup_none : (x : K) (xs : List K) → has b x xs ≡ false → lookup b x xs ≡ None
  lookup_none x [] h = refl
  lookup_none x (y ∷ ys) h = let p = or_parts (same b x y) (has b x ys) h in cond-false (same b x y) (Some y) (lookup b x ys) p.0 ∙ lookup_none x ys p.1

  pub lookup_rank : (x d : K) (xs : List K) → ascending b xs ≡ true → has b x xs ≡ true → lookup b x xs ≡ Some (get_or xs (rank b x xs) d)
  lookup_rank x d [] h m = absurd (both_ways false refl m)
  lookup_rank x d (y ∷ ys) h m =
      let p = and_parts (leads b y ys) (ascending b ys) h in
      ⊎_elim
      (λ t. let q : rank b x (y ∷ ys) ≡ suc (rank b x ys) = cond-true (b y x) (suc (rank b x ys)) zero t in
      let s : same b x y ≡ false = same_after b x y t in
      let k : has b x ys ≡ true = ⊎_elim (λ u. absurd (both_ways (same b x y) s u)) (λ u. u) (or_cases (same b x y) (has b x ys) m) in
      subst (λ v. lookup b x (y ∷ ys) ≡ Some (get_or (y ∷ ys) v d)) (sym q) (cond-false (same b x y) (Some y) (lookup b x ys) s ∙ lookup_rank x d ys p.1 k))
      (λ f. let q : rank b x (y ∷ ys) ≡ zero = cond-false (b y x) (suc (rank b x ys)) zero f in
      let none : has b x ys ≡ false = ⊎_elim (λ u. absurd (both_ways (b y x) f (leads_has b o y x ys p.0 u))) (λ u. u) (cases_Bool (has b x ys)) in
      let s : same b x y ≡ true = ⊎_elim (λ u. u) (λ u. absurd (both_ways (has b x ys) none u)) (or_cases (same b x y) (has b x ys) m) in
      subst (λ v. lookup b x (y ∷ ys) ≡ Some (get_or (y ∷ ys) v d)) (sym q) (cond-true (same b x y) (Some y) (lookup b x ys) s))
      (cases_Bool (b y x))

  -- what is read at x's place is the record with x's key
  pub found_record : (x : K) (xs : List K) (at : ℕ) (r : Option K) → ascending b xs ≡ true → has b x xs ≡ true → at ≡ rank b x xs → at < length xs → MatchOption r (length xs ≤ at) (λ y. (at < length xs) × ((d : K) → y ≡ get_or xs at d)) → r ≡ lookup b x xs
  found_record x xs at None h m q l c = absurd (omega arith)
  found_record x xs at (Some y) h m q l c = ap (λ v. Some v) (c.1 y ∙ ap (λ v. get_or xs v y) q) ∙ sym (lookup_rank x y xs h m)
