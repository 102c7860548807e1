-- What passes a test, as a list of links in order: its members, and a test changed at one place.
use Rattle.std.proofs.Common.{◌≡◌, ℕ, zero, suc, ◌+◌, ◌<◌, ◌≤◌, Bool, true, false, cond, ◌||◌, [], ◌∷◌, sym, refl, ap, ◌∙◌, subst, ⊎_elim, arith}
use Rattle.std.proofs.lemmas.Bool.{cond_both, cond-true, cond-false, and_from, or_left, cases_eq}
use Rattle.std.proofs.lemmas.Bool.Decides.{nat_tests}
use Rattle.ordered.specs.Order.{leads, same}
use Rattle.ordered.proofs.Laws.{same_refl, same_after, without_none}
use Rattle.ordered.proofs.Members.{leads_lacks}
use Rattle.links.specs.declared.link.Link.{Link}
use Rattle.links.specs.Sets.{link_before, member, inserted, removed, rising, inside, all_inside}
use Rattle.links.specs.Order.{link_order}
use Rattle.bit_store.specs.Places.{passing}

not_back : (x y : Link) → link_before x y ≡ true → link_before y x ≡ false
not_back x y h = grind (arith, nat_tests)

module _ (f : ℕ → Link) (rise : (i j : ℕ) → i < j → link_before (f i) (f j) ≡ true) where
  leads_passing : (p : ℕ → Bool) (b k n : ℕ) → b < k → leads link_before (f b) (passing p f k n) ≡ true
  leads_passing p b k zero h = refl
  leads_passing p b k (suc n) h =
      cond_both (p k) (f k ∷ passing p f (k + 1) n) (passing p f (k + 1) n) (λ xs. leads link_before (f b) xs ≡ true)
      (λ _. and_from (link_before (f b) (f k)) (leads link_before (f b) (passing p f (k + 1) n)) (rise b k h) (leads_passing p b (k + 1) n (omega arith)))
      (λ _. leads_passing p b (k + 1) n (omega arith))

  -- what lies below is no member
  member_below : (p : ℕ → Bool) (b k n : ℕ) → b < k → member (f b) (passing p f k n) ≡ false
  member_below p b k n h = leads_lacks link_before link_order (f b) (passing p f k n) (leads_passing p b k n h)

  pub rising_passing : (p : ℕ → Bool) (k n : ℕ) → rising (passing p f k n) ≡ true
  rising_passing p k zero = refl
  rising_passing p k (suc n) =
      cond_both (p k) (f k ∷ passing p f (k + 1) n) (passing p f (k + 1) n) (λ xs. rising xs ≡ true)
      (λ _. and_from (leads link_before (f k) (passing p f (k + 1) n)) (rising (passing p f (k + 1) n)) (leads_passing p k (k + 1) n (omega arith)) (rising_passing p (k + 1) n))
      (λ _. rising_passing p (k + 1) n)

  pub member_passing : (p : ℕ → Bool) (b k n : ℕ) → k ≤ b → b < k + n → member (f b) (passing p f k n) ≡ p b
  member_passing p b k zero h l = absurd (omega arith)
  member_passing p b k (suc n) h l =
      ⊎_elim
      (λ e. let P : ℕ → Type 0 = λ j. member (f b) (passing p f j (suc n)) ≡ p b in subst P e
      (cond_both (p b) (f b ∷ passing p f (b + 1) n) (passing p f (b + 1) n) (λ xs. member (f b) xs ≡ p b)
      (λ t. or_left (same link_before (f b) (f b)) (member (f b) (passing p f (b + 1) n)) (same_refl link_before link_order (f b)) ∙ sym t)
      (λ t. member_below p b (b + 1) n (omega arith) ∙ sym t)))
      (λ ne. let r = member_passing p b (k + 1) n (omega arith) (omega arith) in
      cond_both (p k) (f k ∷ passing p f (k + 1) n) (passing p f (k + 1) n) (λ xs. member (f b) xs ≡ p b)
      (λ _. ap (λ v. v || member (f b) (passing p f (k + 1) n)) (same_after link_before (f b) (f k) (rise k b (omega arith))) ∙ r)
      (λ _. r))
      (cases_eq b k)

  -- what comes before all is put in front
  inserted_front : (p : ℕ → Bool) (b k n : ℕ) → b < k → inserted (f b) (passing p f k n) ≡ f b ∷ passing p f k n
  inserted_front p b k zero h = refl
  inserted_front p b k (suc n) h =
      cond_both (p k) (f k ∷ passing p f (k + 1) n) (passing p f (k + 1) n) (λ xs. inserted (f b) xs ≡ f b ∷ xs)
      (λ _. cond-false (link_before (f k) (f b)) (f k ∷ inserted (f b) (passing p f (k + 1) n)) (f b ∷ f k ∷ passing p f (k + 1) n) (not_back (f b) (f k) (rise b k h)))
      (λ _. inserted_front p b (k + 1) n (omega arith))

  -- tests that agree from k on
  passing_alike : (p q : ℕ → Bool) (k n : ℕ) → ((i : ℕ) → k ≤ i → q i ≡ p i) → passing q f k n ≡ passing p f k n
  passing_alike p q k zero h = refl
  passing_alike p q k (suc n) h = rw (h k (omega arith), passing_alike p q (k + 1) n (λ i l. h i (omega arith)))

  -- one more place passes
  pub passing_on : (p q : ℕ → Bool) (b k n : ℕ) → k ≤ b → b < k + n → p b ≡ false → q b ≡ true → ((i : ℕ) → (i ≡ b → ⊥) → q i ≡ p i) → passing q f k n ≡ inserted (f b) (passing p f k n)
  passing_on p q b k zero h l s t a = absurd (omega arith)
  passing_on p q b k (suc n) h l s t a =
      ⊎_elim
      (λ e. let P : ℕ → Type 0 = λ j. passing q f j (suc n) ≡ inserted (f b) (passing p f j (suc n)) in subst P e
      (rw (s, t) (ap (λ xs. f b ∷ xs) (passing_alike p q (b + 1) n (λ i m. a i (omega arith))) ∙ sym (inserted_front p b (b + 1) n (omega arith)))))
      (λ ne. let r = passing_on p q b (k + 1) n (omega arith) (omega arith) s t a in
      rw (a k (omega arith))
      (elim (p k) as (λ v. cond v (f k ∷ passing q f (k + 1) n) (passing q f (k + 1) n) ≡ inserted (f b) (cond v (f k ∷ passing p f (k + 1) n) (passing p f (k + 1) n))) [
        | true ↦ ap (λ xs. f k ∷ xs) r ∙ sym (cond-true (link_before (f k) (f b)) (f k ∷ inserted (f b) (passing p f (k + 1) n)) (f b ∷ f k ∷ passing p f (k + 1) n) (rise k b (omega arith)))
        | false ↦ r
      ]))
      (cases_eq b k)

  -- one place fewer passes
  pub passing_off : (p q : ℕ → Bool) (b k n : ℕ) → k ≤ b → b < k + n → p b ≡ true → q b ≡ false → ((i : ℕ) → (i ≡ b → ⊥) → q i ≡ p i) → passing q f k n ≡ removed (f b) (passing p f k n)
  passing_off p q b k zero h l s t a = absurd (omega arith)
  passing_off p q b k (suc n) h l s t a =
      ⊎_elim
      (λ e. let P : ℕ → Type 0 = λ j. passing q f j (suc n) ≡ removed (f b) (passing p f j (suc n)) in subst P e
      (rw (s, t)
      (passing_alike p q (b + 1) n (λ i m. a i (omega arith))
      ∙ sym (without_none link_before (f b) (passing p f (b + 1) n) (member_below p b (b + 1) n (omega arith)))
      ∙ sym (cond-true (same link_before (f b) (f b)) (removed (f b) (passing p f (b + 1) n)) (f b ∷ removed (f b) (passing p f (b + 1) n)) (same_refl link_before link_order (f b))))))
      (λ ne. let r = passing_off p q b (k + 1) n (omega arith) (omega arith) s t a in
      rw (a k (omega arith))
      (elim (p k) as (λ v. cond v (f k ∷ passing q f (k + 1) n) (passing q f (k + 1) n) ≡ removed (f b) (cond v (f k ∷ passing p f (k + 1) n) (passing p f (k + 1) n))) [
        | true ↦ ap (λ xs. f k ∷ xs) r ∙ sym (cond-false (same link_before (f b) (f k)) (removed (f b) (passing p f (k + 1) n)) (f k ∷ removed (f b) (passing p f (k + 1) n)) (same_after link_before (f b) (f k) (rise k b (omega arith))))
        | false ↦ r
      ]))
      (cases_eq b k)

  pub passing_none : (p : ℕ → Bool) (k n : ℕ) → ((i : ℕ) → i < k + n → p i ≡ false) → passing p f k n ≡ []
  passing_none p k zero h = refl
  passing_none p k (suc n) h = rw (h k (omega arith)) (passing_none p (k + 1) n (λ i l. h i (omega arith)))

-- each that passes has what each place has
pub all_inside_passing : (f : ℕ → Link) (t : ℕ) (p : ℕ → Bool) (k n : ℕ) → ((i : ℕ) → i < k + n → inside t (f i) ≡ true) → all_inside t (passing p f k n) ≡ true
all_inside_passing f t p k zero h = refl
all_inside_passing f t p k (suc n) h =
    let r = all_inside_passing f t p (k + 1) n (λ i l. h i (omega arith)) in
    cond_both (p k) (f k ∷ passing p f (k + 1) n) (passing p f (k + 1) n) (λ xs. all_inside t xs ≡ true)
    (λ _. and_from (inside t (f k)) (all_inside t (passing p f (k + 1) n)) (h k (omega arith)) r)
    (λ _. r)
