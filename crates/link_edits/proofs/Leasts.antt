-- The smallest number that passes a test, by what is known of parts of the test.
use Rattle.std.proofs.Common.{◌≡◌, ℕ, ◌+◌, ◌<◌, ◌≤◌, Bool, true, false, ◌&&◌, ◌||◌, ltb, Some, None, Option, sym, refl, ap, ◌∙◌, ⊎_elim, arith}
use Rattle.std.proofs.lemmas.Bool.{cond_both, or_from, or_left, or_right, cases_lt, ltb-true, ltb-false, and_from, and_left, cases_Bool}
use Rattle.links.specs.Answers.{Least}
use Rattle.link_edits.specs.Adjacencies.{smaller}

pub least_same : (p q : ℕ → Bool) (f : ℕ) (o : Option ℕ) → ((t : ℕ) → p t ≡ q t) → Least p f o → Least q f o
least_same p q f None h n = λ t l. sym (h t) ∙ n t l
least_same p q f (Some k) h n = (n.0, sym (h k) ∙ n.1, λ t l m. sym (h t) ∙ n.2 t l m)

pub least_or : (p q : ℕ → Bool) (f : ℕ) (a b : Option ℕ) → Least p f a → Least q f b → Least (λ t. p t || q t) f (smaller a b)
least_or p q f None None m n = λ t l. or_from (p t) (q t) (m t l) (n t l)
least_or p q f None (Some b) m n = (n.0, or_right (p b) (q b) n.1, λ t l k. or_from (p t) (q t) (m t l) (n.2 t l k))
least_or p q f (Some a) None m n = (m.0, or_left (p a) (q a) m.1, λ t l k. or_from (p t) (q t) (m.2 t l k) (n t l))
least_or p q f (Some a) (Some b) m n =
    cond_both (ltb a b) a b (λ v. Least (λ t. p t || q t) f (Some v))
    (λ e. (m.0, or_left (p a) (q a) m.1, λ t l k. or_from (p t) (q t) (m.2 t l k) (n.2 t l (omega (arith, ltb-true a b e)))))
    (λ e. (n.0, or_right (p b) (q b) n.1, λ t l k. or_from (p t) (q t) (m.2 t l (omega (arith, ltb-false a b e))) (n.2 t l k)))

-- a search that has passed those below `at`, and finds one that passes the further test
pub least_found : (p q : ℕ → Bool) (f at k : ℕ) → f ≤ at → ((t : ℕ) → f ≤ t → t < at → (q t && p t) ≡ false) → Least p at (Some k) → q k ≡ true → Least (λ t. q t && p t) f (Some k)
least_found p q f at k l low n e =
    (omega (arith, n.0), and_from (q k) (p k) e n.1, λ t a b. ⊎_elim (λ c. low t a c) (λ c. right (q t) (p t) (n.2 t c b)) (cases_lt t at))
  where
    right : (x y : Bool) → y ≡ false → (x && y) ≡ false
    right true y h = h
    right false y h = refl

pub least_none : (p q : ℕ → Bool) (f at : ℕ) → ((t : ℕ) → f ≤ t → t < at → (q t && p t) ≡ false) → Least p at None → Least (λ t. q t && p t) f None
least_none p q f at low n = λ t a. ⊎_elim (λ c. low t a c) (λ c. right (q t) (p t) (n t c)) (cases_lt t at)
  where
    right : (x y : Bool) → y ≡ false → (x && y) ≡ false
    right true y h = h
    right false y h = refl

-- one more passed
pub least_passed : (p q : ℕ → Bool) (f at k : ℕ) → ((t : ℕ) → f ≤ t → t < at → (q t && p t) ≡ false) → Least p at (Some k) → q k ≡ false → (t : ℕ) → f ≤ t → t < k + 1 → (q t && p t) ≡ false
least_passed p q f at k low n e t a b =
    ⊎_elim (λ c. low t a c)
    (λ c. ⊎_elim (λ d. right (q t) (p t) (n.2 t c d)) (λ d. let s : t ≡ k = omega arith in and_left (q t) (p t) (ap q s ∙ e)) (cases_lt t k))
    (cases_lt t at)
  where
    right : (x y : Bool) → y ≡ false → (x && y) ≡ false
    right true y h = h
    right false y h = refl

-- one number alone
pub least_only : (p : ℕ → Bool) (f k : ℕ) → f ≤ k → p k ≡ true → ((t : ℕ) → p t ≡ true → t ≡ k) → Least p f (Some k)
least_only p f k l e h = (l, e, λ t a b. ⊎_elim (λ c. absurd (omega (arith, h t c))) (λ c. c) (cases_Bool (p t)))
