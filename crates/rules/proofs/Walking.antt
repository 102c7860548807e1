-- going over words that are written one element of a list after another
use Rattle.std.proofs.Common.{◌≡◌, ℕ, zero, suc, ◌+◌, ◌-◌, ◌<◌, ◌≤◌, List, [], ◌∷◌, ◌++◌, length, get_or, take, drop, sym, refl, ap, ◌∙◌, subst, append_assoc, append-nil, arith, length-append, length-drop}
use Rattle.std.proofs.lemmas.List.{drop_more, take_more, take_all, drop_all}
use Rattle.rules.proofs.WordKinds.{past_at}

-- what holds of each element with those after it
abbrev pub Suffixes : {X : Type 0} → (X → List X → Type 0) → List X → Type 0
Suffixes P [] = Unit {0}
Suffixes P (x ∷ xs) = P x xs × Suffixes P xs

pub suffix_at : {X : Type 0} (P : X → List X → Type 0) (xs : List X) (k : ℕ) (y : X) (ys : List X) → Suffixes P xs → drop k xs ≡ y ∷ ys → P y ys
suffix_at P [] zero y ys s e = let z : ◌≡◌ {A = ℕ} 0 1 = cc in absurd (omega arith)
suffix_at P [] (suc k) y ys s e = let z : ◌≡◌ {A = ℕ} 0 1 = cc in absurd (omega arith)
suffix_at P (x ∷ xs) zero y ys s e = let a : x ≡ y = cc in let b : xs ≡ ys = cc in subst (λ z. P z ys) a (subst (P x) b s.0)
suffix_at P (x ∷ xs) (suc k) y ys s e = suffix_at P xs k y ys s.1 e

-- the element at a place, from what is left there
pub record Split {X : Type 0} (xs : List X) (k : ℕ) (x : X) (ys : List X) : Type 0 where
  pub below : k < length xs
  pub after : drop (k + 1) xs ≡ ys
  pub before : take (k + 1) xs ≡ take k xs ++ x ∷ []

pub split : {X : Type 0} (xs : List X) (k : ℕ) (x : X) (ys : List X) → drop k xs ≡ x ∷ ys → Split xs k x ys
split xs k x ys e =
    let n : length xs - k ≡ length (x ∷ ys) = sym (length-drop k xs) ∙ ap length e in
    let h : k < length xs = omega arith in
    let d : drop k xs ≡ get_or xs k x ∷ drop (k + 1) xs = drop_more xs k x h in
    let a : get_or xs k x ≡ x = cc in
    let b : drop (k + 1) xs ≡ ys = cc in
    record { below = h; after = b; before = take_more xs k x h ∙ ap (λ z. take k xs ++ z ∷ []) a }

pub past : {X : Type 0} (xs : List X) (k : ℕ) → drop k xs ≡ [] → length xs ≤ k
past xs k e = let n : length xs - k ≡ 0 = sym (length-drop k xs) ∙ ap length e in omega arith

module _ {X : Type 0} (f : X → List ℕ) (J : List X → List ℕ) (none : J [] ≡ []) (more : (x : X) (xs : List X) → J (x ∷ xs) ≡ f x ++ J xs) where
  pub joined_push : (xs : List X) (x : X) → J (xs ++ x ∷ []) ≡ J xs ++ f x
  joined_push [] x = more x [] ∙ ap (λ z. f x ++ z) none ∙ append-nil (f x) ∙ ap (λ z. z ++ f x) (sym none)
  joined_push (y ∷ ys) x = more y (ys ++ x ∷ []) ∙ ap (λ z. f y ++ z) (joined_push ys x) ∙ sym (append_assoc (f y) (J ys) (f x)) ∙ ap (λ z. z ++ f x) (sym (more y ys))

  -- `at` is where element k of xs begins in ws, `start` where the first does
  pub record Reached (ws tail : List ℕ) (start : ℕ) (xs : List X) (k at : ℕ) : Type 0 where
    pub place : at ≡ start + length (J (take k xs))
    pub rest : drop at ws ≡ J (drop k xs) ++ tail

  pub reached_first : (ws tail : List ℕ) (start : ℕ) (xs : List X) → drop start ws ≡ J xs ++ tail → Reached ws tail start xs 0 start
  reached_first ws tail start xs e = let n : length (J []) ≡ 0 = ap length none in record { place = omega arith; rest = e }

  module _ (ws tail : List ℕ) (start : ℕ) (xs : List X) (k at next : ℕ) (r : Reached ws tail start xs k at) where
    pub reached_element : (x : X) (ys : List X) → drop k xs ≡ x ∷ ys → drop at ws ≡ f x ++ (J ys ++ tail)
    reached_element x ys e = r.rest ∙ ap (λ z. J z ++ tail) e ∙ ap (λ z. z ++ tail) (more x ys) ∙ append_assoc (f x) (J ys) tail

    reached_cases : (l : List X) → drop k xs ≡ l → ((x : X) (ys : List X) → drop k xs ≡ x ∷ ys → next ≡ at + length (f x)) → (drop k xs ≡ [] → next ≡ at) → Reached ws tail start xs (k + 1) next
    reached_cases [] e g h =
        let p = past xs k e in
        let n : next ≡ at = h e in
        let t : take (k + 1) xs ≡ take k xs = take_all (k + 1) xs (omega arith) ∙ sym (take_all k xs p) in
        let d : drop (k + 1) xs ≡ drop k xs = drop_all (k + 1) xs (omega arith) ∙ sym e in
        record { place = n ∙ r.place ∙ ap (λ z. start + length (J z)) (sym t); rest = ap (λ z. drop z ws) n ∙ r.rest ∙ ap (λ z. J z ++ tail) (sym d) }
    reached_cases (x ∷ ys) e g h =
        let s = split xs k x ys e in
        let n : next ≡ at + length (f x) = g x ys e in
        let l : length (J (take k xs ++ x ∷ [])) ≡ length (J (take k xs)) + length (f x) = ap length (joined_push (take k xs) x) ∙ length-append (J (take k xs)) (f x) in
        let q : length (J (take (k + 1) xs)) ≡ length (J (take k xs ++ x ∷ [])) = ap (λ z. length (J z)) s.before in
        let o = r.place in
        record { place = omega arith; rest = ap (λ z. drop z ws) n ∙ past_at ws at (f x) (J ys ++ tail) (reached_element x ys e) ∙ ap (λ z. J z ++ tail) (sym s.after) }

    pub reached_more : ((x : X) (ys : List X) → drop k xs ≡ x ∷ ys → next ≡ at + length (f x)) → (drop k xs ≡ [] → next ≡ at) → Reached ws tail start xs (k + 1) next
    reached_more g h = reached_cases (drop k xs) refl g h
