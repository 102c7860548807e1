-- What a turn of a part of a slice leaves at its front.
use Rattle.std.proofs.Common.{◌≡◌, ℕ, suc, ◌+◌, ◌-◌, ◌<◌, ◌≤◌, Bool, true, List, [], ◌∷◌, ◌++◌, length, take, drop, set, sym, ap, ◌∙◌, subst, append_assoc, add-one, arith}
use borrow.Rule.Slice.PartMut.{put_mid, post_of}
use Rattle.ordered.specs.Order.{KeyOrder}
use Rattle.ordered.specs.Order.{ascending, rank, has, placed, without}
use Rattle.ordered.proofs.Laws.{placed_at, without_at}
use Rattle.std.proofs.lemmas.List.{take-take, length-take-le, length-drop, length-append, length-set, length_push, take_at, drop_at, take_more_set, drop-append-le, take-set-le, drop-drop}
use Rattle.std.proofs.lemmas.Slice.{between_is, take-put_mid}

-- x written at len, and the part from `at` to there turned right by one
pub turned_in : {X : Type 0} (s : List X) (at len : ℕ) (x : X) (r : List X) → at ≤ len → len < length s
    → (let p = take (len + 1 - at) (drop at (set s len x)) in r ≡ drop (length p - 1) p ++ take (length p - 1) p)
    → take (len + 1) (put_mid at (len + 1 - at) (set s len x) r) ≡ take at s ++ x ∷ drop at (take len s)
turned_in {X} s at len x r l m h =
    let n : length (take len s) ≡ len = length-take-le len s (omega arith) in
    let q : List X = drop at (take len s) in
    let nq : length q ≡ len - at = length-drop at (take len s) ∙ ap (λ v. v - at) n in
    let e : take (len + 1 - at) (drop at (set s len x)) ≡ q ++ x ∷ [] =
    between_is (set s len x) at (len + 1) ∙ ap (drop at) (take_more_set s len x m) ∙ drop-append-le at (take len s) (x ∷ []) (omega arith) in
    let k : length (q ++ x ∷ []) - 1 ≡ len - at = omega (arith, length_push q x) in
    let turned : r ≡ x ∷ q =
    subst (λ p. r ≡ drop (length p - 1) p ++ take (length p - 1) p) e h
    ∙ ap (λ v. drop v (q ++ x ∷ []) ++ take v (q ++ x ∷ [])) k
    ∙ ap (λ v. v ++ take (len - at) (q ++ x ∷ [])) (drop_at q (x ∷ []) (len - at) nq)
    ∙ ap (λ v. x ∷ v) (take_at q (x ∷ []) (len - at) nq) in
    let nr : length r ≡ len - at + 1 = ap length turned ∙ omega arith in
    take-put_mid at (len + 1 - at) (set s len x) r (len + 1) (omega arith) (omega (arith, length-set s len x))
    ∙ ap (λ v. v ++ r) (take-set-le at s len x l)
    ∙ ap (λ v. take at s ++ v) turned

-- the part from `at` to len turned left by one
pub turned_out : {X : Type 0} (s : List X) (at len : ℕ) (r : List X) → at < len → len ≤ length s
    → (let p = take (len - at) (drop at s) in r ≡ drop 1 p ++ take 1 p)
    → take (len - 1) (put_mid at (len - at) s r) ≡ take at s ++ drop (at + 1) (take len s)
turned_out {X} s at len r l m h =
    let n : length (take len s) ≡ len = length-take-le len s m in
    let p : List X = take (len - at) (drop at s) in
    let q : List X = drop (at + 1) (take len s) in
    let e : drop 1 p ≡ q = ap (drop 1) (between_is s at len) ∙ drop-drop 1 at (take len s) in
    let nq : length q ≡ len - (at + 1) = length-drop (at + 1) (take len s) ∙ ap (λ v. v - (at + 1)) n in
    let rest : List X = take 1 p ++ post_of at (len - at) s in
    let split : put_mid at (len - at) s r ≡ (take at s ++ q) ++ rest =
    ap (λ v. take at s ++ (v ++ post_of at (len - at) s)) (h ∙ ap (λ v. v ++ take 1 p) e) ∙ simp append_assoc in
    ap (take (len - 1)) split ∙ take_at (take at s ++ q) rest (len - 1) (length-append (take at s) q ∙ omega (arith, length-take-le at s (omega arith)))

-- a record put in at its rank is the list with that record in its place
pub inserted_is : {K : Type 0} (b : K → K → Bool) (x : K) (s t : List K) (at len : ℕ) → at ≤ len → at ≡ rank b x (take len s) → take (len + 1) t ≡ take at s ++ x ∷ drop at (take len s) → take (len + 1) t ≡ placed b x (take len s)
inserted_is b x s t at len l q e =
    e
    ∙ ap (λ v. v ++ x ∷ drop at (take len s)) (sym (take-take at len s l))
    ∙ ap (λ v. take v (take len s) ++ x ∷ drop v (take len s)) q
    ∙ sym (placed_at b x (take len s))

-- and taken out at its rank, where it is there, the list without it
pub removed_is : {K : Type 0} (b : K → K → Bool) (o : KeyOrder b) (x : K) (s t : List K) (at len : ℕ) → at < len → at ≡ rank b x (take len s) → ascending b (take len s) ≡ true → has b x (take len s) ≡ true → take (len - 1) t ≡ take at s ++ drop (at + 1) (take len s) → take (len - 1) t ≡ without b x (take len s)
removed_is b o x s t at len l q h m e =
    e
    ∙ ap (λ v. v ++ drop (at + 1) (take len s)) (sym (take-take at len s (omega arith)))
    ∙ ap (λ v. take at (take len s) ++ drop v (take len s)) (add-one at)
    ∙ ap (λ v. take v (take len s) ++ drop (suc v) (take len s)) q
    ∙ sym (without_at b o x (take len s) h m)
