-- a fold that takes the same step a number of times
use Rattle.std.proofs.Common.{◌≡◌, ℕ, ◌+◌, ◌≤◌, List, length, Some, None, Option, MatchOption, inl, inr, subst, sym, arith}
use mathlib.Core.Logic.{◌⊎◌}
use Rattle.std.proofs.iter.Yields.{nat_range_steps}
use Rattle.std.proofs.lemmas.Fn.{fold_over}
use Rattle.std.proofs.lemmas.List.{length_push}
use Rattle.std.proofs.lemmas.List.FromFn.{length-range_with_len}
use Rattle.std.proofs.lemmas.Iterator.{YieldsList-from_range}
use Rattle.std.specs.Fn.{Called}
use Rattle.std.specs.Iterator.{Drains}
use Rattle.std.specs.List.{FoldsTo, range_with_len}
use Rattle.std.specs.declared.ops.Range.{Range}
use denote.Param.Members.{Mut}

-- what holds at the start and is kept by each step holds at the end
pub after_steps : {F C : Type 0} (g : Mut F (C × (ℕ × Unit {0})) C) (Here : ℕ → C → Type 0) (f : F) → ((n : ℕ) (a : C) (x : ℕ) (b : C) (f' : F) → Here n a → Called g f (a, (x, tt)) b f' → Here (n + 1) b × (f' ≡ f)) → (s : Range ℕ) (i : ℕ) (a r : C) → s ≡ record { start = 0; end = i } → Here 0 a → (xs : List ℕ) × (f' : F) × Drains nat_range_steps s xs × FoldsTo {P = F × C} (λ p x q. Called g p.0 (p.1, (x, tt)) q.1 q.0) (f, a) xs (f', r) → Here i r
after_steps g Here f step s i a r e h ran =
    let k = fold_over nat_range_steps (λ x. x) g (λ ys z. Here (length ys) z) f
    (λ ys y x b f' j c. let p = step (length ys) y x b f' j c in (subst (λ n. Here n b) (sym (length_push ys x)) p.0, p.1))
    s (range_with_len 0 i) a r (YieldsList-from_range 0 i i e (omega arith)).runs h ran in
    subst (λ n. Here n r) (length-range_with_len 0 i) k

-- one turn of `map_while` over a range: the next number, and what the closure answered at it
module _ {F B : Type 0} (g : Mut F (ℕ × Unit {0}) (Option B)) (s t : Range ℕ) (f f' : F) where
  some_cases : (b : B) (o : Option ℕ) → nat_range_steps s o t → MatchOption o ((Some b ≡ None) × (f' ≡ f)) (λ x. Called g f (x, tt) (Some b) f') → (t.end ≡ s.end) × (t.start ≡ s.start + 1) × Called g f (s.start, tt) (Some b) f'
  some_cases b None p q = let e = q.0 in let z : ◌≡◌ {A = ℕ} 0 1 = cc in absurd (omega arith)
  some_cases b (Some x) p q = (p.0, p.1.2, subst (λ z. Called g f (z, tt) (Some b) f') p.1.1 q)

  pub some_turn : (b : B) → (o : Option ℕ) × nat_range_steps s o t × MatchOption o ((Some b ≡ None) × (f' ≡ f)) (λ x. Called g f (x, tt) (Some b) f') → (t.end ≡ s.end) × (t.start ≡ s.start + 1) × Called g f (s.start, tt) (Some b) f'
  some_turn b e = some_cases b e.0 e.1 e.2

  none_cases : (o : Option ℕ) → nat_range_steps s o t → MatchOption o ((◌≡◌ {A = Option B} None None) × (f' ≡ f)) (λ x. Called g f (x, tt) None f') → (s.end ≤ s.start) ⊎ Called g f (s.start, tt) None f'
  none_cases None p q = let n = p.1.0 in inl (omega arith)
  none_cases (Some x) p q = inr (subst (λ z. Called g f (z, tt) None f') p.1.1 q)

  pub none_turn : (o : Option ℕ) × nat_range_steps s o t × MatchOption o ((◌≡◌ {A = Option B} None None) × (f' ≡ f)) (λ x. Called g f (x, tt) None f') → (s.end ≤ s.start) ⊎ Called g f (s.start, tt) None f'
  none_turn e = none_cases e.0 e.1 e.2
