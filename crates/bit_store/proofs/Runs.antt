-- The next target from the next bit of a run.
use Rattle.std.proofs.Common.{◌≡◌, ℕ, ◌+◌, ◌-◌, ◌*◌, ◌<◌, ◌≤◌, true, false, List, Some, None, Option, MatchOption, ap, ◌∙◌, subst, ⊎_elim, arith}
use Rattle.std.proofs.lemmas.Nat.{mul-le}
use Rattle.std.proofs.lemmas.Bool.{cases_lt}
use Rattle.std.specs.Option.{IsSomeAnd}
use Rattle.links.specs.Sets.{member, inside, link_of}
use Rattle.links.specs.Answers.{Least}
use Rattle.bit_store.specs.Places.{place, places, bit_on, links_in, LeastBelow}
use Rattle.bit_store.proofs.Kept.{member_links, member_links_outside}
use Rattle.bit_store.proofs.Placing.{place_run, target_below, inside_run, outside_run}
use Rattle.links.proofs.Inside.{outside_target}

pub places_few : (t : ℕ) → t ≤ 448 → places t ≤ 3670016
places_few t h = omega (arith, mul-le (t * 16) (64 + t) 7168 512 (omega arith) (omega arith))

module _ (ws : List ℕ) (t s b from : ℕ) where
  pub next_outside : inside t (link_of s b from) ≡ false → Least (λ x. member (link_of s b x) (links_in ws t)) from None
  next_outside h x l = member_links_outside ws t (link_of s b x) (outside_run t s b from x h l)

  module _ (p : ℕ) (at : p ≡ place t (link_of s b from)) (h : inside t (link_of s b from) ≡ true) where
    member_at : (x y : ℕ) → x < 64 + t → p + x ≡ y + from → member (link_of s b x) (links_in ws t) ≡ bit_on ws y
    member_at x y l e =
        member_links ws t (link_of s b x) (inside_run t s b from x h l) ∙ ap (bit_on ws) (let r = place_run t s b from x in omega arith)

    next_none : LeastBelow (bit_on ws) p (p - from + 64 + t) None → Least (λ x. member (link_of s b x) (links_in ws t)) from None
    next_none k x l =
        let f = target_below t s b from in
        ⊎_elim (λ m. member_at x (p + x - from) m (omega arith) ∙ k (p + x - from) (omega arith) (omega arith))
        (λ m. member_links_outside ws t (link_of s b x) (outside_target t s b x m))
        (cases_lt x (64 + t))

    next_some : (n : ℕ) → LeastBelow (bit_on ws) p (p - from + 64 + t) (Some n) → Least (λ x. member (link_of s b x) (links_in ws t)) from (Some (n - (p - from)))
    next_some n k =
        let f = target_below t s b from in
        let i = k.0 in let j = k.1 in
        (omega arith, member_at (n - (p - from)) n (omega arith) (omega arith) ∙ k.2, λ x l m. member_at x (p + x - from) (omega arith) (omega arith) ∙ k.3 (p + x - from) (omega arith) (omega arith))

    -- what the next target is, by the next bit
    pub next_run : (e : ℕ) (o r : Option ℕ) (P : ℕ → ℕ → Type 0) → e ≡ p - from + 64 + t → LeastBelow (bit_on ws) p e o → MatchOption o (r ≡ None) (λ n. IsSomeAnd r (P n)) → ((n x : ℕ) → P n x → x ≡ n - (p - from)) → Least (λ x. member (link_of s b x) (links_in ws t)) from r
    next_run e None r P q k h i = rw h (next_none (subst (λ v. LeastBelow (bit_on ws) p v None) q k))
    next_run e (Some n) None P q k h i = absurd h
    next_run e (Some n) (Some x) P q k h i = rw (i n x h) (next_some n (subst (λ v. LeastBelow (bit_on ws) p v (Some n)) q k))
