-- The links whose bits are on: members, and one bit switched.
use Rattle.std.proofs.Common.{◌≡◌, ℕ, ◌*◌, ◌/◌, ◌%◌, ◌^◌, ◌<◌, ◌≤◌, true, false, eqb, List, [], ◌++◌, length, get_or, set, replicate, ap, ◌∙◌, subst, arith}
use native.Mathlib.Nat.{zero-div}
use Rattle.std.proofs.Math.ListN.{get_or-append}
use Rattle.std.proofs.lemmas.List.{get_or-replicate, length-replicate}
use Rattle.links.specs.declared.link.Link.{Link}
use Rattle.links.specs.Sets.{member, inserted, removed, inside, all_inside, rising}
use Rattle.bit_store.specs.Places.{place, link_at, places, bit_on, links_in}
use Rattle.bit_store.proofs.Passing.{member_passing, rising_passing, passing_on, passing_off, passing_none, all_inside_passing}
use Rattle.links.proofs.Inside.{member_outside}
use Rattle.bit_store.proofs.Digits.{bit_on_written, bit_on_kept}
use Rattle.bit_store.proofs.Placing.{place_below, link_at_place, inside_link_at, link_at_rises}

pub bit_cleared : (ws : List ℕ) (b : ℕ) → get_or ws (b / 32) 0 ≡ 0 → bit_on ws b ≡ false
unfolding bit_on
bit_cleared ws b z = ap (λ (x : ℕ). eqb (x / 2 ^ (b % 32) % 2) 1) z ∙ ap (λ (x : ℕ). eqb (x % 2) 1) (zero-div (2 ^ (b % 32)))

-- words that begin with as many zeros as the bits reach
pub links_cleared : (zs ws : List ℕ) (t n : ℕ) → zs ≡ replicate n 0 → places t ≤ 32 * n → links_in (zs ++ ws) t ≡ []
links_cleared zs ws t n z h =
    let l = length-replicate {A = ℕ} n 0 in
    let read : (k : ℕ) → k < n → get_or (zs ++ ws) k 0 ≡ 0 = λ k m. ap (λ v. get_or (v ++ ws) k 0) z ∙ get_or-append (replicate n 0) ws 0 k (omega (arith, l)) ∙ get_or-replicate n k 0 0 m in
    passing_none (link_at t) (link_at_rises t) (bit_on (zs ++ ws)) 0 (places t) (λ i m. bit_cleared (zs ++ ws) i (read (i / 32) (omega arith)))

pub rising_links : (ws : List ℕ) (t : ℕ) → rising (links_in ws t) ≡ true
rising_links ws t = rising_passing (link_at t) (link_at_rises t) (bit_on ws) 0 (places t)

pub inside_links : (ws : List ℕ) (t : ℕ) → all_inside t (links_in ws t) ≡ true
inside_links ws t = all_inside_passing (link_at t) t (bit_on ws) 0 (places t) (λ i h. inside_link_at t i (omega arith))

module _ (ws : List ℕ) (t : ℕ) (l : Link) where
  pub member_links : inside t l ≡ true → member l (links_in ws t) ≡ bit_on ws (place t l)
  member_links h =
      subst (λ (x : Link). member x (links_in ws t) ≡ bit_on ws (place t l)) (link_at_place t l h)
      (member_passing (link_at t) (link_at_rises t) (bit_on ws) (place t l) 0 (places t) (omega arith) (let b = place_below t l h in omega arith))

  pub member_links_outside : inside t l ≡ false → member l (links_in ws t) ≡ false
  member_links_outside h = member_outside t l (links_in ws t) h (inside_links ws t)

  module _ (b v : ℕ) (h : inside t l ≡ true) (at : b ≡ place t l) (in' : b / 32 < length ws) (others : (j : ℕ) → (j ≡ b % 32 → ⊥) → v / 2 ^ j % 2 ≡ get_or ws (b / 32) 0 / 2 ^ j % 2) where
    pub links_on : bit_on ws b ≡ false → v / 2 ^ (b % 32) % 2 ≡ 1 → links_in (set ws (b / 32) v) t ≡ inserted l (links_in ws t)
    links_on off on =
        subst (λ (x : Link). links_in (set ws (b / 32) v) t ≡ inserted x (links_in ws t)) (ap (link_at t) at ∙ link_at_place t l h)
        (passing_on (link_at t) (link_at_rises t) (bit_on ws) (bit_on (set ws (b / 32) v)) b 0 (places t) (omega arith) (let p = place_below t l h in omega arith) off (bit_on_written ws b v in' ∙ ap (λ (x : ℕ). eqb x 1) on) (λ i ne. bit_on_kept ws b v i in' others ne))

    pub links_off : bit_on ws b ≡ true → v / 2 ^ (b % 32) % 2 ≡ 0 → links_in (set ws (b / 32) v) t ≡ removed l (links_in ws t)
    links_off on off =
        subst (λ (x : Link). links_in (set ws (b / 32) v) t ≡ removed x (links_in ws t)) (ap (link_at t) at ∙ link_at_place t l h)
        (passing_off (link_at t) (link_at_rises t) (bit_on ws) (bit_on (set ws (b / 32) v)) b 0 (places t) (omega arith) (let p = place_below t l h in omega arith) on (bit_on_written ws b v in' ∙ ap (λ (x : ℕ). eqb x 1) off) (λ i ne. bit_on_kept ws b v i in' others ne))
