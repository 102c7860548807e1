-- One link of a bit store switched.
use Rattle.std.proofs.Common.{◌≡◌, ℕ, ◌+◌, ◌-◌, ◌/◌, ◌%◌, ◌^◌, ◌<◌, ◌≤◌, true, false, List, length, get_or, set, Some, None, sym, ap, ◌∙◌, arith}
use Rattle.std.proofs.lemmas.Bool.{eqb-true}
use Rattle.std.proofs.lemmas.List.{length-set}
use Rattle.links.specs.declared.link.Link.{Link}
use Rattle.links.specs.declared.switch_refusal.SwitchRefusal.TheVariants.{AlreadyOn, NotOn, Full}
use Rattle.links.specs.Sets.{member, inserted, removed, inside, link_before}
use Rattle.links.specs.Answers.{on_refusal, off_refusal}
use Rattle.bit_store.specs.Laws.{bits_set}
use Rattle.bit_store.specs.Places.{place, bit_on, links_in, words_for}
use Rattle.ordered.proofs.Members.{length_placed, length_without}
use Rattle.links.specs.Order.{link_order}
use Rattle.links.proofs.Switching.{on_there, on_full, on_taken, off_missing, off_taken}
use Rattle.bit_store.proofs.Placing.{place_below}
use Rattle.bit_store.proofs.Kept.{links_on, links_off, member_links}
use Rattle.bit_store.specs.declared.store.BitStore.{BitStore}

pub digit_on : (ws : List ℕ) (b : ℕ) → bit_on ws b ≡ true → get_or ws (b / 32) 0 / 2 ^ (b % 32) % 2 ≡ 1
unfolding bit_on
digit_on ws b h = eqb-true (get_or ws (b / 32) 0 / 2 ^ (b % 32) % 2) 1 h

module _ (s : BitStore) (l : Link) (b : ℕ) (h : inside s.sizes.things l ≡ true) (at : b ≡ place s.sizes.things l) where
  in' : b / 32 < length s.words.now
  in' = omega (arith, place_below s.sizes.things l h, at, s.long)

  member_is : member l (bits_set s).links ≡ bit_on s.words.now b
  member_is = member_links s.words.now s.sizes.things l h ∙ ap (bit_on s.words.now) (sym at)

  module _ (on : bit_on s.words.now b ≡ true) where
    pub on_refused_there : on_refusal (bits_set s) l ≡ Some AlreadyOn
    on_refused_there = on_there (bits_set s) l h (member_is ∙ on)

    pub off_taken_there : off_refusal (bits_set s) l ≡ None
    off_taken_there = off_taken (bits_set s) l h (member_is ∙ on)

    pub off_some : 1 ≤ s.count
    off_some = omega (arith, s.counted, length_without link_before link_order l (bits_set s).links s.rises (member_is ∙ on))

    module _ (v : ℕ) (others : (j : ℕ) → (j ≡ b % 32 → ⊥) → v / 2 ^ j % 2 ≡ get_or s.words.now (b / 32) 0 / 2 ^ j % 2) (here : v / 2 ^ (b % 32) % 2 ≡ 0) where
      pub off_links : links_in (set s.words.now (b / 32) v) s.sizes.things ≡ removed l (bits_set s).links
      off_links = links_off s.words.now s.sizes.things l b v h at in' others on here

      pub off_count : s.count - 1 ≡ length (links_in (set s.words.now (b / 32) v) s.sizes.things)
      off_count = omega (arith, s.counted, length_without link_before link_order l (bits_set s).links s.rises (member_is ∙ on), ap length off_links)

  module _ (off : bit_on s.words.now b ≡ false) where
    pub off_refused_not : off_refusal (bits_set s) l ≡ Some NotOn
    off_refused_not = off_missing (bits_set s) l h (member_is ∙ off)

    pub on_refused_full : s.count ≡ s.sizes.limit → on_refusal (bits_set s) l ≡ Some Full
    on_refused_full e = on_full (bits_set s) l h (member_is ∙ off) (omega (arith, s.counted))

    pub on_taken_not : (s.count ≡ s.sizes.limit → ⊥) → on_refusal (bits_set s) l ≡ None
    on_taken_not ne = on_taken (bits_set s) l h (member_is ∙ off) (omega (arith, s.counted, s.few))

    module _ (v : ℕ) (others : (j : ℕ) → (j ≡ b % 32 → ⊥) → v / 2 ^ j % 2 ≡ get_or s.words.now (b / 32) 0 / 2 ^ j % 2) (here : v / 2 ^ (b % 32) % 2 ≡ 1) where
      pub on_links : links_in (set s.words.now (b / 32) v) s.sizes.things ≡ inserted l (bits_set s).links
      on_links = links_on s.words.now s.sizes.things l b v h at in' others off here

      pub on_count : s.count + 1 ≡ length (links_in (set s.words.now (b / 32) v) s.sizes.things)
      on_count = omega (arith, s.counted, length_placed link_before l (bits_set s).links, ap length on_links)

pub still_long : (s : BitStore) (i v : ℕ) → words_for s.sizes.things ≤ length (set s.words.now i v)
still_long s i v = omega (arith, s.long, length-set s.words.now i v)
