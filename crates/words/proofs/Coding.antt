-- a word and its item
use Rattle.std.proofs.Common.{◌≡◌, ℕ, ◌+◌, ◌*◌, ◌/◌, ◌%◌, ◌<◌, Bool, true, false, cond, ◌&&◌, eqb, ltb, Ok, Result, refl, ap, ◌∙◌, subst, arith}
use Rattle.std.proofs.lemmas.Bool.{and_parts, eqb-true, ltb-true, lt-ltb}
use Rattle.std.proofs.lemmas.Bool.Decides.{nat_tests}
use Rattle.words.specs.declared.items.PatternLink.{PatternLink}
use Rattle.words.specs.declared.items.Share.{Share}
use Rattle.words.specs.declared.items.Share.TheVariants.{New, With, Neither}
use Rattle.words.specs.declared.items.Item.{Item}
use Rattle.words.specs.declared.items.Item.TheVariants.{Opens, Link, Bans, Shares, StrikesNeed, StrikesThing, Makes, Ends}
use Rattle.words.specs.declared.items.Target.TheVariants.{Variable, Mark}
use Rattle.words.specs.declared.items.Target.{Target}
use Rattle.words.specs.declared.faults.WordFault.{WordFault}
use Rattle.words.specs.Words.{item_of, word_of, said, target_number, target_kind, link_of, share_of, share_by, share_number}

peel : (P : Item → Type 0) (b : Bool) (x : Item) (y : Result Item WordFault) (i : Item) → cond b (Ok x) y ≡ Ok i → (b ≡ true → P x) → (y ≡ Ok i → P i) → P i
peel P true x y i e f g = let q : x ≡ i = cc in subst P q (f refl)
peel P false x y i e f g = g e

-- the two bytes of a ban variable are those that said it
by_number : (s v : ℕ) → share_number (share_by s v) ≡ s * 256 + v
by_number s v = grind (arith, nat_tests)

module _ (w k r : ℕ) (e : w ≡ k * 268435456 + r) where
  here : (n b : ℕ) (t : ℕ) → (eqb k n && ltb r b) ≡ true → (r < b → t ≡ n * 268435456 + r) → t ≡ w
  here n b t h f =
      let p = and_parts (eqb k n) (ltb r b) h in
      let q : k ≡ n = eqb-true k n p.0 in
      let l : r < b = ltb-true r b p.1 in
      let g : t ≡ n * 268435456 + r = f l in
      let z : k * 268435456 ≡ n * 268435456 = ap (λ x. x * 268435456) q in
      omega arith

  pub said_word : (i : Item) → said w k r ≡ Ok i → word_of i ≡ w
  said_word i h =
      let P : Item → Type 0 = λ j. word_of j ≡ w in
      peel P (eqb k 1 && ltb r 256) (Opens (r % 256)) _ i h (λ b. here 1 256 _ b (λ l. omega arith)) (λ h.
      peel P (eqb k 2 && ltb r 16777216) (Link (record { label = r / 65536; source = r / 256 % 256; target = Variable (r % 256) })) _ i h (λ b. here 2 16777216 _ b (λ l. omega arith)) (λ h.
      peel P (eqb k 3 && ltb r 16777216) (Link (record { label = r / 65536; source = r / 256 % 256; target = Mark (r % 256) })) _ i h (λ b. here 3 16777216 _ b (λ l. omega arith)) (λ h.
      peel P (eqb k 4 && ltb r 256) (Bans (r % 256)) _ i h (λ b. here 4 256 _ b (λ l. omega arith)) (λ h.
      peel P (eqb k 5 && ltb r 65536) (Shares (share_by (r / 256 % 256) (r % 256))) _ i h (λ b. here 5 65536 _ b (λ l. let z = by_number (r / 256 % 256) (r % 256) in omega arith)) (λ h.
      peel P (eqb k 6 && ltb r 256) (StrikesNeed (r % 256)) _ i h (λ b. here 6 256 _ b (λ l. omega arith)) (λ h.
      peel P (eqb k 7 && ltb r 256) (StrikesThing (r % 256)) _ i h (λ b. here 7 256 _ b (λ l. omega arith)) (λ h.
      peel P (eqb k 8 && ltb r 256) (Makes (r % 256)) _ i h (λ b. here 8 256 _ b (λ l. omega arith)) (λ h.
      peel P (eqb k 9 && ltb r 1) Ends _ i h (λ b. here 9 1 _ b (λ l. omega arith)) (λ h. let z : ◌≡◌ {A = ℕ} 0 1 = cc in absurd (omega arith))))))))))

pub item_word : (w : ℕ) (i : Item) → item_of w ≡ Ok i → word_of i ≡ w
item_word w i h = said_word w (w / 268435456) (w % 268435456) (omega arith) i h

-- a ban variable that two bytes can say
abbrev pub ShareFits : Share → Type 0
ShareFits New = Unit {0}
ShareFits (With v) = v < 256
ShareFits (Neither n) = (n < 65536) × (share_of n ≡ Neither n)

-- the item of a word that was written
abbrev pub Fits : Item → Type 0
Fits (Opens n) = n < 256
Fits (Link l) = (l.label < 256) × (l.source < 256) × (target_number l.target < 256)
Fits (Bans n) = n < 256
Fits (Shares x) = ShareFits x
Fits (StrikesNeed n) = n < 256
Fits (StrikesThing n) = n < 256
Fits (Makes n) = n < 256
Fits Ends = Unit {0}

at : (w k r : ℕ) → w ≡ k * 268435456 + r → r < 268435456 → item_of w ≡ said w k r
at w k r e h =
    let a : w / 268435456 ≡ k = omega arith in
    let b : w % 268435456 ≡ r = omega arith in
    ap (λ z. said w z (w % 268435456)) a ∙ ap (said w k) b

said_link : (a b : ℕ) (t : Target) → a < 256 → b < 256 → target_number t < 256 → item_of (word_of (Link (record { label = a; source = b; target = t }))) ≡ Ok (Link (record { label = a; source = b; target = t }))
said_link a b (Mark c) f g h =
    let r = a * 65536 + (b * 256 + c) in
    let p : r / 65536 ≡ a = omega arith in
    let q : r / 256 % 256 ≡ b = omega arith in
    let s : r % 256 ≡ c = omega arith in
    let t : ltb r 16777216 ≡ true = lt-ltb r 16777216 (omega arith) in
    at (805306368 + r) 3 r (omega arith) (omega arith) ∙ rw (t, p, q, s) refl
said_link a b (Variable c) f g h =
    let r = a * 65536 + (b * 256 + c) in
    let p : r / 65536 ≡ a = omega arith in
    let q : r / 256 % 256 ≡ b = omega arith in
    let s : r % 256 ≡ c = omega arith in
    let t : ltb r 16777216 ≡ true = lt-ltb r 16777216 (omega arith) in
    at (536870912 + r) 2 r (omega arith) (omega arith) ∙ rw (t, p, q, s) refl

share_small : (x : Share) → ShareFits x → share_number x < 65536
share_small New h = omega arith
share_small (With v) h = omega arith
share_small (Neither n) h = h.0

share_back : (x : Share) → ShareFits x → share_of (share_number x) ≡ x
share_back New h = refl
share_back (With v) h =
    let p : (256 + v) / 256 % 256 ≡ 1 = omega arith in
    let q : (256 + v) % 256 ≡ v = omega arith in
    rw (p, q) refl
share_back (Neither n) h = h.1

pub said_item : (i : Item) → Fits i → item_of (word_of i) ≡ Ok i
said_item (Opens n) h = let m : n % 256 ≡ n = omega arith in let t = lt-ltb n 256 h in at (268435456 + n) 1 n (omega arith) (omega arith) ∙ rw (t, m) refl
said_item (Link l) h = said_link l.label l.source l.target h.0 h.1 h.2
said_item (Bans n) h = let m : n % 256 ≡ n = omega arith in let t = lt-ltb n 256 h in at (1073741824 + n) 4 n (omega arith) (omega arith) ∙ rw (t, m) refl
said_item (Shares x) h =
    let l = share_small x h in
    let t : ltb (share_number x) 65536 ≡ true = lt-ltb (share_number x) 65536 l in
    at (1342177280 + share_number x) 5 (share_number x) (omega arith) (omega arith) ∙ rw t (ap (λ z. Ok (Shares z)) (share_back x h))
said_item (StrikesNeed n) h = let m : n % 256 ≡ n = omega arith in let t = lt-ltb n 256 h in at (1610612736 + n) 6 n (omega arith) (omega arith) ∙ rw (t, m) refl
said_item (StrikesThing n) h = let m : n % 256 ≡ n = omega arith in let t = lt-ltb n 256 h in at (1879048192 + n) 7 n (omega arith) (omega arith) ∙ rw (t, m) refl
said_item (Makes n) h = let m : n % 256 ≡ n = omega arith in let t = lt-ltb n 256 h in at (2147483648 + n) 8 n (omega arith) (omega arith) ∙ rw (t, m) refl
said_item Ends h = refl

-- the fields of a written link and of a written ban variable are read back
link_back : (a b : ℕ) (t : Target) → a < 256 → b < 256 → target_number t < 256 → link_of (word_of (Link (record { label = a; source = b; target = t }))) ≡ record { label = a; source = b; target = t }
link_back a b (Mark c) f g h =
    let r = 805306368 + (a * 65536 + (b * 256 + c)) in
    let p : r / 65536 % 256 ≡ a = omega arith in
    let q : r / 256 % 256 ≡ b = omega arith in
    let s : r % 256 ≡ c = omega arith in
    let k : r / 268435456 ≡ 3 = omega arith in
    rw (p, q, s, k) refl
link_back a b (Variable c) f g h =
    let r = 536870912 + (a * 65536 + (b * 256 + c)) in
    let p : r / 65536 % 256 ≡ a = omega arith in
    let q : r / 256 % 256 ≡ b = omega arith in
    let s : r % 256 ≡ c = omega arith in
    let k : r / 268435456 ≡ 2 = omega arith in
    rw (p, q, s, k) refl

pub link_of_word : (l : PatternLink) → Fits (Link l) → link_of (word_of (Link l)) ≡ l
link_of_word l h = link_back l.label l.source l.target h.0 h.1 h.2

pub share_of_word : (x : Share) → Fits (Shares x) → share_of (word_of (Shares x)) ≡ x
share_of_word x h =
    let l = share_small x h in
    let w = 1342177280 + share_number x in
    let p : w / 256 % 256 ≡ share_number x / 256 % 256 = omega arith in
    let q : w % 256 ≡ share_number x % 256 = omega arith in
    rw (p, q) (share_back x h)

-- the kind of a written word
abbrev pub kind_of : Item → ℕ
kind_of (Opens n) = 1
kind_of (Link l) = target_kind l.target / 268435456
kind_of (Bans n) = 4
kind_of (Shares x) = 5
kind_of (StrikesNeed n) = 6
kind_of (StrikesThing n) = 7
kind_of (Makes n) = 8
kind_of Ends = 9

link_kind : (a b : ℕ) (t : Target) → a < 256 → b < 256 → target_number t < 256 → word_of (Link (record { label = a; source = b; target = t })) / 268435456 ≡ target_kind t / 268435456
link_kind a b (Mark c) f g h = omega arith
link_kind a b (Variable c) f g h = omega arith

pub kind_of_word : (i : Item) → Fits i → word_of i / 268435456 ≡ kind_of i
kind_of_word (Opens n) h = omega arith
kind_of_word (Link l) h = link_kind l.label l.source l.target h.0 h.1 h.2
kind_of_word (Bans n) h = omega arith
kind_of_word (Shares x) h = let l = share_small x h in omega arith
kind_of_word (StrikesNeed n) h = omega arith
kind_of_word (StrikesThing n) h = omega arith
kind_of_word (Makes n) h = omega arith
kind_of_word Ends h = refl

-- the kind of a word that says an item
module _ (w k r : ℕ) where
  of_kind : (n b : ℕ) → (eqb k n && ltb r b) ≡ true → k ≡ n
  of_kind n b h = eqb-true k n (and_parts (eqb k n) (ltb r b) h).0

  said_kind : (i : Item) → said w k r ≡ Ok i → k ≡ kind_of i
  said_kind i h =
      let P : Item → Type 0 = λ j. k ≡ kind_of j in
      peel P (eqb k 1 && ltb r 256) (Opens (r % 256)) _ i h (λ b. of_kind 1 256 b) (λ h.
      peel P (eqb k 2 && ltb r 16777216) (Link (record { label = r / 65536; source = r / 256 % 256; target = Variable (r % 256) })) _ i h (λ b. of_kind 2 16777216 b) (λ h.
      peel P (eqb k 3 && ltb r 16777216) (Link (record { label = r / 65536; source = r / 256 % 256; target = Mark (r % 256) })) _ i h (λ b. of_kind 3 16777216 b) (λ h.
      peel P (eqb k 4 && ltb r 256) (Bans (r % 256)) _ i h (λ b. of_kind 4 256 b) (λ h.
      peel P (eqb k 5 && ltb r 65536) (Shares (share_by (r / 256 % 256) (r % 256))) _ i h (λ b. of_kind 5 65536 b) (λ h.
      peel P (eqb k 6 && ltb r 256) (StrikesNeed (r % 256)) _ i h (λ b. of_kind 6 256 b) (λ h.
      peel P (eqb k 7 && ltb r 256) (StrikesThing (r % 256)) _ i h (λ b. of_kind 7 256 b) (λ h.
      peel P (eqb k 8 && ltb r 256) (Makes (r % 256)) _ i h (λ b. of_kind 8 256 b) (λ h.
      peel P (eqb k 9 && ltb r 1) Ends _ i h (λ b. of_kind 9 1 b) (λ h. let z : ◌≡◌ {A = ℕ} 0 1 = cc in absurd (omega arith))))))))))

pub item_kind : (w : ℕ) (i : Item) → item_of w ≡ Ok i → w / 268435456 ≡ kind_of i
item_kind w i h = said_kind w (w / 268435456) (w % 268435456) i h
