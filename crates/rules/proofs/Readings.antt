use Rattle.std.proofs.Common.{◌≡◌, ℕ, ◌+◌, true, false, cond, eqb, List, [], ◌∷◌, ◌++◌, map, length, Some, None, Option, sym, refl, ap, ◌∙◌, append_assoc, append-nil}
use mathlib.Core.List.{map-append}
use Rattle.std.proofs.lemmas.List.{length_push}
use Rattle.std.proofs.lemmas.Bool.{false≢true}
use Rattle.words.specs.declared.items.Item.{Item}
use Rattle.words.specs.declared.items.Item.TheVariants.{Opens, Link, Bans, Shares, StrikesNeed, StrikesThing, Makes, Ends}
use Rattle.words.specs.declared.items.PatternLink.{PatternLink}
use Rattle.words.specs.declared.items.Share.{Share}
use Rattle.words.specs.declared.stages.Stage.TheVariants.{BanReady, BanOpened}
use Rattle.words.specs.Words.{word_of}
use Rattle.words.specs.Steps.{may, next_of}
use Rattle.rules.specs.Rules.{Ban, Rule, Head, Partial, outside, in_needs, in_shares, in_links, in_struck_needs, in_struck_things, in_makes, grown, numbers, front, written, encode, rule_words, bans_words, ban_words, link_words, share_words, need_words, thing_words, head_words, head_of, made, Making, makes_words}

pub encode_push : (rs : List Rule) (r : Rule) → encode (rs ++ r ∷ []) ≡ encode rs ++ rule_words r
encode_push [] r = append-nil (rule_words r)
encode_push (q ∷ qs) r = ap (λ z. rule_words q ++ z) (encode_push qs r) ∙ sym (append_assoc (rule_words q) (encode qs) (rule_words r))

pub bans_push : (bs : List Ban) (b : Ban) → bans_words (bs ++ b ∷ []) ≡ bans_words bs ++ ban_words b
bans_push [] b = append-nil (ban_words b)
bans_push (q ∷ qs) b = ap (λ z. ban_words q ++ z) (bans_push qs b) ∙ sym (append_assoc (ban_words q) (bans_words qs) (ban_words b))

pub shares_numbers : (h : Head) (m : ℕ) (ss : List Share) (y : Share) → numbers (grown (in_shares h m ss) (Shares y)) ≡ next_of (numbers (in_shares h m ss)) (Shares y)
shares_numbers h m ss y = elim (eqb (length ss + 1) m) as (λ b. numbers (cond b (in_links h m (ss ++ y ∷ []) []) (in_shares h m (ss ++ y ∷ []))) ≡ record { stage = cond b BanReady BanOpened; rules = length h.rules; variables = h.variables; needs = length h.needs; bans = length h.bans + 1; limit = m; most = 8; seen = cond b 0 (length ss + 1) }) [ true ↦ refl | false ↦ simp length_push ]

-- the numbers go with the reading
pub numbers_grown : (p : Partial) (i : Item) → may (numbers p).stage i ≡ true → numbers (grown p i) ≡ next_of (numbers p) i
numbers_grown (outside rs) (Opens v) h' = refl
numbers_grown (outside rs) (Link l) h' = absurd (false≢true h')
numbers_grown (outside rs) (Bans v) h' = absurd (false≢true h')
numbers_grown (outside rs) (Shares y) h' = absurd (false≢true h')
numbers_grown (outside rs) (StrikesNeed v) h' = absurd (false≢true h')
numbers_grown (outside rs) (StrikesThing v) h' = absurd (false≢true h')
numbers_grown (outside rs) (Makes v) h' = absurd (false≢true h')
numbers_grown (outside rs) Ends h' = absurd (false≢true h')
numbers_grown (in_needs rs n []) (Opens v) h' = absurd (false≢true h')
numbers_grown (in_needs rs n []) (Link l) h' = refl
numbers_grown (in_needs rs n []) (Bans v) h' = absurd (false≢true h')
numbers_grown (in_needs rs n []) (Shares y) h' = absurd (false≢true h')
numbers_grown (in_needs rs n []) (StrikesNeed v) h' = absurd (false≢true h')
numbers_grown (in_needs rs n []) (StrikesThing v) h' = absurd (false≢true h')
numbers_grown (in_needs rs n []) (Makes v) h' = absurd (false≢true h')
numbers_grown (in_needs rs n []) Ends h' = absurd (false≢true h')
numbers_grown (in_needs rs n (x ∷ xs)) (Opens v) h' = absurd (false≢true h')
numbers_grown (in_needs rs n (x ∷ xs)) (Link l) h' = simp length_push
numbers_grown (in_needs rs n (x ∷ xs)) (Bans v) h' = refl
numbers_grown (in_needs rs n (x ∷ xs)) (Shares y) h' = absurd (false≢true h')
numbers_grown (in_needs rs n (x ∷ xs)) (StrikesNeed v) h' = refl
numbers_grown (in_needs rs n (x ∷ xs)) (StrikesThing v) h' = refl
numbers_grown (in_needs rs n (x ∷ xs)) (Makes v) h' = refl
numbers_grown (in_needs rs n (x ∷ xs)) Ends h' = simp length_push
numbers_grown (in_shares h m ss) (Opens v) h' = absurd (false≢true h')
numbers_grown (in_shares h m ss) (Link l) h' = absurd (false≢true h')
numbers_grown (in_shares h m ss) (Bans v) h' = absurd (false≢true h')
numbers_grown (in_shares h m ss) (Shares y) h' = shares_numbers h m ss y
numbers_grown (in_shares h m ss) (StrikesNeed v) h' = absurd (false≢true h')
numbers_grown (in_shares h m ss) (StrikesThing v) h' = absurd (false≢true h')
numbers_grown (in_shares h m ss) (Makes v) h' = absurd (false≢true h')
numbers_grown (in_shares h m ss) Ends h' = absurd (false≢true h')
numbers_grown (in_links h m ss []) (Opens v) h' = absurd (false≢true h')
numbers_grown (in_links h m ss []) (Link l) h' = refl
numbers_grown (in_links h m ss []) (Bans v) h' = absurd (false≢true h')
numbers_grown (in_links h m ss []) (Shares y) h' = absurd (false≢true h')
numbers_grown (in_links h m ss []) (StrikesNeed v) h' = absurd (false≢true h')
numbers_grown (in_links h m ss []) (StrikesThing v) h' = absurd (false≢true h')
numbers_grown (in_links h m ss []) (Makes v) h' = absurd (false≢true h')
numbers_grown (in_links h m ss []) Ends h' = absurd (false≢true h')
numbers_grown (in_links h m ss (x ∷ xs)) (Opens v) h' = absurd (false≢true h')
numbers_grown (in_links h m ss (x ∷ xs)) (Link l) h' = simp length_push
numbers_grown (in_links h m ss (x ∷ xs)) (Bans v) h' = simp length_push
numbers_grown (in_links h m ss (x ∷ xs)) (Shares y) h' = absurd (false≢true h')
numbers_grown (in_links h m ss (x ∷ xs)) (StrikesNeed v) h' = simp length_push
numbers_grown (in_links h m ss (x ∷ xs)) (StrikesThing v) h' = simp length_push
numbers_grown (in_links h m ss (x ∷ xs)) (Makes v) h' = simp length_push
numbers_grown (in_links h m ss (x ∷ xs)) Ends h' = simp length_push
numbers_grown (in_struck_needs h sn) (Opens v) h' = absurd (false≢true h')
numbers_grown (in_struck_needs h sn) (Link l) h' = absurd (false≢true h')
numbers_grown (in_struck_needs h sn) (Bans v) h' = absurd (false≢true h')
numbers_grown (in_struck_needs h sn) (Shares y) h' = absurd (false≢true h')
numbers_grown (in_struck_needs h sn) (StrikesNeed v) h' = simp length_push
numbers_grown (in_struck_needs h sn) (StrikesThing v) h' = refl
numbers_grown (in_struck_needs h sn) (Makes v) h' = refl
numbers_grown (in_struck_needs h sn) Ends h' = simp length_push
numbers_grown (in_struck_things h sn st) (Opens v) h' = absurd (false≢true h')
numbers_grown (in_struck_things h sn st) (Link l) h' = absurd (false≢true h')
numbers_grown (in_struck_things h sn st) (Bans v) h' = absurd (false≢true h')
numbers_grown (in_struck_things h sn st) (Shares y) h' = absurd (false≢true h')
numbers_grown (in_struck_things h sn st) (StrikesNeed v) h' = absurd (false≢true h')
numbers_grown (in_struck_things h sn st) (StrikesThing v) h' = simp length_push
numbers_grown (in_struck_things h sn st) (Makes v) h' = refl
numbers_grown (in_struck_things h sn st) Ends h' = simp length_push
numbers_grown (in_makes h sn st k []) (Opens v) h' = absurd (false≢true h')
numbers_grown (in_makes h sn st k []) (Link l) h' = refl
numbers_grown (in_makes h sn st k []) (Bans v) h' = absurd (false≢true h')
numbers_grown (in_makes h sn st k []) (Shares y) h' = absurd (false≢true h')
numbers_grown (in_makes h sn st k []) (StrikesNeed v) h' = absurd (false≢true h')
numbers_grown (in_makes h sn st k []) (StrikesThing v) h' = absurd (false≢true h')
numbers_grown (in_makes h sn st k []) (Makes v) h' = absurd (false≢true h')
numbers_grown (in_makes h sn st k []) Ends h' = absurd (false≢true h')
numbers_grown (in_makes h sn st k (x ∷ xs)) (Opens v) h' = absurd (false≢true h')
numbers_grown (in_makes h sn st k (x ∷ xs)) (Link l) h' = simp length_push
numbers_grown (in_makes h sn st k (x ∷ xs)) (Bans v) h' = absurd (false≢true h')
numbers_grown (in_makes h sn st k (x ∷ xs)) (Shares y) h' = absurd (false≢true h')
numbers_grown (in_makes h sn st k (x ∷ xs)) (StrikesNeed v) h' = absurd (false≢true h')
numbers_grown (in_makes h sn st k (x ∷ xs)) (StrikesThing v) h' = absurd (false≢true h')
numbers_grown (in_makes h sn st k (x ∷ xs)) (Makes v) h' = absurd (false≢true h')
numbers_grown (in_makes h sn st k (x ∷ xs)) Ends h' = simp length_push

opened : (e : List ℕ) (o : ℕ) → (e ++ o ∷ []) ++ [] ≡ (e ++ []) ++ o ∷ []
opened e o = simp append-nil

pushed : {X : Type 0} (f : X → ℕ) (e : List ℕ) (xs : List X) (x : X) → e ++ map f (xs ++ x ∷ []) ≡ (e ++ map f xs) ++ f x ∷ []
pushed f e xs x = rw (map-append, append_assoc) refl

needs_list : (e : List ℕ) (o : ℕ) (ls : List ℕ) → e ++ o ∷ (ls ++ []) ≡ (e ++ o ∷ []) ++ ls
needs_list e o ls = simp (append-nil, append_assoc)

closed_needs : (rs : List Rule) (n : ℕ) (ls : List PatternLink) → head_words (record { rules = rs; variables = n; needs = ls; bans = [] }) ≡ (encode rs ++ word_of (Opens n) ∷ []) ++ link_words ls
closed_needs rs n ls = needs_list (encode rs) (word_of (Opens n)) (link_words ls)

links_list : (e n b s l : List ℕ) (o B : ℕ) → e ++ o ∷ (n ++ (b ++ B ∷ (s ++ l))) ≡ ((e ++ o ∷ (n ++ b)) ++ B ∷ s) ++ l
links_list e n b s l o B = simp append_assoc

closed_links : (h : Head) (m : ℕ) (ss : List Share) (ls : List PatternLink) → head_words (head_of (in_links h m ss ls)) ≡ (head_words h ++ word_of (Bans m) ∷ share_words ss) ++ link_words ls
closed_links h m ss ls = rw (bans_push h.bans (record { variables = m; shares = ss; links = ls })) (links_list (encode h.rules) (link_words h.needs) (bans_words h.bans) (share_words ss) (link_words ls) (word_of (Opens h.variables)) (word_of (Bans m)))

ends_list : (e n b s : List ℕ) (o : ℕ) → (e ++ o ∷ (n ++ (b ++ s))) ++ [] ≡ (e ++ o ∷ (n ++ b)) ++ s
ends_list e n b s o = simp (append-nil, append_assoc)

ends : (h : Head) (sn st : List ℕ) (m : Option Making) → written (outside (h.rules ++ made h sn st m ∷ [])) ≡ head_words h ++ (need_words sn ++ (thing_words st ++ (makes_words m ++ word_of Ends ∷ [])))
ends h sn st m = rw (encode_push h.rules (made h sn st m)) (ends_list (encode h.rules) (link_words h.needs) (bans_words h.bans) (need_words sn ++ (thing_words st ++ (makes_words m ++ word_of Ends ∷ []))) (word_of (Opens h.variables)))

makes_things : (e a b : List ℕ) (w : ℕ) → (e ++ (a ++ (b ++ w ∷ []))) ++ [] ≡ ((e ++ a) ++ b) ++ w ∷ []
makes_things e a b w = simp (append-nil, append_assoc)

ends_things : (e a b : List ℕ) (w : ℕ) → e ++ (a ++ (b ++ w ∷ [])) ≡ ((e ++ a) ++ b) ++ w ∷ []
ends_things e a b w = simp append_assoc

ends_makes : (e a b : List ℕ) (m : ℕ) (l : List ℕ) (w : ℕ) → e ++ (a ++ (b ++ m ∷ (l ++ w ∷ []))) ≡ ((e ++ (a ++ (b ++ m ∷ []))) ++ l) ++ w ∷ []
ends_makes e a b m l w = simp append_assoc

shares_list : (e s : List ℕ) (B w : ℕ) → (e ++ B ∷ (s ++ w ∷ [])) ++ [] ≡ ((e ++ B ∷ []) ++ s) ++ w ∷ []
shares_list e s B w = simp (append-nil, append_assoc)

shares_written : (h : Head) (m : ℕ) (ss : List Share) (y : Share) → written (grown (in_shares h m ss) (Shares y)) ≡ written (in_shares h m ss) ++ word_of (Shares y) ∷ []
shares_written h m ss y =
    elim (eqb (length ss + 1) m) as (λ b. written (cond b (in_links h m (ss ++ y ∷ []) []) (in_shares h m (ss ++ y ∷ []))) ≡ written (in_shares h m ss) ++ word_of (Shares y) ∷ []) [
      | true ↦ rw (map-append (λ s. word_of (Shares s)) ss (y ∷ [])) (shares_list (head_words h) (share_words ss) (word_of (Bans m)) (word_of (Shares y)))
      | false ↦ pushed (λ z. word_of (Shares z)) (head_words h ++ word_of (Bans m) ∷ []) ss y
    ]

pub written_grown : (p : Partial) (i : Item) → may (numbers p).stage i ≡ true → written (grown p i) ≡ written p ++ word_of i ∷ []
written_grown (outside rs) (Opens v) h' = opened (encode rs) (word_of (Opens v))
written_grown (outside rs) (Link l) h' = absurd (false≢true h')
written_grown (outside rs) (Bans v) h' = absurd (false≢true h')
written_grown (outside rs) (Shares y) h' = absurd (false≢true h')
written_grown (outside rs) (StrikesNeed v) h' = absurd (false≢true h')
written_grown (outside rs) (StrikesThing v) h' = absurd (false≢true h')
written_grown (outside rs) (Makes v) h' = absurd (false≢true h')
written_grown (outside rs) Ends h' = absurd (false≢true h')
written_grown (in_needs rs n []) (Opens v) h' = absurd (false≢true h')
written_grown (in_needs rs n []) (Link l) h' = pushed (λ z. word_of (Link z)) (encode rs ++ word_of (Opens n) ∷ []) [] l
written_grown (in_needs rs n []) (Bans v) h' = absurd (false≢true h')
written_grown (in_needs rs n []) (Shares y) h' = absurd (false≢true h')
written_grown (in_needs rs n []) (StrikesNeed v) h' = absurd (false≢true h')
written_grown (in_needs rs n []) (StrikesThing v) h' = absurd (false≢true h')
written_grown (in_needs rs n []) (Makes v) h' = absurd (false≢true h')
written_grown (in_needs rs n []) Ends h' = absurd (false≢true h')
written_grown (in_needs rs n (x ∷ xs)) (Opens v) h' = absurd (false≢true h')
written_grown (in_needs rs n (x ∷ xs)) (Link l) h' = pushed (λ z. word_of (Link z)) (encode rs ++ word_of (Opens n) ∷ []) (x ∷ xs) l
written_grown (in_needs rs n (x ∷ xs)) (Bans v) h' = append-nil (head_words (head_of (in_needs rs n (x ∷ xs))) ++ word_of (Bans v) ∷ []) ∙ ap (λ z. z ++ word_of (Bans v) ∷ []) (closed_needs rs n (x ∷ xs))
written_grown (in_needs rs n (x ∷ xs)) (Shares y) h' = absurd (false≢true h')
written_grown (in_needs rs n (x ∷ xs)) (StrikesNeed v) h' = ap (λ z. z ++ word_of (StrikesNeed v) ∷ []) (closed_needs rs n (x ∷ xs))
written_grown (in_needs rs n (x ∷ xs)) (StrikesThing v) h' = ap (λ z. z ++ word_of (StrikesThing v) ∷ []) (append-nil (head_words (head_of (in_needs rs n (x ∷ xs))))) ∙ ap (λ z. z ++ word_of (StrikesThing v) ∷ []) (closed_needs rs n (x ∷ xs))
written_grown (in_needs rs n (x ∷ xs)) (Makes v) h' = append-nil (head_words (head_of (in_needs rs n (x ∷ xs))) ++ word_of (Makes v) ∷ []) ∙ ap (λ z. z ++ word_of (Makes v) ∷ []) (closed_needs rs n (x ∷ xs))
written_grown (in_needs rs n (x ∷ xs)) Ends h' = ends (head_of (in_needs rs n (x ∷ xs))) [] [] None ∙ ap (λ z. z ++ word_of (Ends) ∷ []) (closed_needs rs n (x ∷ xs))
written_grown (in_shares h m ss) (Opens v) h' = absurd (false≢true h')
written_grown (in_shares h m ss) (Link l) h' = absurd (false≢true h')
written_grown (in_shares h m ss) (Bans v) h' = absurd (false≢true h')
written_grown (in_shares h m ss) (Shares y) h' = shares_written h m ss y
written_grown (in_shares h m ss) (StrikesNeed v) h' = absurd (false≢true h')
written_grown (in_shares h m ss) (StrikesThing v) h' = absurd (false≢true h')
written_grown (in_shares h m ss) (Makes v) h' = absurd (false≢true h')
written_grown (in_shares h m ss) Ends h' = absurd (false≢true h')
written_grown (in_links h m ss []) (Opens v) h' = absurd (false≢true h')
written_grown (in_links h m ss []) (Link l) h' = pushed (λ z. word_of (Link z)) (head_words h ++ word_of (Bans m) ∷ share_words ss) [] l
written_grown (in_links h m ss []) (Bans v) h' = absurd (false≢true h')
written_grown (in_links h m ss []) (Shares y) h' = absurd (false≢true h')
written_grown (in_links h m ss []) (StrikesNeed v) h' = absurd (false≢true h')
written_grown (in_links h m ss []) (StrikesThing v) h' = absurd (false≢true h')
written_grown (in_links h m ss []) (Makes v) h' = absurd (false≢true h')
written_grown (in_links h m ss []) Ends h' = absurd (false≢true h')
written_grown (in_links h m ss (x ∷ xs)) (Opens v) h' = absurd (false≢true h')
written_grown (in_links h m ss (x ∷ xs)) (Link l) h' = pushed (λ z. word_of (Link z)) (head_words h ++ word_of (Bans m) ∷ share_words ss) (x ∷ xs) l
written_grown (in_links h m ss (x ∷ xs)) (Bans v) h' = append-nil (head_words (head_of (in_links h m ss (x ∷ xs))) ++ word_of (Bans v) ∷ []) ∙ ap (λ z. z ++ word_of (Bans v) ∷ []) (closed_links h m ss (x ∷ xs))
written_grown (in_links h m ss (x ∷ xs)) (Shares y) h' = absurd (false≢true h')
written_grown (in_links h m ss (x ∷ xs)) (StrikesNeed v) h' = ap (λ z. z ++ word_of (StrikesNeed v) ∷ []) (closed_links h m ss (x ∷ xs))
written_grown (in_links h m ss (x ∷ xs)) (StrikesThing v) h' = ap (λ z. z ++ word_of (StrikesThing v) ∷ []) (append-nil (head_words (head_of (in_links h m ss (x ∷ xs))))) ∙ ap (λ z. z ++ word_of (StrikesThing v) ∷ []) (closed_links h m ss (x ∷ xs))
written_grown (in_links h m ss (x ∷ xs)) (Makes v) h' = append-nil (head_words (head_of (in_links h m ss (x ∷ xs))) ++ word_of (Makes v) ∷ []) ∙ ap (λ z. z ++ word_of (Makes v) ∷ []) (closed_links h m ss (x ∷ xs))
written_grown (in_links h m ss (x ∷ xs)) Ends h' = ends (head_of (in_links h m ss (x ∷ xs))) [] [] None ∙ ap (λ z. z ++ word_of (Ends) ∷ []) (closed_links h m ss (x ∷ xs))
written_grown (in_struck_needs h sn) (Opens v) h' = absurd (false≢true h')
written_grown (in_struck_needs h sn) (Link l) h' = absurd (false≢true h')
written_grown (in_struck_needs h sn) (Bans v) h' = absurd (false≢true h')
written_grown (in_struck_needs h sn) (Shares y) h' = absurd (false≢true h')
written_grown (in_struck_needs h sn) (StrikesNeed v) h' = pushed (λ z. word_of (StrikesNeed z)) (head_words h) sn v
written_grown (in_struck_needs h sn) (StrikesThing v) h' = refl
written_grown (in_struck_needs h sn) (Makes v) h' = append-nil (head_words h ++ (need_words sn ++ word_of (Makes v) ∷ [])) ∙ sym (append_assoc (head_words h) (need_words sn) (word_of (Makes v) ∷ []))
written_grown (in_struck_needs h sn) Ends h' = ends h sn [] None ∙ sym (append_assoc (head_words h) (need_words sn) (word_of Ends ∷ []))
written_grown (in_struck_things h sn st) (Opens v) h' = absurd (false≢true h')
written_grown (in_struck_things h sn st) (Link l) h' = absurd (false≢true h')
written_grown (in_struck_things h sn st) (Bans v) h' = absurd (false≢true h')
written_grown (in_struck_things h sn st) (Shares y) h' = absurd (false≢true h')
written_grown (in_struck_things h sn st) (StrikesNeed v) h' = absurd (false≢true h')
written_grown (in_struck_things h sn st) (StrikesThing v) h' = pushed (λ z. word_of (StrikesThing z)) (head_words h ++ need_words sn) st v
written_grown (in_struck_things h sn st) (Makes v) h' = makes_things (head_words h) (need_words sn) (thing_words st) (word_of (Makes v))
written_grown (in_struck_things h sn st) Ends h' = ends h sn st None ∙ ends_things (head_words h) (need_words sn) (thing_words st) (word_of Ends)
written_grown (in_makes h sn st k []) (Opens v) h' = absurd (false≢true h')
written_grown (in_makes h sn st k []) (Link l) h' = pushed (λ z. word_of (Link z)) (front (in_makes h sn st k [])) [] l
written_grown (in_makes h sn st k []) (Bans v) h' = absurd (false≢true h')
written_grown (in_makes h sn st k []) (Shares y) h' = absurd (false≢true h')
written_grown (in_makes h sn st k []) (StrikesNeed v) h' = absurd (false≢true h')
written_grown (in_makes h sn st k []) (StrikesThing v) h' = absurd (false≢true h')
written_grown (in_makes h sn st k []) (Makes v) h' = absurd (false≢true h')
written_grown (in_makes h sn st k []) Ends h' = absurd (false≢true h')
written_grown (in_makes h sn st k (x ∷ xs)) (Opens v) h' = absurd (false≢true h')
written_grown (in_makes h sn st k (x ∷ xs)) (Link l) h' = pushed (λ z. word_of (Link z)) (front (in_makes h sn st k [])) (x ∷ xs) l
written_grown (in_makes h sn st k (x ∷ xs)) (Bans v) h' = absurd (false≢true h')
written_grown (in_makes h sn st k (x ∷ xs)) (Shares y) h' = absurd (false≢true h')
written_grown (in_makes h sn st k (x ∷ xs)) (StrikesNeed v) h' = absurd (false≢true h')
written_grown (in_makes h sn st k (x ∷ xs)) (StrikesThing v) h' = absurd (false≢true h')
written_grown (in_makes h sn st k (x ∷ xs)) (Makes v) h' = absurd (false≢true h')
written_grown (in_makes h sn st k (x ∷ xs)) Ends h' = ends h sn st (Some (record { things = k; links = x ∷ xs })) ∙ ends_makes (head_words h) (need_words sn) (thing_words st) (word_of (Makes k)) (link_words (x ∷ xs)) (word_of Ends)
