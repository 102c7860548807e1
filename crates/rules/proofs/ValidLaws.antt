-- what later layers take from valid rules
use Rattle.std.proofs.Common.{◌≡◌, ℕ, zero, suc, ◌<◌, ◌≤◌, Bool, true, ◌&&◌, ltb, List, [], ◌∷◌, length, get_or, Ok, Err, Result, sym, refl, ap, ◌∙◌, subst, ⊎_elim, arith}
use Rattle.std.specs.List.{AllByRecursion}
use Rattle.std.proofs.ByRecursion.{All-get_or, All-weaker}
use Rattle.std.proofs.lemmas.Bool.{and_parts, or_cases, ltb-true, cases_eq}
use Rattle.words.specs.declared.items.PatternLink.{PatternLink}
use Rattle.words.specs.declared.items.Share.{Share}
use Rattle.words.specs.declared.items.Share.TheVariants.{New, With}
use Rattle.words.specs.Steps.{target_in, link_in, share_in}
use Rattle.rules.specs.declared.faults.SetFault.{SetFault}
use Rattle.rules.specs.declared.sets.RuleSet.{RuleSet}
use Rattle.rules.specs.Rules.{Ban, Rule}
use Rattle.rules.specs.Formed.{FormedBan, FormedRule}
use Rattle.rules.specs.Anchors.{some, anchors, anchored, is_shared}
use Rattle.rules.specs.Valid.{ValidBan, ValidRule, ValidRules}
use Rattle.rules.specs.Reading.{reading_of, is_read, accepted, count_of, rule_count, Says}
use Rattle.rules.specs.Sets.{SetHere}
use Rattle.rules.specs.Laws.{LinkRange, BanLaws, RuleLaws}
use Rattle.rules.proofs.Complete.{six}
use Rattle.rules.proofs.Exactly.{each_exact}

-- accepted words say rules, as many as they count
read_cases : (ws : List ℕ) (x : Result (List Rule) SetFault) → reading_of ws ≡ x → is_read x ≡ true → (rs : List Rule) × Says ws rs × (count_of x ≡ length rs)
read_cases ws (Ok rs) e h = (rs, (each_exact ws rs).says e, refl)
read_cases ws (Err f) e h = let z : ◌≡◌ {A = ℕ} 0 1 = cc in absurd (omega arith)

pub accepted_says : (ws : List ℕ) → accepted ws ≡ true → (rs : List Rule) × Says ws rs × (rule_count ws ≡ length rs)
accepted_says ws h = read_cases ws (reading_of ws) refl h

-- what read words say is accepted
pub read_accepted : (ws : List ℕ) (rs : List Rule) → reading_of ws ≡ Ok rs → (accepted ws ≡ true) × (rule_count ws ≡ length rs)
read_accepted ws rs e = (ap is_read e, ap count_of e)

-- a view of words that say rules
pub set_here : (s : RuleSet) (ws : List ℕ) (rs : List Rule) → Says ws rs → s.words.now ≡ ws → s.rules ≡ length rs → SetHere s rs
set_here s ws rs h w c =
    record { formed = All-weaker ValidRule FormedRule (λ r k. k.formed) rs h.valid.each; written = w ∙ h.written; count = c; inside = subst (λ z. length z ≤ 1024) (sym (w ∙ h.written)) h.valid.short }

-- values in range
link_range : (limit : ℕ) (l : PatternLink) → link_in limit l ≡ true → LinkRange limit l
link_range limit l e =
    let p = and_parts (ltb l.label 16) (ltb l.source limit && target_in limit l.target) e in
    let q = and_parts (ltb l.source limit) (target_in limit l.target) p.1 in
    record { label = ltb-true l.label 16 p.0; source = ltb-true l.source limit q.0; target = q.1 }

pub link_ranges : (limit : ℕ) (ls : List PatternLink) → AllByRecursion (λ l. link_in limit l ≡ true) ls → AllByRecursion (LinkRange limit) ls
link_ranges limit ls v = All-weaker (λ l. link_in limit l ≡ true) (LinkRange limit) (link_range limit) ls v

-- every variable is anchored
pub each_anchored : (n : ℕ) (ls : List PatternLink) (v : ℕ) → anchored n ls ≡ true → v < n → some (anchors v) ls ≡ true
each_anchored zero ls v h i = absurd (omega arith)
each_anchored (suc n) ls v h i =
    let p = and_parts (some (anchors n) ls) (anchored n ls) h in
    ⊎_elim (λ e. subst (λ z. some (anchors z) ls ≡ true) (sym e) p.0) (λ e. each_anchored n ls v p.1 (let z : v < n = grind arith in z)) (cases_eq v n)

-- an element that passes
pub some_at : {X : Type 0} (p : X → Bool) (d : X) (xs : List X) → some p xs ≡ true → (k : ℕ) × (k < length xs) × (p (get_or xs k d) ≡ true)
some_at p d [] h = let z : ◌≡◌ {A = ℕ} 0 1 = cc in absurd (omega arith)
some_at p d (x ∷ xs) h =
    ⊎_elim (λ e. (0, omega arith, e))
    (λ e. let k = some_at p d xs e in (suc k.0, let z = k.1 in omega arith, k.2))
    (or_cases (p x) (some p xs) h)

-- a ban shares at least one variable, and only rule variables
shared_range : (n v : ℕ) (s : Share) → share_in n s ≡ true → s ≡ With v → v < n
shared_range n v s h e = ltb-true v n (ap (share_in n) (sym e) ∙ h)

pub ban_laws : (n : ℕ) (b : Ban) → FormedBan n b → ValidBan b → BanLaws n b
ban_laws n b f v =
    record {
      variables = six b.variables f.variables;
      shares = f.all;
      links = (f.some, f.links.few);
      ranges = link_ranges b.variables b.links f.links.ranges;
      anchored = λ u h. each_anchored b.variables b.links u v.anchored h;
      shared = some_at is_shared New b.shares v.shares;
      reach = λ k u h e. shared_range n u (get_or b.shares k New) (All-get_or (λ s. share_in n s ≡ true) b.shares k New h f.shares) e;
    }

bans_laws : (n : ℕ) (bs : List Ban) → AllByRecursion (FormedBan n) bs → AllByRecursion ValidBan bs → AllByRecursion (BanLaws n) bs
bans_laws n [] f v = tt
bans_laws n (b ∷ bs) f v = (ban_laws n b f.0 v.0, bans_laws n bs f.1 v.1)

pub rule_laws : (r : Rule) → ValidRule r → RuleLaws r
rule_laws r v =
    let f = v.formed in
    record {
      variables = six r.variables f.variables;
      needs = (f.some, f.needs.few);
      ranges = link_ranges r.variables r.needs f.needs.ranges;
      anchored = λ u h. each_anchored r.variables r.needs u v.anchored h;
      few = f.few;
      bans = bans_laws r.variables r.bans f.bans v.bans;
    }

pub lawful : (rs : List Rule) → ValidRules rs → AllByRecursion RuleLaws rs
lawful rs v = All-weaker ValidRule RuleLaws rule_laws rs v.each
