-- what reading answers
use Rattle.std.proofs.Common.{◌≡◌, ℕ, ◌<◌, ◌≤◌, cond, List, length, Some, None, Ok, Err, Option, Result, sym, refl, ap, ◌∙◌, subst, arith}
use Rattle.std.proofs.lemmas.Bool.{lt-ltb, le-ltb}
use Rattle.words.specs.declared.faults.Cause.TheVariants.{TooManyWords}
use Rattle.rules.specs.declared.faults.SetFault.{SetFault}
use Rattle.rules.specs.declared.sets.RuleSet.{RuleSet}
use Rattle.rules.specs.Rules.{Rule, scanned}
use Rattle.rules.specs.Scan.{counted}
use Rattle.rules.specs.Marks.{passed, second_fault, unless_fault, settled}
use Rattle.rules.specs.Reading.{reading_of}
use Rattle.rules.specs.Sets.{SetHere, ReadAs}
use Rattle.rules.proofs.Sound.{scanned_encode}
use Rattle.rules.proofs.Keeping.{scanned_valid}
use Rattle.rules.proofs.Exactly.{each_exact}

refused : (ws : List ℕ) (f : SetFault) → reading_of ws ≡ Err f → ReadAs ws (Err f)
refused ws f e = (e, λ rs s. let k = (each_exact ws rs).read s in let z : ◌≡◌ {A = ℕ} 0 1 = cc in omega arith)

pub too_many : (ws : List ℕ) → 1024 < length ws → ReadAs ws (Err (record { place = 1024; rule = 0; cause = TooManyWords }))
too_many ws h = refused ws (record { place = 1024; rule = 0; cause = TooManyWords }) (ap (λ b. cond b (Err (record { place = 1024; rule = 0; cause = TooManyWords })) (settled (scanned ws))) (lt-ltb 1024 (length ws) h))

counted_err : (x : Result (List Rule) SetFault) (f : SetFault) → Err f ≡ counted x → x ≡ Err f
counted_err (Ok rs) f e = let z : ◌≡◌ {A = ℕ} 0 1 = cc in absurd (omega arith)
counted_err (Err g) f e = let q : f ≡ g = cc in ap Err (sym q)

counted_ok : (x : Result (List Rule) SetFault) (n : ℕ) → Ok n ≡ counted x → (rs : List Rule) × (x ≡ Ok rs) × (n ≡ length rs)
counted_ok (Ok rs) n e = (rs, refl, cc)
counted_ok (Err g) n e = let z : ◌≡◌ {A = ℕ} 0 1 = cc in absurd (omega arith)

module _ (ws : List ℕ) (h : length ws ≤ 1024) where
  within : reading_of ws ≡ settled (scanned ws)
  within = ap (λ b. cond b (Err (record { place = 1024; rule = 0; cause = TooManyWords })) (settled (scanned ws))) (le-ltb 1024 (length ws) h)

  pub scan_refused : (f : SetFault) → Err f ≡ counted (scanned ws) → ReadAs ws (Err f)
  scan_refused f e = refused ws f (within ∙ ap settled (counted_err (scanned ws) f e))

  module _ (s : RuleSet) (w : s.words.now ≡ ws) (e : Ok s.rules ≡ counted (scanned ws)) where
    rules_of : (rs : List Rule) × (scanned ws ≡ Ok rs) × (s.rules ≡ length rs)
    rules_of = counted_ok (scanned ws) s.rules e

    set_here : SetHere s rules_of.0
    set_here =
        record { formed = (scanned_valid ws rules_of.0 rules_of.1).each; written = w ∙ scanned_encode ws rules_of.0 rules_of.1; count = rules_of.2; inside = subst (λ z. length z ≤ 1024) (sym w) h }

    faulted : (x : Option SetFault) (f : SetFault) → Err f ≡ passed x → x ≡ Some f
    faulted None f e = let z : ◌≡◌ {A = ℕ} 0 1 = cc in absurd (omega arith)
    faulted (Some g) f e = let q : f ≡ g = cc in ap Some (sym q)

    unfaulted : (x : Option SetFault) → Ok tt ≡ passed x → x ≡ None
    unfaulted None e = refl
    unfaulted (Some g) e = let z : ◌≡◌ {A = ℕ} 0 1 = cc in absurd (omega arith)

    pub check_refused : (f : SetFault) → ((rs : List Rule) → SetHere s rs → Err f ≡ passed (second_fault 0 0 rs)) → ReadAs ws (Err f)
    check_refused f k = refused ws f (within ∙ ap settled rules_of.1 ∙ ap (λ z. unless_fault z rules_of.0) (faulted (second_fault 0 0 rules_of.0) f (k rules_of.0 set_here)))

    pub check_passed : ((rs : List Rule) → SetHere s rs → Ok tt ≡ passed (second_fault 0 0 rs)) → ReadAs ws (Ok s)
    check_passed k =
        let r : reading_of ws ≡ Ok rules_of.0 = within ∙ ap settled rules_of.1 ∙ ap (λ z. unless_fault z rules_of.0) (unfaulted (second_fault 0 0 rules_of.0) (k rules_of.0 set_here)) in
        (w, (rules_of.0, r, (each_exact ws rules_of.0).says r, set_here))
