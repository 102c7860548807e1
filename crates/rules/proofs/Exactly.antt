-- words are read as rules exactly when they say them
use Rattle.std.proofs.Common.{◌≡◌, ℕ, ◌≤◌, Bool, true, false, cond, ltb, List, length, Some, None, Ok, Err, Option, Result, refl, ap, ◌∙◌, subst, arith}
use Rattle.std.proofs.ByRecursion.{All-weaker}
use Rattle.std.proofs.lemmas.Bool.{ltb-false, le-ltb}
use Rattle.words.specs.declared.faults.Cause.TheVariants.{TooManyWords}
use Rattle.rules.specs.declared.faults.SetFault.{SetFault}
use Rattle.rules.specs.Rules.{Rule, scanned, encode}
use Rattle.rules.specs.Formed.{FormedRule, FormedRules}
use Rattle.rules.specs.Marks.{second_fault, unless_fault, settled}
use Rattle.rules.specs.Valid.{ValidRule, ValidRules}
use Rattle.rules.specs.Reading.{reading_of, Says, Exact}
use Rattle.rules.proofs.Sound.{scanned_encode}
use Rattle.rules.proofs.Complete.{encode_scanned, encode_injective}
use Rattle.rules.proofs.Keeping.{scanned_valid}
use Rattle.rules.proofs.Clean.{rules_clean, clean_rules}

pub formed_from : (rs : List Rule) → ValidRules rs → FormedRules rs
formed_from rs v = record { each = All-weaker ValidRule FormedRule (λ r k. k.formed) rs v.each; few = v.few }

unfaulted : (x : Option SetFault) (qs rs : List Rule) → unless_fault x qs ≡ Ok rs → (x ≡ None) × (qs ≡ rs)
unfaulted None qs rs h = (refl, cc)
unfaulted (Some f) qs rs h = let z : ◌≡◌ {A = ℕ} 0 1 = cc in absurd (omega arith)

settled_from : (x : Result (List Rule) SetFault) (rs : List Rule) → settled x ≡ Ok rs → (x ≡ Ok rs) × (second_fault 0 0 rs ≡ None)
settled_from (Ok qs) rs h = let k = unfaulted (second_fault 0 0 qs) qs rs h in (ap Ok k.1, subst (λ z. second_fault 0 0 z ≡ None) k.1 k.0)
settled_from (Err f) rs h = let z : ◌≡◌ {A = ℕ} 0 1 = cc in absurd (omega arith)

short_enough : (b : Bool) (x : Result (List Rule) SetFault) (rs : List Rule) → cond b (Err (record { place = 1024; rule = 0; cause = TooManyWords })) x ≡ Ok rs → (b ≡ false) × (x ≡ Ok rs)
short_enough false x rs h = (refl, h)
short_enough true x rs h = let z : ◌≡◌ {A = ℕ} 0 1 = cc in absurd (omega arith)

says_from : (ws : List ℕ) (rs : List Rule) → reading_of ws ≡ Ok rs → Says ws rs
says_from ws rs h =
    let a = short_enough (ltb 1024 (length ws)) (settled (scanned ws)) rs h in
    let b = settled_from (scanned ws) rs a.1 in
    let f = scanned_valid ws rs b.0 in
    let w = scanned_encode ws rs b.0 in
    let l : length ws ≤ 1024 = ltb-false 1024 (length ws) a.0 in
    record { valid = record { each = clean_rules 0 0 rs f.each b.1; few = f.few; short = subst (λ z. length z ≤ 1024) w l }; written = w }

read_from : (ws : List ℕ) (rs : List Rule) → Says ws rs → reading_of ws ≡ Ok rs
read_from ws rs s =
    let e : ltb 1024 (length (encode rs)) ≡ false = le-ltb 1024 (length (encode rs)) s.valid.short in
    ap reading_of s.written
    ∙ ap (λ z. cond z (Err (record { place = 1024; rule = 0; cause = TooManyWords })) (settled (scanned (encode rs)))) e
    ∙ ap settled (encode_scanned rs (formed_from rs s.valid))
    ∙ ap (λ z. unless_fault z rs) (rules_clean 0 0 rs s.valid.each)

pub each_exact : (ws : List ℕ) (rs : List Rule) → Exact ws rs
each_exact ws rs = record { says = says_from ws rs; read = read_from ws rs }

pub each_apart : (rs qs : List Rule) → ValidRules rs → ValidRules qs → encode rs ≡ encode qs → rs ≡ qs
each_apart rs qs v u e = encode_injective rs qs (formed_from rs v) (formed_from qs u) e
