use Rattle.std.proofs.Common.{◌≡◌, ◌/◌, ◌^◌, ◌<◌, ◌+◌, get_or, refl, rules, tests, arith}
use Rattle.std.proofs.lemmas.Iterator.{first_from_Range}
use lib.Count.{count_trailing_zeros}
use Rattle.bit_store.proofs.Scan.{First, digit_inside, lowest_trailing, clear_before, first_near, first_far, least_first}
use Rattle.bit_store.proofs.bits.next_bit.Goals as goal
use Rattle.bit_store.proofs.bits.next_bit.Goals.{then-rest-ne0, else-rest-ne0+in_ok-at}

pub returns-in_err-at : goal.returns-in_err-at
returns-in_err-at c =
    let ws = c.args.words.now in
    let b = c.args.from in
    let w : get_or ws (b / 32) 0 < 2 ^ 32 = omega arith in
    let h = first_from_Range _ _ _ c.find.result (λ k. 0 < get_or ws k 0) (λ k. get_or ws k 0 ≡ 0) c.find.ensures.ran (λ k q r. search (rules, tests)) (λ k q r. search (rules, tests)) in
    let none = rw c.in_err-at.was at h in
    rw c.from_residual.ensures (λ t m l. clear_before ws b w (omega arith) ((c.args.end + 31) / 32) none t m (omega arith))

pub overflow_mul-found : goal.overflow_mul-found
overflow_mul-found c =
    let ws = c.args.words.now in
    let h = first_from_Range _ _ _ c.find.result (λ k. 0 < get_or ws k 0) (λ k. get_or ws k 0 ≡ 0) c.find.ensures.ran (λ k q r. search (rules, tests)) (λ k q r. search (rules, tests)) in
    let found = rw c.in_ok-at.was at h in
    omega (arith, found.1, c.requires.few.1)

pub returns : goal.returns
returns c =
    let ws = c.args.words.now in
    let b = c.args.from in
    let w : get_or ws (b / 32) 0 < 2 ^ 32 = omega arith in
    let first : First ws b c.if-rest-ne0.found =
    elim c.if-rest-ne0.branch [
      | then-rest-ne0 p ↦ let a = p.if-rest-ne0.true in let q = p.found-is in rw p.found-is (first_near ws b w (omega (arith, a)))
      | else-rest-ne0+in_ok-at p ↦ let q = p.found-is in
          let h = first_from_Range _ _ _ p.find.result (λ k. 0 < get_or ws k 0) (λ k. get_or ws k 0 ≡ 0) p.find.ensures.ran (λ k q r. search (rules, tests)) (λ k q r. search (rules, tests)) in
          let found = rw p.in_ok-at.was at h in
          rw p.found-is (first_far ws b w (omega arith) p.in_ok-at.at found.0 (omega arith) found.2 found.3)
    ] in
    least_first ws b c.if-rest-ne0.found c.args.end _ c.then_some.result first refl c.then_some.ensures

pub overflow_add-found-else-rest-ne0 : goal.overflow_add-found-else-rest-ne0
overflow_add-found-else-rest-ne0 c =
    let ws = c.args.words.now in
    let h = first_from_Range _ _ _ c.find.result (λ k. 0 < get_or ws k 0) (λ k. get_or ws k 0 ≡ 0) c.find.ensures.ran (λ k q r. search (rules, tests)) (λ k q r. search (rules, tests)) in
    let found = rw c.in_ok-at.was at h in
    let some : 0 < get_or ws c.in_ok-at.at 0 = found.2 in
    let z = digit_inside (get_or ws c.in_ok-at.at 0) 32 (count_trailing_zeros 32 (get_or ws c.in_ok-at.at 0)) (omega arith) (lowest_trailing 32 (get_or ws c.in_ok-at.at 0) some (omega arith)).here in
    omega (arith, z, found.1, c.requires.few.1)
