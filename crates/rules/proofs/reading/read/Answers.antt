use Rattle.std.proofs.Common.{refl, arith}
use Rattle.std.proofs.lemmas.Result.{err_from_is_err_and}
use Rattle.rules.proofs.Exactly.{each_exact, each_apart}
use Rattle.rules.proofs.Closing.{rule_told}
use Rattle.rules.proofs.ValidLaws.{lawful}
use Rattle.rules.proofs.Answering.{too_many, scan_refused, check_refused, check_passed}
use Rattle.rules.proofs.reading.read.Goals as goal

pub returns-then-words-gt1024 : goal.returns-then-words-gt1024
returns-then-words-gt1024 c = record { answer = too_many c.args.words.now c.if-words-gt1024.true; exact = each_exact; apart = each_apart; told = rule_told; laws = lawful }

pub returns-in_err-rules : goal.returns-in_err-rules
returns-in_err-rules c = let p = err_from_is_err_and c.from_residual.result c.from_residual.ensures.1 in record { answer = rw (p.1, p.2) (scan_refused c.args.words.now (let z = c.if-words-gt1024.false in omega arith) c.in_err-rules.field-0.0 c.in_err-rules.ensures); exact = each_exact; apart = each_apart; told = rule_told; laws = lawful }

pub returns-in_err-check : goal.returns-in_err-check
returns-in_err-check c = let p = err_from_is_err_and c.from_residual-in_err-check.result c.from_residual-in_err-check.ensures.1 in record { answer = rw (p.1, p.2) (check_refused c.args.words.now (let z = c.if-words-gt1024.false in omega arith) (record { words = c.args.words; rules = c.in_ok-rules.rules }) refl c.in_ok-rules.ensures c.in_err-check.field-0.0 c.in_err-check.ensures); exact = each_exact; apart = each_apart; told = rule_told; laws = lawful }

pub returns : goal.returns
returns c = record { answer = check_passed c.args.words.now (let z = c.if-words-gt1024.false in omega arith) (record { words = c.args.words; rules = c.in_ok-rules.rules }) refl c.in_ok-rules.ensures c.in_ok-check.ensures; exact = each_exact; apart = each_apart; told = rule_told; laws = lawful }
