-- `decimal` reads a word as the definition does: what is left of the word, read on from the number so far, is the word read whole.
use Rattle.std.proofs.Common.{sym, ◌∙◌, arith}
use Rattle.std.proofs.lemmas.Bool.Decides.{nat_tests}
use Rattle.script_numbers.proofs.Laws.{none_read, reading, digit_read, digit_bad, all_read}
use Rattle.script_numbers.proofs.decimal.Goals as goal

pub returns-then-is_empty : goal.returns-then-is_empty
returns-then-is_empty c = none_read _ _ (grind (arith, nat_tests, c.if-is_empty.ensures))

pub loop-octet-init : goal.loop-octet-init
loop-octet-init c = reading _ _ (grind (arith, nat_tests, c.if-is_empty.ensures))

pub returns-in_err-number : goal.returns-in_err-number
returns-in_err-number c =
    let a = c.args in
    c.from_residual.ensures ∙ sym (digit_bad a.most c.loop-octet.number a.word.now c.loop-octet.octet-index c.loop-octet-test.true c.in_err-number.ensures) ∙ c.loop-octet.invariant

pub loop-octet-preserved : goal.loop-octet-preserved
loop-octet-preserved c =
    let a = c.args in
    sym (digit_read a.most c.loop-octet.number a.word.now c.loop-octet.octet-index c.loop-octet-test.true c.in_ok-number.number c.in_ok-number.ensures) ∙ c.loop-octet.invariant

pub returns : goal.returns
returns c =
    let a = c.args in
    sym (all_read a.most c.loop-octet.number a.word.now c.loop-octet.octet-index (omega arith)) ∙ c.loop-octet.invariant
