-- `marks_ok` answers whether the marks lie in the window and there are some, or none are needed.
use mathlib.Core.Path.{sym, ◌∙◌}
use mathlib.Core.Bool.{◌&&◌, ◌||◌, not}
use lib.Dec.{eqb}
use Rattle.lists.proofs.Tests.{and_left, and_right}
use Rattle.window.specs.Marks.{word_of}
use Rattle.table_record_check.proofs.Checks.{marks-tests}
use Rattle.table_record_check.proofs.marks_ok.Goals as goal

pub returns-then-has_mark-fits : goal.returns-then-has_mark-fits
returns-then-has_mark-fits c =
    let has = c.has_mark in
    let fit = c.fits in
    let a = c.args in
    let some = sym has.ensures ∙ and_left has.result fit.result c.if-has_mark-fits.true in
    let inside = sym fit.ensures ∙ and_right has.result fit.result c.if-has_mark-fits.true in
    sym (λ i. inside i && (some i || eqb a.pair a.best))

pub returns : goal.returns
returns c =
    let has = c.has_mark in
    let fit = c.fits in
    let a = c.args in
    let again = c.has_mark-2.ensures ∙ sym has.ensures in
    (λ i. not (again i) && eqb a.pair a.best)
    ∙ marks-tests a.window (word_of a.marks) a.best a.pair has.result fit.result has.ensures fit.ensures c.if-has_mark-fits.false
