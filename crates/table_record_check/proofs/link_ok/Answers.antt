-- `link_ok` makes the tests of the pair, and then of the marks.
use mathlib.Core.Path.{sym, ap, ◌∙◌}
use mathlib.Core.Bool.{Bool, ◌&&◌}
use Rattle.window.specs.Marks.{word_of}
use Rattle.table_record_check.specs.Limits.{marks_ok}
use Rattle.table_record_check.proofs.Checks.{pair_small, link-tests}
use Rattle.table_record_check.proofs.link_ok.Goals as goal

pub returns-then-not-low-pair : goal.returns-then-not-low-pair
returns-then-not-low-pair c =
    let a = c.args in
    let t = c.if-not-low-pair.true in
    record {
      small = λ h. pair_small a.limits a.low a.pair (t ∙ h);
      tests = λ κ now d. sym (ap (λ (b : Bool). b && marks_ok a.limits.window a.best a.pair (word_of a.marks)) t) ∙ link-tests κ now a.limits d a.low a.pair (word_of a.marks) a.best;
    }

pub returns : goal.returns
returns c =
    let a = c.args in
    let t = c.if-not-low-pair.false in
    record {
      small = λ h. pair_small a.limits a.low a.pair t;
      tests = λ κ now d. c.marks_ok.ensures ∙ sym (ap (λ (b : Bool). b && marks_ok a.limits.window a.best a.pair (word_of a.marks)) t) ∙ link-tests κ now a.limits d a.low a.pair (word_of a.marks) a.best;
    }
