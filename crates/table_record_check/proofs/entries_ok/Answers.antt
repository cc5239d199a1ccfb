-- The joined faults are 0 exactly where every entry passes.
use Rattle.std.proofs.Common.{ℕ, sym, ap, ◌∙◌, take, bit_or, arith}
use Rattle.std.specs.Prelude.{fold}
use lib.Dec.{eqb}
use lib.Seq.{take_all, length-take-le}
use Rattle.lists.specs.Lists.{and}
use Rattle.cells.proofs.Areas.{fit-take}
use Rattle.cells.proofs.Keys.{joined}
use Rattle.rules.specs.WellFormed.{entry_tests, entries_ok}
use Rattle.table_record_check.specs.Limits.{entry_fault}
use Rattle.table_record_check.proofs.Checks.{entry-tests}
use Rattle.table_record_check.proofs.entries_ok.Goals as goal

pub returns : goal.returns
returns c =
    let part = c.args.part.now in
    let n = c.args.n in
    let l = c.loop-entry in
    let size = length-take-le n part (omega arith) in
    ap (λ (k : ℕ). eqb k 0) (l.invariant ∙ ap (fold (λ b x. bit_or b (entry_fault x)) 0) (take_all l.entry-index (take n part) (omega (arith, size))))
    ∙ joined entry_fault (λ x. and (entry_tests x)) entry-tests (take n part)
    ∙ ap entries_ok (sym (fit-take n part (omega arith)))
