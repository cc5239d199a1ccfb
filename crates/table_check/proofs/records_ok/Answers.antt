-- The loop goes on past a record that may be held, and ends at one that may not, or behind the last.
use Rattle.std.proofs.Common.{refl, ap, sym, ◌∙◌, true, false, arith}
use mathlib.Core.Bool.{and-false}
use Rattle.std.specs.Slice.Iter.{chunks_exact_rest, chunks_exact_size}
use Rattle.cells.specs.Area.{all_zero, rows_of, scan}
use Rattle.cells.proofs.Chunks.{pass_starts, pass_ends, pass-next, pass_stops}
use Rattle.rules.specs.Settings.{record_cells}
use Rattle.table_record.specs.Record.{record_ok}
use Rattle.table_check.proofs.Turns.{records-done}
use Rattle.table_check.proofs.records_ok.Goals as goal

pub loop-row-init : goal.loop-row-init
loop-row-init c =
    let a = c.args in
    let it = c.into_iter-row-iterator.ensures.into_iter_gives in
    let chunks = c.chunks_exact-row-items.ensures in
    record {
      size = ap chunks_exact_size it ∙ chunks.size;
      tests = λ κ time d. pass_starts (record_ok κ time) record_cells a.n a.part.now _ (omega arith) (ap chunks_exact_rest it ∙ chunks.rest ∙ c.split_at.ensures.front);
    }

pub returns-then-not-all_zero : goal.returns-then-not-all_zero
returns-then-not-all_zero c =
    let a = c.args in
    λ κ time d.
    let rows = scan (record_ok κ time) 0 (rows_of record_cells a.n a.part.now) in
    sym (and-false rows) ∙ records-done κ time a.n a.part.now rows false refl (sym c.if-not-all_zero.true ∙ c.all_zero.ensures ∙ ap all_zero c.split_at.ensures.back)

pub returns-then-not-record_ok : goal.returns-then-not-record_ok
returns-then-not-record_ok c =
    let a = c.args in
    let l = c.loop-row in
    let s = c.in-Some.ensures.steps in
    λ κ time d. records-done κ time a.n a.part.now false (all_zero c.split_at.result.1.now)
    (pass_stops (record_ok κ time) record_cells (omega arith) l.low _ _ _ s.1.0 (s.1.1 ∙ l.invariant.size) _ (sym (c.record_ok.ensures.tests κ time d) ∙ c.if-not-record_ok.true) (l.invariant.tests κ time d))
    (ap all_zero c.split_at.ensures.back)

pub loop-row-preserved : goal.loop-row-preserved
loop-row-preserved c =
    let l = c.loop-row in
    let s = c.in-Some.ensures.steps in
    record {
      size = s.0 ∙ l.invariant.size;
      tests = λ κ time d.
          pass-next (record_ok κ time) record_cells (omega arith) l.low _ _ _ s.1.0 (s.1.1 ∙ l.invariant.size) _ (sym (c.record_ok.ensures.tests κ time d) ∙ c.if-not-record_ok.false) (l.invariant.tests κ time d);
    }

pub returns : goal.returns
returns c =
    let a = c.args in
    let l = c.loop-row in
    let s = c.in-None.ensures.steps in
    λ κ time d. records-done κ time a.n a.part.now true true
    (pass_ends (record_ok κ time) record_cells l.low _ _ (omega (arith, s.1.0, l.invariant.size)) (l.invariant.tests κ time d))
    (sym c.if-not-all_zero.false ∙ c.all_zero.ensures ∙ ap all_zero c.split_at.ensures.back)
