-- The test is made of the table's window and the current number of the record's row.
use mathlib.Core.Path.{sym, ap, ◌∙◌, subst}
use mathlib.Core.List.{List}
use Prim.Native.Nat.{ℕ}
use native.Mathlib.Omega.{arith}
use lib.ListN.{get_or}
use Rattle.window.specs.Window.{position}
use Rattle.table_record.specs.Record.{current_at, decode_record, Held}
use Rattle.table_layout.specs.Cells.{decode}
use Rattle.table_originators.proofs.position_at.Goals as goal
use Rattle.table_originators.proofs.position_at.Goals.{After-record_at-row}

-- the row that is lent is a record's
held : (c : goal.After-record_at-row) → Held c.record_at-row.result.now
held c = subst Held (sym c.record_at-row.ensures) c.requires.row

pub bounds-row-1 : goal.bounds-row-1
bounds-row-1 c = let h = held (goal.at.bounds-row-1 c).After-record_at-row in omega (arith, h.size)

pub overflow_cast-row : goal.overflow_cast-row
overflow_cast-row c = let h = held (goal.at.overflow_cast-row c).After-record_at-row in omega (arith, h.current)

pub returns : goal.returns
unfolding decode decode_record
returns c =
    let a = c.args in
    c.sequence_test.ensures ∙ ap (λ (row : List ℕ). position (decode a.cells.now).config.settings.window (get_or row current_at 0) a.n) c.record_at-row.ensures
