-- `seen_all`: from the best so far the records that are left give what all of them give from the first.
use mathlib.Core.Path.{sym, ap, ◌∙◌, subst}
use mathlib.Core.List.{List, []}
use Prim.Native.Nat.{ℕ, ◌+◌}
use native.Mathlib.Omega.{arith}
use lib.ListN.{drop, get_or}
use Rattle.rules.specs.Rules.{entries_held}
use Rattle.rules.specs.Table.{table}
use Rattle.table_record.specs.Record.{address_at, entries_in, decode_record}
use Rattle.table_layout.specs.Cells.{decode}
use Rattle.call_lookup.specs.Scan.{HoldsEntries, seen_by, seen_all}
use Rattle.call_lookup.proofs.Scan.{next-originator, no_originator}
use Rattle.call_lookup.proofs.Records.{addressed, entries-length, holds, entries_at, holds-entries}
use Rattle.call_lookup.proofs.seen_all.Goals as goal

abbrev held : List ℕ → List (ℕ × List ℕ)
held c = entries_held table (decode c)

pub record_at-requires : goal.record_at-requires
record_at-requires c = holds c.args.cells.now c.requires c.loop-i.i (omega arith)

pub seen_in-best-requires : goal.seen_in-best-requires
seen_in-best-requires c =
    subst HoldsEntries (sym c.record_at.ensures) (holds-entries c.args.cells.now c.requires c.loop-i.i (omega arith))

pub loop-i-preserved : goal.loop-i-preserved
loop-i-preserved c =
    let cs = c.args.cells.now in
    let a = c.args.address in
    let i = c.loop-i.i in
    let b = c.loop-i.best in
    let d = addressed (decode_record []) in (
      omega arith,
      ap (seen_all a (drop (i + 1) (held cs)))
          (c.seen_in-best.ensures
          ∙ ap (λ (row : List ℕ). seen_by a (get_or row address_at 0) (entries_in row) b) c.record_at.ensures
          ∙ ap (λ (x : ℕ × List ℕ). seen_by a x.0 x.1 b) (sym (entries_at cs c.requires i (omega arith))))
          ∙ sym (next-originator (held cs) a i d b (omega (arith, entries-length cs c.requires))) ∙ c.loop-i.invariant.1,
    )

pub returns : goal.returns
returns c =
    let l = c.loop-i in
    let cs = c.args.cells.now in
    sym (no_originator (held cs) c.args.address l.i l.best (omega (arith, entries-length cs c.requires))) ∙ l.invariant.1
