-- `seen_in`: the first cells of the part, as many as are held, are the record's entries.
use Rattle.std.proofs.Common.{◌≡◌, sym, ap, ◌∙◌, ◌≤◌, length, take, get_or, List}
use Rattle.std.proofs.lemmas.List.{length-take-le}
use native.Mathlib.Omega.{arith}
use Rattle.cells.proofs.Areas.{fit-take}
use Rattle.rules.specs.WellFormed.{entries_ok}
use Rattle.table_record.specs.Record.{address_at, entries_at, entries_part, entries_in}
use Rattle.table_record.proofs.Rows.{entries-size}
use Rattle.call_lookup.specs.Scan.{HoldsEntries, seen_by}
use Rattle.call_lookup.proofs.seen_in.Goals as goal

module _ (row : List _) (h : HoldsEntries row) (part : List _) (is : part ≡ entries_part row) where
  few : get_or row entries_at 0 ≤ length part
  few = omega (arith, ap length is, entries-size row h.size, h.few)

  held : take (get_or row entries_at 0) part ≡ entries_in row
  held =
      ap (take (get_or row entries_at 0)) is ∙ sym (fit-take (get_or row entries_at 0) (entries_part row) (omega (arith, entries-size row h.size, h.few)))

pub slice_bounds-entries-end : goal.slice_bounds-entries-end
slice_bounds-entries-end c = sym (length-take-le _ _ (few c.args.row.now c.requires _ c.entries_part.ensures))

pub seen_by-requires : goal.seen_by-requires
seen_by-requires c = ap entries_ok (held c.args.row.now c.requires _ c.entries_part.ensures) ∙ c.requires.entries

pub returns : goal.returns
returns c =
    let a = c.args in
    c.seen_by.ensures ∙ ap (λ (l : List _). seen_by a.address (get_or a.row.now address_at 0) l a.best) (held a.row.now c.requires _ c.entries_part.ensures)
