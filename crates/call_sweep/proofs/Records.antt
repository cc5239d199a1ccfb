-- The pass over the records, and what it leaves of the table. Assumes nothing.
use mathlib.Core.Path.{◌≡◌, refl, sym, ap, ◌∙◌, subst}
use mathlib.Core.Bool.{Bool, not}
use mathlib.Core.List.{List, []}
use Prim.Native.Nat.{ℕ, ◌-◌, ◌*◌, ◌≤◌}
use native.Mathlib.Omega.{arith}
use borrow.Author.Tests.{leb-true}
use lib.Dec.{leb, ltb}
use lib.ListN.{length, get_or}
use Rattle.lists.specs.Lists.{keep}
use Rattle.lists.proofs.Lists.{keep-length}
use Rattle.cells.specs.Area.{rows_of}
use Rattle.cells.proofs.Areas.{length-area}
use Rattle.cells.proofs.Trips.{length-decoded}
use Rattle.cells_moves.specs.Keeping.{IsRow, kept_rows}
use Rattle.cells_moves.proofs.Keeping.{within_area, row_encodes, kept_length, kept_area}
use Rattle.rules.specs.Settings.{record_cells}
use Rattle.rules.specs.Table.{TableRecord}
use Rattle.table_record.specs.Record.{time_at, encode_record, decode_record}
use Rattle.table_record.proofs.Rows.{length_record}
use Rattle.table_layout.specs.Cells.{record_area}
use Rattle.call_sweep.specs.Sweeping.{records_of, RecordsHeld, is_recent, Kept}

row-time : (e : ℕ × TableRecord) → get_or (encode_record e) time_at 0 ≡ e.1.time
unfolding encode_record
row-time e = refl

pub length-records : (n : ℕ) (c : List ℕ) → length (records_of n c) ≡ n
length-records n c = length-decoded decode_record record_cells n c

module _ (n t p : ℕ) (before : List ℕ) (h : RecordsHeld n t before) where
  few : length (records_of n before) ≤ h.capacity
  few = omega (arith, length-records n before, h.room)

  pub within : n * record_cells ≤ length before
  within =
      subst (λ (m : ℕ). m * record_cells ≤ length before) (length-records n before) (within_area encode_record record_cells length_record h.capacity (records_of n before) before h.cells few)

  -- what is known of a record's row that is read
  pub row_read : (row : List ℕ) → IsRow record_cells n before row → (length row ≡ record_cells) × (get_or row time_at 0 ≤ t)
  row_read row (i, l, e) =
      let r = row_encodes encode_record record_cells length_record h.capacity (records_of n before) before h.cells few (λ x. leb x.1.time t) h.past (decode_record []) i (omega (arith, length-records n before)) row e in
      let x = get_or (records_of n before) i (decode_record []) in
      (ap length r.0 ∙ length_record x, omega (arith, ap (λ (c : List ℕ). get_or c time_at 0) r.0 ∙ row-time x, leb-true x.1.time t r.1))

  abbrev pub row_recent : List ℕ → Bool
  row_recent row = not (ltb p (t - get_or row time_at 0))

  same : keep (λ e. row_recent (encode_record e)) (records_of n before) ≡ keep (is_recent t p) (records_of n before)
  same = ap (λ (f : ℕ × TableRecord → ℕ). keep (λ e. not (ltb p (t - f e))) (records_of n before)) (λ j e. row-time e j)

  -- the capacity is told by the number of cells
  capacity_is : (m : ℕ) → before ≡ record_area m (records_of n before) → h.capacity ≡ m
  capacity_is m e =
      omega (arith, ap length h.cells ∙ length-area encode_record record_cells length_record h.capacity (records_of n before), ap length e ∙ length-area encode_record record_cells length_record m (records_of n before))

  pub records_kept : (d : List ℕ) (k : ℕ) → (d ≡ kept_rows row_recent record_cells n before) × (k ≡ length (keep row_recent (rows_of record_cells n before))) → Kept n t p before d k
  records_kept d k (cells, held) =
      let n' = sym (length-records n before) in
      let k' : k ≡ length (keep (is_recent t p) (records_of n before)) =
      held ∙ ap (λ (m : ℕ). length (keep row_recent (rows_of record_cells m before))) n'
      ∙ kept_length encode_record record_cells length_record h.capacity (records_of n before) before h.cells few row_recent ∙ ap length same in
      record {
        held = k';
        fewer = omega (arith, k', keep-length (is_recent t p) (records_of n before), length-records n before);
        cells = λ m eb _. cells ∙ ap (λ (j : ℕ). kept_rows row_recent record_cells j before) n'
            ∙ kept_area encode_record record_cells length_record h.capacity (records_of n before) before h.cells few row_recent
            ∙ ap (record_area h.capacity) same ∙ ap (λ (x : ℕ). record_area x (keep (is_recent t p) (records_of n before))) (capacity_is m eb);
      }
