-- A table's cells with a part or a cell changed are the cells of the changed table. Assumes nothing.
use mathlib.Core.Path.{◌≡◌, refl, ap, ap₂, ◌∙◌}
use mathlib.Core.List.{List, ◌++◌, append_assoc}
use Prim.Native.Nat.{ℕ, ◌-◌}
use lib.ListN.{length, drop, set}
use lib.Seq.{drop_at}
use borrow.Rule.Slice.PartMut.{put_mid}
use Rattle.cells.specs.Pairs.{pair_area}
use Rattle.cells.proofs.Lent.{tail_back}
use Rattle.rules.specs.Settings.{neighbour_most, neighbour_area_cells}
use Rattle.rules.specs.Table.{TableRows, TableRecord, TableState}
use Rattle.table_layout.specs.Layout.{time_at, rows_at, records_at, neighbours_from, records_from}
use Rattle.table_layout.specs.Cells.{head_of, interface_area, record_area, encode}
use Rattle.table_layout.proofs.Parts.{wide_rows, before-rows, from_rows, before-records, encoded-size}
use Rattle.table_changes.specs.Changes.{with_time, with_rows, with_records}

module _ (s : TableState) where
  abbrev rows : List ℕ
  rows = pair_area neighbour_most s.rows

  abbrev records : List (ℕ × TableRecord) → List ℕ
  records es = record_area s.config.settings.capacity es

  pub time_set : (t : ℕ) → set (encode s) time_at t ≡ encode (with_time t s)
  unfolding encode
  time_set t = refl

  pub rows_back : (rs : TableRows) → set (put_mid neighbours_from neighbour_area_cells (encode s) (pair_area neighbour_most rs)) rows_at (length rs) ≡ encode (with_rows rs s)
  unfolding encode
  rows_back rs =
      let y = pair_area neighbour_most rs in
      let after : drop neighbour_area_cells (drop neighbours_from (encode s)) ≡ records s.records = ap (drop neighbour_area_cells) (from_rows s) ∙ drop_at rows (records s.records) neighbour_area_cells (wide_rows s) in
      ap (λ (c : List ℕ). set c rows_at (length rs)) (ap₂ (λ (a b : List ℕ). a ++ (y ++ b)) (before-rows s) after ∙ append_assoc (head_of s) (interface_area s) (y ++ records s.records))

  pub records_back : (es : List (ℕ × TableRecord)) (n : ℕ) → n ≡ length (encode s) - records_from → set (put_mid records_from n (encode s) (record_area s.config.settings.capacity es)) records_at (length es) ≡ encode (with_records es s)
  unfolding encode
  records_back es n e =
      ap (λ (c : List ℕ). set c records_at (length es))
      (ap (λ (k : ℕ). put_mid records_from k (encode s) (records es)) e ∙ tail_back (encode s) records_from (records es) (encoded-size s)
      ∙ ap (λ (l : List ℕ). l ++ records es) (before-records s) ∙ append_assoc (head_of s ++ interface_area s) rows (records es) ∙ append_assoc (head_of s) (interface_area s) (rows ++ records es))
