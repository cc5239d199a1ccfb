-- What a well-formed table tells, and how its records are found in the cells. Assumes nothing.
use mathlib.Core.Path.{◌≡◌, sym, ap, ◌∙◌}
use mathlib.Core.List.{List, []}
use mathlib.Core.Bool.{true}
use mathlib.Core.Option.{none, some}
use Prim.Native.Nat.{ℕ, ◌+◌, ◌*◌, ◌≤◌, ◌<◌}
use native.Mathlib.Nat.{mul-le-mul_right}
use native.Mathlib.Omega.{arith}
use lib.ListN.{length, take, drop, get_or, length-drop, get_or-map}
use lib.Seq.{drop-drop, length-take-le}
use Rattle.lists.specs.Keyed.{lookup}
use Rattle.lists.proofs.Rising.{rising_out}
use Rattle.cells.specs.Area.{rows_of, column}
use Rattle.cells.specs.Find.{Sorted, IsAt, IsPlace}
use Rattle.cells.proofs.Bools.{all-place}
use Rattle.cells.proofs.Trips.{rows-at, length-rows_of}
use Rattle.cells.proofs.Search.{sorted, found_at, found-place, at-below}
use Rattle.rules.specs.Settings.{record_cells}
use Rattle.rules.specs.Table.{TableRecord, TableState}
use Rattle.rules.specs.WellFormed as R
use Rattle.table_record.specs.Record.{decode_record, record_ok, Held}
use Rattle.table_record.proofs.Rows.{record_key, record_held}
use Rattle.table_layout.specs.Layout.{records_at, time_at, records_from, record_part}
use Rattle.table_layout.specs.Cells.{config_in, records_in, encode, decode, well_formed}
use Rattle.table_layout.specs.Facts.{Knows, record_at}
use Rattle.table_layout.proofs.Encoding.{holds, encode-well_formed, encode-decode, cells-valid, records_ok_lem}
use Rattle.table_settings.proofs.Checks.{head_from, head_sized}

pub knows : (c : List ℕ) → well_formed c ≡ true → Knows c
knows c h = record { sized = head_sized c (head_from c h); valid = cells-valid c h; cells = encode-decode c h }

-- so do the cells of a valid table
pub knows-encoded : (s : TableState) → R.well_formed s ≡ true → Knows (encode s)
knows-encoded s h = knows (encode s) (encode-well_formed s h)

module _ (c : List ℕ) (k : Knows c) where
  pub well_formed_lem : well_formed c ≡ true
  well_formed_lem = ap well_formed (sym k.cells) ∙ encode-well_formed (decode c) k.valid

  -- record i lies within
  pub record_within : (i : ℕ) → i < get_or c records_at 0 → records_from + i * record_cells + record_cells ≤ length c
  record_within i h = let s = k.sized.size in let n = k.sized.records in omega arith

  pub records_sorted : Sorted record_cells (get_or c records_at 0) (record_part c)
  unfolding decode
  records_sorted =
      let s = k.sized.size in
      let m = mul-le-mul_right record_cells k.sized.records in
      let l = length-drop records_from c in
      sorted decode_record record_key record_cells (get_or c records_at 0) (record_part c) (omega arith) (omega arith) (rising_out (records_in c) (holds c well_formed_lem).records.rise)

  row_is : (i : ℕ) → take record_cells (drop (i * record_cells) (record_part c)) ≡ record_at c i
  row_is i = ap (take record_cells) (drop-drop (i * record_cells) records_from c)

  pub record_held-at : (i : ℕ) → i < get_or c records_at 0 → Held (record_at c i)
  record_held-at i h =
      let n = get_or c records_at 0 in
      let rows = rows_of record_cells n (record_part c) in
      let e = rows-at record_cells n (record_part c) i [] h ∙ row_is i in
      let r = length-rows_of record_cells n (record_part c) in
      let ok = all-place (record_ok (config_in c) (get_or c time_at 0)) rows i [] (records_ok_lem c well_formed_lem) (omega arith) in
      let w = record_within i h in
      let len = length-drop (records_from + i * record_cells) c in
      record_held (config_in c) (get_or c time_at 0) (record_at c i) (ap (record_ok (config_in c) (get_or c time_at 0)) (sym e) ∙ ok) (length-take-le record_cells (drop (records_from + i * record_cells) c) (omega arith))

  -- what a search of the addresses finds
  pub record_found : (a i : ℕ) → IsAt (column record_cells (get_or c records_at 0) (record_part c)) a i → lookup a (records_in c) ≡ some (decode_record (record_at c i)).1
  record_found a i p =
      let n = get_or c records_at 0 in
      let rows = rows_of record_cells n (record_part c) in
      let h = at-below record_cells n (record_part c) a i p in
      (found_at decode_record record_key record_cells n (record_part c) records_sorted a i p).found (decode_record [])
      ∙ ap (λ (e : ℕ × TableRecord). some e.1) (get_or-map decode_record rows i [] ∙ ap decode_record (rows-at record_cells n (record_part c) i [] h ∙ row_is i))

  pub record_missing : (a i : ℕ) → IsPlace (column record_cells (get_or c records_at 0) (record_part c)) a i → lookup a (records_in c) ≡ none
  record_missing a i p = (found-place decode_record record_key record_cells (get_or c records_at 0) (record_part c) a i p).missing
