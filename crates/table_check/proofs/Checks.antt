-- The check's tests are those of RULES 5.3, whatever their order. Assumes nothing.
use mathlib.Core.Path.{◌≡◌, refl, sym, ◌∙◌, subst}
use mathlib.Core.List.{List}
use mathlib.Core.Bool.{Bool, true, ◌&&◌}
use Prim.Native.Nat.{ℕ, ◌+◌, ◌*◌, ◌≤◌, ◌<◌}
use lib.ListN.{length, get_or}
use borrow.Author.Tests.{lt-ltb, eq-eqb}
use Rattle.lists.specs.Lists.{and, all}
use Rattle.lists.specs.Keyed.{rising}
use Rattle.cells.specs.Area.{rows_of, all_zero}
use Rattle.lists.proofs.Tests.{and_left, and_right, both}
use Rattle.lists.proofs.Rising.{rising_in, rising_out}
use Rattle.lists.proofs.Lists.{all_map, all_weaken}
use Rattle.cells.proofs.Bools.{same_test}
use Rattle.cells.proofs.Trips.{length-decoded}
use Rattle.cells.proofs.Pairs.{length_pairs}
use Rattle.rules.specs.Settings.{neighbour_most, interface_cells, record_cells, table_head, cells_needed}
use Rattle.rules.specs.Table.{TableRecord}
use Rattle.rules.specs.WellFormed.{row_tests, record_tests}
use Rattle.rules.proofs.WellFormed.{Wf, whole}
use Rattle.table_record.specs.Record.{decode_record, record_ok}
use Rattle.table_record.proofs.Rows.{record_valid, record_unused}
use Rattle.table_layout.specs.Layout.{capacity_at, used_at, time_at, rows_at, records_at, interface_part, neighbour_part, record_part}
use Rattle.table_layout.specs.Cells.{interfaces_in, config_in, sends_in, rows_in, records_in, decode, unused_records, well_formed}
use Rattle.table_settings.specs.Check.{head_ok, interface_row_ok, interfaces_ok}
use Rattle.table_settings.proofs.Checks.{row-tests, head_sized, each-interface, unused-interfaces, configured_by, sends_by}
use Rattle.table_check.specs.Check.{neighbours_ok, records_ok}
use Rattle.table_layout.specs.Facts.{Sized}
use Rattle.table_layout.proofs.Interfaces.{sends-rise}
use Rattle.table_layout.proofs.Encoding.{free_rows, free_records, holds, records_ok_lem}

-- ---- well-formed cells pass every part of the check

module _ (c : List ℕ) (h : well_formed c ≡ true) where
  pub neighbours_from_lem : neighbours_ok c ≡ true
  unfolding neighbours_ok decode
  neighbours_from_lem = both (both (rising_out (rows_in c) (holds c h).rows.rise) (holds c h).rows.each) (free_rows c h)

  pub records_from_lem : records_ok c ≡ true
  unfolding records_ok decode
  records_from_lem = both (both (rising_out (records_in c) (holds c h).records.rise) (records_ok_lem c h)) (free_records c h)

-- ---- and cells that pass every part are well-formed

module _ (c : List ℕ) (time : get_or c time_at 0 < 18446744073709551616) (hd : head_ok c ≡ true) (hi : interfaces_ok c ≡ true) (hn : neighbours_ok c ≡ true) (hr : records_ok c ≡ true) where
  abbrev rows : List (List ℕ)
  rows = rows_of interface_cells (get_or c used_at 0) (interface_part c)

  abbrev held : List (List ℕ)
  held = rows_of record_cells (get_or c records_at 0) (record_part c)

  sized : Sized c
  sized = head_sized c hd

  each_record : all (record_ok (config_in c) (get_or c time_at 0)) held ≡ true
  unfolding records_ok
  each_record = and_right (rising (records_in c)) _ (and_left _ (all_zero (unused_records c)) hr)

  valid_by : Wf (decode c)
  unfolding decode neighbours_ok records_ok
  valid_by =
      let tests : ℕ × TableRecord → Bool = λ e. and (record_tests (config_in c) (get_or c time_at 0) e) in
      let rr = and_left (rising (rows_in c) && all (λ e. and (row_tests (config_in c) (sends_in c) e)) (rows_in c)) _ hn in
      let er = and_left (rising (records_in c) && all (record_ok (config_in c) (get_or c time_at 0)) held) _ hr in
      record {
        allowed = configured_by c hd hi;
        time = lt-ltb (get_or c time_at 0) 18446744073709551616 time;
        sends_rise = rising_in (sends_in c) (sends-rise 0 (interfaces_in c));
        sends = sends_by c hd hi;
        rows = record {
          rise = rising_in (rows_in c) (and_left (rising (rows_in c)) _ rr);
          most = subst (λ (n : ℕ). n ≤ neighbour_most) (sym (length_pairs (get_or c rows_at 0) (neighbour_part c))) sized.rows;
          each = and_right (rising (rows_in c)) _ rr;
        };
        records = record {
          rise = rising_in (records_in c) (and_left (rising (records_in c)) _ er);
          most = subst (λ (n : ℕ). n ≤ get_or c capacity_at 0) (sym (length-decoded decode_record record_cells (get_or c records_at 0) (record_part c))) sized.records;
          each = all_map decode_record tests held ∙ all_weaken (record_ok (config_in c) (get_or c time_at 0)) _ (record_valid (config_in c) (get_or c time_at 0)) held each_record;
        };
      }

  pub passed-all : well_formed c ≡ true
  unfolding well_formed cells_needed neighbours_ok records_ok
  passed-all =
      both (eq-eqb (length c) (table_head + get_or c capacity_at 0 * record_cells) sized.size)
      (both (whole (decode c) valid_by)
      (both (all_weaken interface_row_ok _ (λ row k. (row-tests row k).1) rows (each-interface c hd hi))
      (both (unused-interfaces c hd hi)
      (both (and_right (rising (rows_in c) && all (λ e. and (row_tests (config_in c) (sends_in c) e)) (rows_in c)) _ hn)
      (both (all_weaken (record_ok (config_in c) (get_or c time_at 0)) _ (record_unused (config_in c) (get_or c time_at 0)) held each_record)
      (both (and_right (rising (records_in c) && all (record_ok (config_in c) (get_or c time_at 0)) held) _ hr) refl))))))

-- the records last, where all else has passed
pub last_test : (c : List ℕ) (r : Bool) → get_or c time_at 0 < 18446744073709551616 → head_ok c ≡ true → interfaces_ok c ≡ true → neighbours_ok c ≡ true → r ≡ records_ok c → r ≡ well_formed c
last_test c r time hd hi hn e = e ∙ same_test (records_ok c) (well_formed c) (passed-all c time hd hi hn) (records_from_lem c)
