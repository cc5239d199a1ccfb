-- A well-formed slice is the encoding of what it decodes to; a valid table encodes to well-formed cells and decodes back; tables with equal cells are equal.
-- Assumes nothing.
use mathlib.Core.Path.{◌≡◌, refl, sym, ap, ◌∙◌, subst}
use mathlib.Core.List.{List, ◌∷◌, ◌++◌, map}
use mathlib.Core.Bool.{Bool, true}
use Prim.Native.Nat.{ℕ, ◌+◌, ◌*◌, ◌≤◌}
use native.Mathlib.Omega.{arith}
use lib.Dec.{leb, ltb}
use lib.ListN.{length, drop, get_or, length-drop, length-map}
use borrow.Author.Tests.{le-leb, eqb-true, eq-eqb}
use Rattle.lists.specs.Lists.{and, all}
use Rattle.cells.specs.Area.{area, rows_of, all_zero}
use Rattle.cells.specs.Pairs.{pair_area, pairs_of}
use Rattle.lists.proofs.Tests.{both, and_at}
use Rattle.lists.proofs.Lists.{all_weaken, all_meet, all_true, all_map}
use Rattle.lists.proofs.Rising.{rising_out}
use Rattle.cells.proofs.Trips.{area_trip, rows-area, rest-area, map_back, length-decoded}
use Rattle.cells.proofs.Pairs.{pairs_trip, pairs-area, pairs-rest, length_pairs}
use Rattle.rules.specs.Settings.{allowed, interface_most, neighbour_most, interface_cells, neighbour_cells, record_cells, table_head, cells_needed}
use Rattle.rules.specs.Table.{TableRecord, TableState}
use Rattle.rules.specs.WellFormed.{send_tests, record_tests}
use Rattle.rules.specs.WellFormed as R
use Rattle.rules.proofs.Config.{interfaces-high}
use Rattle.rules.proofs.WellFormed.{Wf, parts}
use Rattle.table_record.specs.Record.{encode_record, decode_record, unused_zero, record_ok}
use Rattle.table_record.proofs.Rows.{length_record, valid_back, record_passes, record_unused, record_trip}
use Rattle.table_layout.specs.Layout.{interface_part, neighbour_part, record_part, used_at, rows_at, records_at, time_at, capacity_at}
use Rattle.table_layout.specs.Interfaces.{InterfaceRow, rows_with, sends_of, encode_interface, decode_interface, sent_tests}
use Rattle.table_layout.specs.Cells.{settings_row, interface_area, record_area, encode, settings_in, interfaces_in, config_in, rows_in, records_in, decode, unused_interfaces, unused_rows, unused_records, cell_tests, well_formed}
use Rattle.table_layout.specs.Laws.{Laws}
use Rattle.table_layout.proofs.Interfaces.{interface-wide, interface_back, interface-tests, interface_trip, interfaces_with, length_with, rows_back, sends_back}
use Rattle.table_layout.proofs.Parts.{length-interfaces, length_neighbours, split, interfaces-lent, rows-lent, records-lent, length-encode}

-- ---- a valid table

module _ (s : TableState) (h : R.well_formed s ≡ true) where
  w : Wf s
  w = parts s h

  abbrev rows : List InterfaceRow
  rows = rows_with s.sends 0 s.config.interfaces

  few : length rows ≤ interface_most
  few = rw (length_with s.sends 0 s.config.interfaces) (interfaces-high s.config w.allowed)

  encoded-rows : rows_of interface_cells (length s.config.interfaces) (interface_part (encode s)) ≡ map encode_interface rows
  encoded-rows =
      (λ i. rows_of interface_cells (sym (length_with s.sends 0 s.config.interfaces) i) (interfaces-lent s i)) ∙ rows-area encode_interface interface_cells interface-wide interface_most rows few

  rows-decode : map decode_interface (rows_of interface_cells (length s.config.interfaces) (interface_part (encode s))) ≡ rows
  rows-decode = ap (map decode_interface) encoded-rows ∙ map_back encode_interface decode_interface (λ (r : InterfaceRow). true) (λ r t. interface_back r) rows (all_true _ (λ r. refl) rows)

  encoded-each : rows_of record_cells (length s.records) (record_part (encode s)) ≡ map encode_record s.records
  encoded-each = ap (rows_of record_cells (length s.records)) (records-lent s) ∙ rows-area encode_record record_cells length_record s.config.settings.capacity s.records w.records.most

  sends-same : sends_of 0 rows ≡ s.sends
  sends-same = sends_back 0 s.sends s.config.interfaces (rising_out s.sends w.sends_rise) (all_weaken _ _ (λ e t. low e.0) s.sends w.sends) (all_weaken _ _ (λ e t. used e t) s.sends w.sends)
    where
      low : (k : ℕ) → leb 0 k ≡ true
      low k = le-leb 0 k (omega arith)

      used : (e : ℕ × ℕ) → and (send_tests s.config e) ≡ true → ltb e.0 (0 + length s.config.interfaces) ≡ true
      used e t = let z : 0 + length s.config.interfaces ≡ length s.config.interfaces = omega arith in ap (ltb e.0) z ∙ and_at (send_tests s.config e) t 0

  pub decode-encode : decode (encode s) ≡ s
  unfolding decode encode
  decode-encode =
      let is : map (λ r. r.0) (map decode_interface (rows_of interface_cells (length s.config.interfaces) (interface_part (encode s)))) ≡ s.config.interfaces =
      ap (map (λ r. r.0)) rows-decode ∙ interfaces_with s.sends 0 s.config.interfaces in
      let ns = ap (sends_of 0) rows-decode ∙ sends-same in
      let rs = ap (pairs_of (length s.rows)) (rows-lent s) ∙ pairs-area neighbour_most s.rows w.rows.most in
      let es = ap (map decode_record) encoded-each ∙ map_back encode_record decode_record (λ e. and (record_tests s.config s.time e)) (valid_back s.config s.time) s.records w.records.each in
      λ i. record { config = record { settings = s.config.settings; interfaces = is i }; time = s.time; sends = ns i; rows = rs i; records = es i }

  pub encode-well_formed : well_formed (encode s) ≡ true
  unfolding well_formed cells_needed encode
  encode-well_formed =
      let cap = s.config.settings.capacity in
      let sent : all (λ row. and (sent_tests row)) (rows_of interface_cells (length s.config.interfaces) (interface_part (encode s))) ≡ true =
      ap (all (λ row. and (sent_tests row))) encoded-rows ∙ all_map encode_interface (λ row. and (sent_tests row)) rows ∙ all_true _ interface-tests rows in
      let free : all_zero (drop (length s.config.interfaces * interface_cells) (interface_part (encode s))) ≡ true =
      (λ i. all_zero (drop (sym (length_with s.sends 0 s.config.interfaces) i * interface_cells) (interfaces-lent s i))) ∙ rest-area encode_interface interface_cells interface-wide interface_most rows in
      let links : all unused_zero (rows_of record_cells (length s.records) (record_part (encode s))) ≡ true =
      ap (all unused_zero) encoded-each ∙ all_map encode_record unused_zero s.records
      ∙ all_weaken _ _ (λ e t. record_unused s.config s.time (encode_record e) (record_passes s.config s.time e t)) s.records w.records.each in
      let free_rows : all_zero (drop (length s.rows * neighbour_cells) (neighbour_part (encode s))) ≡ true =
      ap (λ (l : List ℕ). all_zero (drop (length s.rows * neighbour_cells) l)) (rows-lent s) ∙ pairs-rest neighbour_most s.rows in
      let free_records : all_zero (drop (length s.records * record_cells) (record_part (encode s))) ≡ true =
      ap (λ (l : List ℕ). all_zero (drop (length s.records * record_cells) l)) (records-lent s) ∙ rest-area encode_record record_cells length_record cap s.records in
      both (eq-eqb (length (encode s)) (table_head + cap * record_cells) (length-encode s)) (both (ap R.well_formed decode-encode ∙ h) (both sent (both free (both free_rows (both links (both free_records refl))))))

-- tables with equal cells are equal
pub equal-cells : (s t : TableState) → R.well_formed s ≡ true → R.well_formed t ≡ true → encode s ≡ encode t → s ≡ t
equal-cells s t hs ht e = sym (decode-encode s hs) ∙ ap decode e ∙ decode-encode t ht

-- ---- well-formed cells

pub used-length : (c : List ℕ) → length (map (λ (r : InterfaceRow). r.0) (interfaces_in c)) ≡ get_or c used_at 0
used-length c = length-map (interfaces_in c) (λ (r : InterfaceRow). r.0) ∙ length-decoded decode_interface interface_cells (get_or c used_at 0) (interface_part c)

module _ (c : List ℕ) (h : well_formed c ≡ true) where
  -- each clause by its place, and by name
  clause : (i : ℕ) → get_or (cell_tests c) i true ≡ true
  unfolding well_formed
  clause i = and_at (cell_tests c) h i

  pub sent-rows : all (λ row. and (sent_tests row)) (rows_of interface_cells (get_or c used_at 0) (interface_part c)) ≡ true
  sent-rows = clause 2

  pub free_interfaces : all_zero (unused_interfaces c) ≡ true
  free_interfaces = clause 3

  pub free_rows : all_zero (unused_rows c) ≡ true
  free_rows = clause 4

  pub free_parts : all unused_zero (rows_of record_cells (get_or c records_at 0) (record_part c)) ≡ true
  free_parts = clause 5

  pub free_records : all_zero (unused_records c) ≡ true
  free_records = clause 6

  pub cells-valid : R.well_formed (decode c) ≡ true
  cells-valid = clause 1

  pub cells-size : length c ≡ table_head + get_or c capacity_at 0 * record_cells
  unfolding cells_needed
  cells-size = eqb-true (length c) (cells_needed (get_or c capacity_at 0)) (clause 0)

  pub holds : Wf (decode c)
  holds = parts (decode c) cells-valid

  big : table_head ≤ length c
  big = let e = cells-size in omega arith

  pub used-few : get_or c used_at 0 ≤ interface_most
  unfolding decode
  used-few = subst (λ (n : ℕ). n ≤ interface_most) (used-length c) (interfaces-high (config_in c) holds.allowed)

  pub rows_few : get_or c rows_at 0 ≤ neighbour_most
  unfolding decode
  rows_few = subst (λ (n : ℕ). n ≤ neighbour_most) (length_pairs (get_or c rows_at 0) (neighbour_part c)) holds.rows.most

  pub records-few : get_or c records_at 0 ≤ get_or c capacity_at 0
  unfolding decode
  records-few = subst (λ (n : ℕ). n ≤ get_or c capacity_at 0) (length-decoded decode_record record_cells (get_or c records_at 0) (record_part c)) holds.records.most

  -- each record by itself
  pub records_ok_lem : all (record_ok (config_in c) (get_or c time_at 0)) (rows_of record_cells (get_or c records_at 0) (record_part c)) ≡ true
  unfolding decode record_ok
  records_ok_lem =
      let rows = rows_of record_cells (get_or c records_at 0) (record_part c) in
      let tests : ℕ × TableRecord → Bool = λ e. and (record_tests (config_in c) (get_or c time_at 0) e) in
      all_meet (λ row. tests (decode_record row)) unused_zero _ (λ row g z. both g z) rows (sym (all_map decode_record tests rows) ∙ holds.records.each) free_parts

  interfaces_trip : interface_area (decode c) ≡ interface_part c
  unfolding decode
  interfaces_trip =
      let n = get_or c used_at 0 in
      ap (area encode_interface interface_cells interface_most) (rows_back 0 (interfaces_in c))
      ∙ area_trip encode_interface decode_interface interface_cells (λ row. and (sent_tests row)) interface_trip interface_most n (interface_part c) (length-interfaces c big) used-few sent-rows free_interfaces

  neighbours_trip : pair_area neighbour_most (rows_in c) ≡ neighbour_part c
  neighbours_trip = pairs_trip neighbour_most (get_or c rows_at 0) (neighbour_part c) (length_neighbours c big) rows_few free_rows

  records_trip : record_area (get_or c capacity_at 0) (records_in c) ≡ record_part c
  records_trip =
      let size : length (record_part c) ≡ get_or c capacity_at 0 * record_cells = let e = cells-size in length-drop table_head c ∙ (omega arith) in
      area_trip encode_record decode_record record_cells (record_ok (config_in c) (get_or c time_at 0)) (λ row l k. record_trip (config_in c) (get_or c time_at 0) row k l) (get_or c capacity_at 0) (get_or c records_at 0) (record_part c)
      size records-few records_ok_lem free_records

  -- well-formed cells are the encoding of what they decode to
  pub encode-decode : encode (decode c) ≡ c
  unfolding encode decode
  encode-decode =
      let rest : interface_area (decode c) ++ (pair_area neighbour_most (rows_in c) ++ record_area (get_or c capacity_at 0) (records_in c)) ≡ interface_part c ++ (neighbour_part c ++ record_part c) =
      λ i. interfaces_trip i ++ (neighbours_trip i ++ records_trip i) in
      (λ i. settings_row (settings_in c) ++ (used-length c i ∷ get_or c time_at 0 ∷ length_pairs (get_or c rows_at 0) (neighbour_part c) i ∷ length-decoded decode_record record_cells (get_or c records_at 0) (record_part c) i ∷ rest i))
      ∙ sym (split c big)

-- ---- together

pub laws : Laws
laws = record { cells = encode-decode; table = cells-valid; encoded = encode-well_formed; decoded = decode-encode; equal = equal-cells }
