-- The entries of the records in a well-formed table's cells. Assumes nothing.
use mathlib.Core.Path.{◌≡◌, sym, ap, ◌∙◌}
use mathlib.Core.List.{List, []}
use mathlib.Core.Bool.{Bool, true}
use Prim.Native.Nat.{ℕ, ◌*◌, ◌<◌}
use native.Mathlib.Omega.{arith}
use lib.ListN.{length, take, get_or, length-map, get_or-map}
use lib.Seq.{drop-drop}
use borrow.Author.Tests.{ltb-true}
use Rattle.lists.specs.Lists.{and}
use Rattle.lists.proofs.Tests.{and_at}
use Rattle.lists.proofs.Rising.{Rising, rising-map_values}
use Rattle.cells.specs.Area.{rows_of}
use Rattle.cells.proofs.Bools.{all-place}
use Rattle.cells.proofs.Trips.{rows-at, length-decoded}
use Rattle.rules.specs.Settings.{addresses, record_cells}
use Rattle.rules.specs.Rules.{entries_held}
use Rattle.rules.specs.Table.{TableRecord, table}
use Rattle.rules.specs.WellFormed.{field_tests, record_tests}
use Rattle.table_record.specs.Record.{address_at, entries_in, decode_record}
use Rattle.table_layout.specs.Layout.{records_at, records_from, record_part}
use Rattle.table_layout.specs.Cells.{decode}
use Rattle.table_layout.specs.Facts.{Knows, record_at}
use Rattle.table_layout.proofs.Encoding as encoding
use Rattle.table_check.proofs.Knowing.{well_formed_lem, record_within, record_held-at}
use Rattle.table_originators.specs.Originators.{Holds}
use Rattle.call_lookup.specs.Scan.{HoldsEntries}

-- a record's address and entries
abbrev pub addressed : ℕ × TableRecord → ℕ × List ℕ
addressed e = (e.0, e.1.entries)

module _ (c : List ℕ) (k : Knows c) where
  pub entries-rise : Rising (entries_held table (decode c))
  entries-rise = rising-map_values (λ (x : TableRecord). x.entries) (decode c).records (encoding.holds c (well_formed_lem c k)).records.rise

  held-length : length (decode c).records ≡ get_or c records_at 0
  unfolding decode
  held-length = length-decoded decode_record record_cells (get_or c records_at 0) (record_part c)

  pub entries-length : length (entries_held table (decode c)) ≡ get_or c records_at 0
  entries-length = length-map (decode c).records addressed ∙ held-length

  module _ (i : ℕ) (h : i < get_or c records_at 0) where
    pub holds : Holds c i
    holds = record { knows = k; fits = record_within c k i h; row = record_held-at c k i h }

    held_at : get_or (decode c).records i (decode_record []) ≡ decode_record (record_at c i)
    unfolding decode
    held_at =
        let n = get_or c records_at 0 in
        get_or-map decode_record (rows_of record_cells n (record_part c)) i []
        ∙ ap decode_record (rows-at record_cells n (record_part c) i [] h ∙ ap (take record_cells) (drop-drop (i * record_cells) records_from c))

    pub entries_at : get_or (entries_held table (decode c)) i (addressed (decode_record [])) ≡ (get_or (record_at c i) address_at 0, entries_in (record_at c i))
    unfolding decode_record
    entries_at = get_or-map addressed (decode c).records i (decode_record []) ∙ ap addressed held_at

    valid : and (record_tests (decode c).config (decode c).time (decode_record (record_at c i))) ≡ true
    valid =
        let tests : ℕ × TableRecord → Bool = λ e. and (record_tests (decode c).config (decode c).time e) in
        let l = held-length in
        ap tests (sym held_at) ∙ all-place tests (decode c).records i (decode_record []) (encoding.holds c (well_formed_lem c k)).records.each (omega arith)

    pub holds-entries : HoldsEntries (record_at c i)
    unfolding decode_record
    holds-entries =
        let row = record_at c i in
        let tests = record_tests (decode c).config (decode c).time (decode_record row) in
        record {
          size = holds.row.size;
          address = ltb-true (get_or row address_at 0) addresses (and_at (field_tests (decode c).config (decode c).time (decode_record row)) (and_at tests valid 0) 0);
          few = holds.row.entries;
          entries = and_at tests valid 2;
        }
