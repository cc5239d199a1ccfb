-- Names for what the steps of a sweep are asked and leave.
use Rattle.std.specs.Prelude.{ℕ, ◌-◌, ◌≤◌, ◌≡◌, Bool, true, not, List, map, ltb, leb, length}
use Rattle.lists.specs.Lists.{keep, all}
use Rattle.cells.specs.Area.{rows_of}
use Rattle.rules.specs.declared.Swept.{Swept}
use Rattle.rules.specs.Settings.{capacity_most, record_cells}
use Rattle.rules.specs.Rules.{Outcome, purge}
use Rattle.rules.specs.Table.{TableRows, TableRecord, table}
use Rattle.table_record.specs.Record.{decode_record}
use Rattle.table_layout.specs.Cells.{record_area, decode}

-- the first n records of a part
abbrev pub records_of : (n : ℕ) → List ℕ → List (ℕ × TableRecord)
records_of n c = map decode_record (rows_of record_cells n c)

-- what is known of the part of the records: n of them in room for a capacity, none seen after `time`, and zeros after them
pub record RecordsHeld (n time : ℕ) (c : List ℕ) : Type 0 where
  pub capacity : ℕ
  pub most : capacity ≤ capacity_most
  pub room : n ≤ capacity
  pub cells : c ≡ record_area capacity (records_of n c)
  pub past : all (λ e. leb e.1.time time) (records_of n c) ≡ true

-- a record whose time is not more than the purge timeout ago
abbrev pub is_recent : (time purge : ℕ) → ℕ × TableRecord → Bool
is_recent time p e = not (ltb p (time - e.1.time))

-- the recent ones are left, and zeros after them
pub record Kept (n time p : ℕ) (before after : List ℕ) (kept : ℕ) : Type 0 where
  pub held : kept ≡ length (keep (is_recent time p) (records_of n before))
  pub fewer : kept ≤ n
  pub cells : (capacity : ℕ) → before ≡ record_area capacity (records_of n before) → n ≤ capacity → after ≡ record_area capacity (keep (is_recent time p) (records_of n before))

-- the rules' purge on the table that the cells hold
abbrev pub purged : List ℕ → (time : ℕ) → Outcome TableRows TableRecord
purged c t = purge table (decode c) t

-- the answer, put together in one place: 0 or a refusal, and how many records were removed
abbrev pub swept_as : (number removed : ℕ) → Swept
swept_as n k = record { number = n; removed = k }
