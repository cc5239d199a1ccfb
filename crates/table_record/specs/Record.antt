-- How one originator's record lies in cells: address, current number, time, last TTL, number of links, best link's pair, number of entries; then the
-- links, then the entries. Cells that no link or entry uses are zero.
use Rattle.std.specs.Prelude.{◌≡◌, List, [], ◌∷◌, ◌++◌, Bool, true, ◌&&◌, ℕ, ◌+◌, ◌*◌, ◌≤◌, ◌<◌, length, take, drop, get_or}
use Rattle.lists.specs.Lists.{and}
use Rattle.lists.specs.Keyed.{rising}
use Rattle.cells.specs.Area.{fit, all_zero}
use Rattle.window.specs.Window.{numbers}
use Rattle.rules.specs.Settings.{Config, link_most, entry_most, link_cells, record_head_cells, link_area_cells, entry_area_cells, record_cells, octets}
use Rattle.rules.specs.Calls.{pairs}
use Rattle.rules.specs.Table.{TableRecord}
use Rattle.rules.specs.WellFormed.{record_tests}
use Rattle.table_record.specs.Links.{link_area, links_from}

-- ---- the places of the fields

abbrev pub address_at : ℕ
address_at = 0

abbrev pub current_at : ℕ
current_at = 1

abbrev pub time_at : ℕ
time_at = 2

abbrev pub last_ttl_at : ℕ
last_ttl_at = 3

-- how many links are held
abbrev pub links_at : ℕ
links_at = 4

-- the best link's pair
abbrev pub best_at : ℕ
best_at = 5

-- how many entries are held
abbrev pub entries_at : ℕ
entries_at = 6

-- ---- from a record, under its originator's address, to cells

abbrev pub fields_of : ℕ × TableRecord → List ℕ
fields_of e = e.0 ∷ e.1.current ∷ e.1.time ∷ e.1.last_ttl ∷ length e.1.links ∷ e.1.best ∷ length e.1.entries ∷ []

unfoldable pub encode_record : ℕ × TableRecord → List ℕ
encode_record e = fields_of e ++ (link_area link_most e.1.links ++ fit entry_area_cells e.1.entries)

-- ---- and back

-- the cells of a record's links
abbrev pub links_part : List ℕ → List ℕ
links_part row = take link_area_cells (drop record_head_cells row)

-- the links that a record's cells hold
abbrev pub links_of : List ℕ → List (ℕ × ℕ)
links_of row = links_from (get_or row links_at 0) (links_part row)

-- the cells of its entries, and the entries that they hold, as many as it is said to have
abbrev pub entries_part : List ℕ → List ℕ
entries_part row = take entry_area_cells (drop (record_head_cells + link_area_cells) row)

abbrev pub entries_in : List ℕ → List ℕ
entries_in row = fit (get_or row entries_at 0) (entries_part row)

unfoldable pub decode_record : List ℕ → ℕ × TableRecord
decode_record row = (
  get_or row address_at 0,
  record {
    current = get_or row current_at 0;
    time = get_or row time_at 0;
    last_ttl = get_or row last_ttl_at 0;
    best = get_or row best_at 0;
    links = links_of row;
    entries = entries_in row;
  },
)

-- the cells of links that no link uses, and those of entries that no entry uses
abbrev pub unused_links : List ℕ → List ℕ
unused_links row = drop (get_or row links_at 0 * link_cells) (links_part row)

abbrev pub unused_entries : List ℕ → List ℕ
unused_entries row = drop (get_or row entries_at 0) (entries_part row)

abbrev pub unused_zero : List ℕ → Bool
unused_zero row = all_zero (unused_links row) && all_zero (unused_entries row)

-- the cells of a record by RULES 5.3, "Well-formed", at the table's time
unfoldable pub record_ok : Config → (now : ℕ) → List ℕ → Bool
record_ok κ now row = and (record_tests κ now (decode_record row)) && unused_zero row

-- ---- what is known of the cells of a record in a well-formed table

pub record Held (row : List ℕ) : Type 0 where
  pub size : length row ≡ record_cells
  pub current : get_or row current_at 0 < numbers
  pub ttl : get_or row last_ttl_at 0 < octets
  pub few : get_or row links_at 0 ≤ link_most
  pub best : get_or row best_at 0 < pairs
  pub rises : rising (links_of row) ≡ true
  pub entries : get_or row entries_at 0 ≤ entry_most
  pub unused : all_zero (unused_entries row) ≡ true
