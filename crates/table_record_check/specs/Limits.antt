-- What a record's cells are held to, as the check carries it along.
use Rattle.std.specs.Prelude.{◌≡◌, List, Bool, true, ◌&&◌, ◌||◌, ℕ, ◌+◌, ◌*◌, ◌-◌, ◌/◌, ◌%◌, ◌^◌, ◌≤◌, ◌<◌, leb, ltb, eqb, length, get_or}
use Rattle.lists.specs.Lists.{and, elem}
use Rattle.cells.specs.Area.{all_zero}
use Rattle.window.specs.Window.{has_mark}
use Rattle.wire.specs.Layout.{mask_most}
use Rattle.rules.specs.Settings.{Config, link_most, entry_most, addresses, octets, is_own}
use Rattle.rules.specs.Calls.{pairs}
use Rattle.rules.specs.WellFormed.{link_tests, entries_ok, field_tests, links_tests}
use Rattle.table_record_check.specs.declared.record_limits.Limits.{Limits}
use Rattle.table_record.specs.Record.{address_at, links_at, best_at, entries_at, links_of, entries_in, decode_record, unused_links, unused_entries, record_ok}

abbrev pub own_of : Limits → List ℕ
own_of l = l.own

-- the limits are those of a table
pub record Describes (κ : Config) (now : ℕ) (l : Limits) : Type 0 where
  pub window : l.window ≡ κ.settings.window
  pub used : l.used ≡ length κ.interfaces
  pub time : l.time ≡ now
  pub own : (a : ℕ) → elem a (own_of l) ≡ is_own κ a

-- the tests of the fields before links and entries, where addresses below `low` are passed
abbrev pub fields_ok : Config → (now low : ℕ) → List ℕ → Bool
fields_ok κ now low row = leb low (get_or row address_at 0) && and (field_tests κ now (decode_record row))

-- marks that a link may have: none outside the window, and one at least unless it is best
abbrev pub marks_ok : (W best pair marks : ℕ) → Bool
marks_ok W best pair marks = ltb marks (2 ^ W) && (has_mark marks || eqb pair best)

-- links that may be held: each by itself, rising by the pair, best among them
abbrev pub links_ok : Config → (best : ℕ) → List (ℕ × ℕ) → Bool
links_ok κ best ls = and (links_tests κ best ls)

-- the cells of a record's links, and those of its entries: what they hold may be held, and zeros behind it
abbrev pub links_part_ok : Config → List ℕ → Bool
links_part_ok κ row = links_ok κ (get_or row best_at 0) (links_of row) && all_zero (unused_links row)

-- what is beyond an address before an entry's mask, and what a mask that is too long carries over
abbrev pub entry_fault : (entry : ℕ) → ℕ
entry_fault e = e / (addresses * octets) + (e % octets + (octets - 1 - mask_most)) / octets

abbrev pub entries_part_ok : List ℕ → Bool
entries_part_ok row = entries_ok (entries_in row) && all_zero (unused_entries row)

-- ---- what the checks answer, of every table that the limits are those of; a key that passes leaves room for the next

pub record LinkChecked (l : Limits) (best low pair marks : ℕ) (r : Bool) : Type 0 where
  pub small : r ≡ true → pair < pairs
  pub tests : (κ : Config) (now : ℕ) → Describes κ now l → r ≡ leb low pair && and (link_tests κ best (pair, marks))

pub record FieldsChecked (l : Limits) (low : ℕ) (row : List ℕ) (r : Bool) : Type 0 where
  pub small : r ≡ true → get_or row address_at 0 < addresses
  pub few : r ≡ true → get_or row links_at 0 ≤ link_most
  pub few_entries : r ≡ true → get_or row entries_at 0 ≤ entry_most
  pub tests : (κ : Config) (now : ℕ) → Describes κ now l → r ≡ fields_ok κ now low row

pub record RecordChecked (l : Limits) (low : ℕ) (row : List ℕ) (r : Bool) : Type 0 where
  pub small : r ≡ true → get_or row address_at 0 < addresses
  pub tests : (κ : Config) (now : ℕ) → Describes κ now l → r ≡ leb low (get_or row address_at 0) && record_ok κ now row
