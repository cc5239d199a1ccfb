-- A record's row of cells once it keeps a message's entries.
use Rattle.std.specs.Prelude.{List, ◌∷◌, ◌++◌, ℕ, take}
use Rattle.cells.specs.Area.{fit}
use Rattle.wire.specs.Check.{entries}
use Rattle.wire.specs.Entries.{entries_of}
use Rattle.rules.specs.Settings.{entry_area_cells}
use Rattle.table_record.specs.Record.{entries_at, links_part}

-- how many they are, and the entries with zeros behind them; the other fields and the links stay
abbrev pub kept_in : (row hna : List ℕ) → List ℕ
kept_in row e = take entries_at row ++ (entries e ∷ (links_part row ++ fit entry_area_cells (entries_of e)))
