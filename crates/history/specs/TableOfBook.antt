-- The table that a book describes: each record is what its originator's log says, each neighbour row what a recent echo says. (RULES 10.2)
use Rattle.std.specs.Prelude.{ℕ, map}
use Rattle.lists.specs.Keyed.{tabulate, map_values}
use Rattle.window.specs.Window.{distance, word}
use Rattle.rules.specs.Settings.{Config}
use Rattle.rules.specs.Calls.{interface_of}
use Rattle.rules.specs.Rules.{Sends, last_sent}
use Rattle.rules.specs.Table.{TableRecord, TableRows, TableState}
use Rattle.history.specs.Book.{Log, latest, current, log_entries, stays, log_best, held_links, Echoes, recent, BookState}

-- a link's word of marks
unfoldable pub marks_of : Config → Log → (l : ℕ) → ℕ
marks_of κ s l = word κ.settings.window (λ k. stays κ s l (distance (current κ s) k))

abbrev pub record_of : Config → Log → TableRecord
record_of κ s =
    record {
      current = current κ s;
      time = (latest s).time;
      last_ttl = (latest s).ttl;
      best = log_best κ s;
      links = tabulate (marks_of κ s) (held_links κ s);
      entries = log_entries κ s;
    }

-- a row records the number that its interface had sent last at the echo
abbrev pub row_of : Config → Sends → ℕ × ℕ → ℕ × ℕ
row_of κ ns e = (e.0, distance (last_sent κ ns (interface_of e.0)) e.1)

unfoldable pub rows_of : Config → Sends → Echoes → TableRows
rows_of κ ns es = map (row_of κ ns) (recent κ es)

abbrev pub table_of : BookState → TableState
table_of b =
    record {
      config = b.config;
      time = b.time;
      sends = b.sends;
      rows = rows_of b.config b.sends b.rows;
      records = map_values (record_of b.config) b.records;
    }
