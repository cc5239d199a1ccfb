-- The table's reading: a record with a word of marks for each held link, and a recorded number for each neighbour row. (RULES 5.1, 5.2)
use Rattle.std.specs.Prelude.{ℕ, Bool, cond, ◌&&◌, ◌||◌, not, List, [], ltb, eqb, length}
use Rattle.lists.specs.Lists.{maybe, keep, all}
use Rattle.lists.specs.Keyed.{lookup, has_key, put, map_values}
use Rattle.window.specs.Window.{distance, new, inside, stale, advance, marked, shift, mark, count, has_mark}
use Rattle.rules.specs.Settings.{Config}
use Rattle.rules.specs.Calls.{interface_of}
use Rattle.rules.specs.Messages.{Message}
use Rattle.rules.specs.Rules.{sequence_of, stands_below, Sends, last_sent, Reading, State}

-- ---- records

pub record TableRecord : Type 0 where
  pub current : ℕ
  pub time : ℕ
  pub last_ttl : ℕ
  pub best : ℕ
  -- under each held link its word of marks
  pub links : List (ℕ × ℕ)
  -- the HNA entries, in packet order
  pub entries : List ℕ

abbrev pub marks_at : List (ℕ × ℕ) → (link : ℕ) → ℕ
marks_at ls l = maybe (lookup l ls) 0 (λ v. v)

-- a link is l itself, or stands below a link with the count `high`
abbrev pub is_below : Config → (l high : ℕ) → ℕ × ℕ → Bool
is_below κ l high e = eqb e.0 l || stands_below κ (count e.1) high

-- every other link stands below link l with the word v (RULES 6.5)
abbrev pub is_highest : Config → (l v : ℕ) → List (ℕ × ℕ) → Bool
is_highest κ l v ls = all (is_below κ l (count v)) ls

-- the record x, in which this link has the word v, once the message is counted: this link is best if every other then stands below it,
-- otherwise best stays, even with count 0; a link with no mark that isn't best gives up its place
abbrev pub settle : Config → Message → (v : ℕ) → TableRecord → TableRecord
settle κ m v x =
    let t = cond (is_highest κ m.link v x.links) m.link x.best in
    record {
      current = x.current;
      time = m.time;
      last_ttl = m.ttl;
      best = t;
      links = keep (λ (e : ℕ × ℕ). has_mark e.1 || eqb e.0 t) x.links;
      entries = x.entries;
    }

abbrev pub with_links : List (ℕ × ℕ) → TableRecord → TableRecord
with_links ls x = record { current = x.current; time = x.time; last_ttl = x.last_ttl; best = x.best; links = ls; entries = x.entries }

abbrev pub with_entries : List ℕ → TableRecord → TableRecord
with_entries es x = record { current = x.current; time = x.time; last_ttl = x.last_ttl; best = x.best; links = x.links; entries = es }

-- the number is marked on its link (RULES 6.4)
abbrev pub mark_on : Config → Message → TableRecord → TableRecord
mark_on κ m x =
    let v = mark (marks_at x.links m.link) (distance x.current (sequence_of m)) in
    settle κ m v (with_links (put m.link v x.links) x)

-- a record before its first count: the first number is current, its link best, and its entries are kept
abbrev pub begun : Message → TableRecord
begun m = record { current = sequence_of m; time = m.time; last_ttl = m.ttl; best = m.link; links = []; entries = m.entries }

unfoldable pub first_record : Config → Message → TableRecord
first_record κ m = mark_on κ m (begun m)

-- c becomes current, and numbers no longer inside are forgotten on every link (RULES 4.2)
abbrev pub move_to : Config → (c : ℕ) → TableRecord → TableRecord
move_to κ c x =
    record {
      current = c;
      time = x.time;
      last_ttl = x.last_ttl;
      best = x.best;
      links = map_values (shift κ.settings.window (distance c x.current)) x.links;
      entries = x.entries;
    }

-- the entries once the message is counted: a new number's replace those that are kept, any other's leave them (RULES 6.4)
abbrev pub entries_then : Config → Message → TableRecord → List ℕ
entries_then κ m x = cond (new κ.settings.window x.current (sequence_of m)) m.entries x.entries

-- a new number moves the window (RULES 4.2)
unfoldable pub next_record : Config → Message → TableRecord → TableRecord
next_record κ m x = mark_on κ m (with_entries (entries_then κ m x) (move_to κ (advance κ.settings.window x.current (sequence_of m)) x))

-- the number is stale to the record's window (RULES 4.2)
unfoldable pub is_stale_in : Config → TableRecord → (number : ℕ) → Bool
is_stale_in κ r n = stale κ.settings.window r.current n

unfoldable pub is_marked : Config → TableRecord → (link number : ℕ) → Bool
is_marked κ r l n = inside κ.settings.window r.current n && marked (marks_at r.links l) r.current n

-- ---- neighbour rows

-- the number recorded under each link
abbrev pub TableRows : Type 0
TableRows = List (ℕ × ℕ)

unfoldable pub record_echo : Config → Sends → (link : ℕ) → TableRows → TableRows
record_echo κ ns l rs = put l (last_sent κ ns (interface_of l)) rs

-- last sent number minus recorded number modulo 65,536 (RULES 5.2)
abbrev pub row_distance : Config → Sends → ℕ × ℕ → ℕ
row_distance κ ns e = distance (last_sent κ ns (interface_of e.0)) e.1

unfoldable pub drop_old : Config → Sends → (interface : ℕ) → TableRows → TableRows
drop_old κ ns i rs = keep (λ (e : ℕ × ℕ). not (eqb (interface_of e.0) i) || ltb (row_distance κ ns e) κ.settings.timeout) rs

-- ---- the table

abbrev pub table : Reading
table =
    record {
      Record = TableRecord;
      first = first_record;
      next = next_record;
      time = λ r. r.time;
      last_ttl = λ r. r.last_ttl;
      stale = is_stale_in;
      duplicate = is_marked;
      best = λ κ r. r.best;
      is_best = λ κ r l. eqb r.best l;
      links = λ κ r. map_values count r.links;
      entries = λ κ r. r.entries;
      Rows = TableRows;
      no_rows = [];
      has_row = λ κ rs l. has_key l rs;
      rows_held = λ κ rs. length rs;
      echo = record_echo;
      sent = drop_old;
    }

-- a table as the calls read it
abbrev pub TableState : Type 0
TableState = State TableRows TableRecord
