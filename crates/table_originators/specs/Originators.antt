-- The originators' records in a table's cells.
use Rattle.std.specs.Prelude.{ℕ, ◌+◌, ◌*◌, ◌≤◌, ◌≡◌, Bool, true, cond, List, map, length}
use Rattle.std.proofs.Math.Option.{none, some}
use Rattle.lists.specs.Keyed.{lookup, put}
use Rattle.cells.specs.Find.{IsAt, IsPlace, Halving}
use Rattle.std.specs.Prelude.{Result, Ok, Err}
use Rattle.cells.specs.declared.SearchResult.{SearchResult}
use Rattle.window.specs.declared.Position.{Position}
use Rattle.window.specs.Window.{position}
use Rattle.wire.specs.declared.refusals.Refusal.{Refusal}
use Rattle.rules.specs.Messages.{Message}
use Rattle.rules.specs.declared.Route.{Route}
use Rattle.rules.specs.Settings.{record_cells}
use Rattle.rules.specs.Rules.{route_of}
use Rattle.rules.specs.Table.{TableRecord, TableState, table, first_record, next_record}
use Rattle.table_record.specs.Record.{decode_record, Held}
use Rattle.table_layout.specs.Layout.{records_from}
use Rattle.table_layout.specs.Cells.{encode, decode}
use Rattle.table_layout.specs.Facts.{Knows, record_at}
use Rattle.table_changes.specs.Changes.{with_records}
use Rattle.hear_message.specs.declared.Heard.{Heard}
use Rattle.hear_message.specs.Hearing.{is_taken, Answers}

-- the originators held, in table order
abbrev pub held_by : TableState → List ℕ
held_by s = map (λ (e : ℕ × TableRecord). e.0) s.records

-- where the cells of record i begin
abbrev pub record_place : (i : ℕ) → ℕ
record_place i = records_from + i * record_cells

-- a well-formed table's cells hold a record at place i
pub record Holds (c : List ℕ) (i : ℕ) : Type 0 where
  pub knows : Knows c
  pub fits : record_place i + record_cells ≤ length c
  pub row : Held (record_at c i)

-- it is that of originator o
pub record Stands (c : List ℕ) (o i : ℕ) : Type 0 where
  pub holds : Holds c i
  pub at : IsAt (held_by (decode c)) o i
  pub key : (decode_record (record_at c i)).0 ≡ o
  pub found : lookup o (decode c).records ≡ some (decode_record (record_at c i)).1

-- o has no record, and would have it at place i
pub record Missing (c : List ℕ) (o i : ℕ) : Type 0 where
  pub knows : Knows c
  pub place : IsPlace (held_by (decode c)) o i
  pub none : lookup o (decode c).records ≡ none

abbrev pub RecordFound : List ℕ → (o : ℕ) → Result ℕ ℕ → Type 0
RecordFound c o (Ok i) = Stands c o i
RecordFound c o (Err i) = Missing c o i

-- the most rounds that a search for an originator takes
abbrev pub rounds_most : ℕ
rounds_most = 9

-- what a search for o answers: its record, or the place where it belongs, by halving the originators held; each round compares o with one of them,
-- and there are at most nine
pub record RecordSought (c : List ℕ) (o : ℕ) (s : SearchResult) : Type 0 where
  pub found : RecordFound c o s.found
  pub rounds : Halving (held_by (decode c)) o 0 (length (held_by (decode c))) s.rounds s.found
  pub few : s.rounds ≤ rounds_most

-- the record that stands at place i, and the one that it becomes once a message is counted in it
abbrev pub standing_at : List ℕ → (i : ℕ) → TableRecord
standing_at c i = (decode_record (record_at c i)).1

abbrev pub counted_at : List ℕ → (i : ℕ) → Message → TableRecord
counted_at c i m = next_record (decode c).config m (standing_at c i)

-- the number n lies so beside the window of the record at place i
abbrev pub LiesAt : List ℕ → (i n : ℕ) → Position → Type 0
LiesAt c i n q = q ≡ position (decode c).config.settings.window (standing_at c i).current n

-- what is answered of a message to the record of o, and the cells d that it leaves: where it is taken, those of the table with the next record
pub record HeardAt (c d : List ℕ) (o i : ℕ) (m : Message) (bidirectional : Bool) (r : Result Heard Refusal) : Type 0 where
  pub answers : Answers (decode c).config m bidirectional (standing_at c i) r
  pub cells : d ≡ cond (is_taken (decode c).config m bidirectional (standing_at c i)) (encode (with_records (put o (counted_at c i m) (decode c).records) (decode c))) c

-- the first counted message of o makes its record: the cells d have it, the message's link is best, and r is the route
pub record Made (c d : List ℕ) (o : ℕ) (m : Message) (r : Route) : Type 0 where
  pub cells : d ≡ encode (with_records (put o (first_record (decode c).config m) (decode c).records) (decode c))
  pub best : table.is_best (decode c).config (first_record (decode c).config m) m.link ≡ true
  pub route : r ≡ route_of table (decode c).config (some (first_record (decode c).config m))
