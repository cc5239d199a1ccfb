-- What a counted message leaves of a record's row of cells. The rules are those of `rules`; here are names alone.
use Rattle.std.specs.Prelude.{ℕ, ◌≡◌, false, List, Result, Ok, Err, get_or}
use Rattle.std.proofs.Math.Option.{Option, none, some}
use Rattle.wire.specs.declared.Fault.{Fault}
use Rattle.wire.specs.Check.{first_of}
use Rattle.wire.specs.declared.refusals.Refusal.{Refusal}
use Rattle.wire.specs.Refusals.{fault_by}
use Rattle.window.specs.declared.Marks.{Marks}
use Rattle.window.specs.declared.Position.{Position}
use Rattle.window.specs.Window.{position, is_stale}
use Rattle.window.specs.Marks.{word_of}
use Rattle.rules.specs.declared.Route.{Route}
use Rattle.rules.specs.declared.Policy.{Policy}
use Rattle.rules.specs.Settings.{Config}
use Rattle.rules.specs.Messages.{Message}
use Rattle.rules.specs.Rules.{counted_faults, route_of}
use Rattle.rules.specs.Table.{TableRecord, table, marks_at, first_record, next_record}
use Rattle.table_record.specs.Record.{current_at, encode_record, decode_record}

-- the number n lies so beside the window of a record's row, and is not stale
pub record Timely (p : Policy) (row : List ℕ) (n : ℕ) (q : Position) : Type 0 where
  pub lies : q ≡ position p.window (get_or row current_at 0) n
  pub timely : is_stale q ≡ false

-- what is refused of a record after counting: 11 or 15, if anything
abbrev pub counted_fault : Config → TableRecord → Option Fault
counted_fault κ y = first_of (counted_faults table κ y)

-- the message is counted and the row is that of the next record, in which its link has these marks; or, exactly where that record is refused, nothing changes
abbrev pub CountedIn : Config → Message → (before after : List ℕ) → Result Marks Refusal → Type 0
CountedIn κ m before after (Ok marks) =
    (counted_fault κ (next_record κ m (decode_record before).1) ≡ none)
    × (after ≡ encode_record ((decode_record before).0, next_record κ m (decode_record before).1))
    × (word_of marks ≡ marks_at (next_record κ m (decode_record before).1).links m.link)
CountedIn κ m before after (Err r) = (counted_fault κ (next_record κ m (decode_record before).1) ≡ some (fault_by r)) × (after ≡ before)

-- the first counted message makes the record: the row of its cells, and its route
pub record FirstIn (κ : Config) (m : Message) (address : ℕ) (after : List ℕ) (r : Route) : Type 0 where
  pub cells : after ≡ encode_record (address, first_record κ m)
  pub route : r ≡ route_of table κ (some (first_record κ m))
