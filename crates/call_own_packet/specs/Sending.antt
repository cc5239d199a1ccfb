-- What is known at the own packet's steps, and what they leave.
use Rattle.std.specs.Prelude.{ℕ, ◌≤◌, length, get_or, List}
use Rattle.rules.specs.Calls.{OwnArgs}
use Rattle.rules.specs.Rules.{Outcome, own_packet, send}
use Rattle.rules.specs.Table.{TableRows, TableRecord, table}
use Rattle.table_layout.specs.Layout.{rows_at, records_from, neighbour_part}
use Rattle.table_layout.specs.Cells.{decode}
use Rattle.table_neighbours.specs.Neighbours.{RowsHeld}

-- the rules' send on the table that the cells hold
abbrev pub sent_from : List ℕ → OwnArgs → Outcome TableRows TableRecord
sent_from c a = let s = decode c in send table s a (own_packet s.config s.sends a)

-- what is known of the part of neighbour rows, also where some are too far behind
pub record RowsPart (c : List ℕ) : Type 0 where
  pub size : records_from ≤ length c
  pub held : RowsHeld (get_or c rows_at 0) (neighbour_part c)
