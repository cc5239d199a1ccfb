-- What the list call finds, and what it answers and writes.
use Rattle.std.specs.Prelude.{◌≡◌, List, [], Result, Ok, Err, IfOk, cond, ℕ, ◌≤◌, ◌<◌, eqb, length, take, get_or}
use Rattle.lists.specs.Lists.{written_to}
use Rattle.wire.specs.declared.refusals.Refusal.{Refusal}
use Rattle.wire.specs.Refusals.{fault_by}
use Rattle.window.specs.Window.{count}
use Rattle.rules.specs.declared.LinkRow.{LinkRow}
use Rattle.rules.specs.declared.Listed.{Listed}
use Rattle.rules.specs.Settings.{link_most, record_cells}
use Rattle.rules.specs.Calls.{neighbour_of, interface_of, pairs, list, listed, Reply, answered_filling}
use Rattle.table_record.specs.Links.{link_at}
use Rattle.table_record.specs.Record.{links_at, links_part}
use Rattle.table_layout.specs.Calls.{Performed}
use Rattle.call_list.specs.declared.Links.{Links}

-- ---- rows

-- what stands in a place that no link takes
abbrev pub zero_row : LinkRow
zero_row = record { neighbour = 0; interface = 0; count = 0; window = 0; best = 0 }

-- the row of a link, given as its pair and its word of marks, in a table with window size W
abbrev pub row_of : (W best : ℕ) → ℕ × ℕ → LinkRow
row_of W b e = record { neighbour = neighbour_of e.0; interface = interface_of e.0; count = count e.1; window = W; best = cond (eqb b e.0) 1 0 }

-- the cells of a record with at most 8 links, the address of each in its range
pub record Listable (row : List ℕ) : Type 0 where
  pub size : length row ≡ record_cells
  pub few : get_or row links_at 0 ≤ link_most
  pub addresses : (i : ℕ) → i < get_or row links_at 0 → (link_at (links_part row) i).0 < pairs

-- ---- what is found

-- the rows found are rs
pub record Finds (rs : List LinkRow) (got : Links) : Type 0 where
  pub few : got.n ≤ link_most
  pub size : got.n ≡ length rs
  pub rows : take got.n got.rows ≡ rs

-- ---- the call

-- a refusal or 0, and how many rows are filled
abbrev pub answer_of : Result Links Refusal → Listed
answer_of (Ok got) = record { number = 0; filled = got.n }
answer_of (Err r) = record { number = (fault_by r).number; filled = 0 }

-- the rows found; a refused call has none
abbrev pub rows_found : Result Links Refusal → List LinkRow
rows_found (Ok got) = take got.n got.rows
rows_found (Err r) = []

-- the answer, and the rows found at the start of the lent ones
abbrev pub reply_of : Result Links Refusal → (lent : List LinkRow) → Reply
reply_of r lent = answered_filling (listed (answer_of r)) (written_to (rows_found r) lent)

-- what is found in the cells c decides the call on originator o: it fits, and this is the reply for whichever `room` rows are lent, the cells as they were
pub record Settles (c : List ℕ) (o room : ℕ) (r : Result Links Refusal) : Type 0 where
  pub fits : IfOk r (λ got. (got.n ≤ link_most) × (got.n ≤ room))
  pub call : (lent : List LinkRow) → length lent ≡ room → Performed c (list o lent) (reply_of r lent) c
