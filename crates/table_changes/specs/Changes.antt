-- A table with one thing changed: what the steps of a call do to it.
use Rattle.std.specs.Prelude.{ℕ, List}
use Rattle.rules.specs.Rules.{Sends}
use Rattle.rules.specs.Table.{TableRows, TableRecord, TableState}

abbrev pub with_time : ℕ → TableState → TableState
with_time t s = record { config = s.config; time = t; sends = s.sends; rows = s.rows; records = s.records }

abbrev pub with_sends : Sends → TableState → TableState
with_sends ns s = record { config = s.config; time = s.time; sends = ns; rows = s.rows; records = s.records }

abbrev pub with_rows : TableRows → TableState → TableState
with_rows rs s = record { config = s.config; time = s.time; sends = s.sends; rows = rs; records = s.records }

abbrev pub with_records : List (ℕ × TableRecord) → TableState → TableState
with_records es s = record { config = s.config; time = s.time; sends = s.sends; rows = s.rows; records = es }
