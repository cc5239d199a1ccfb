-- A message's entries in a record's row of cells.
pub mod Entries
