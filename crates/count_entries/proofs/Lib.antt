-- A record's row that keeps a message's entries.
pub mod Rows
