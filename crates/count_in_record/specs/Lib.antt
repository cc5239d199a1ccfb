-- Counting an originator message in a record's cells.
pub mod Counting
