-- The lookup on a table's cells.
pub mod Scan
