-- The best question on a table's cells.
pub mod Best
