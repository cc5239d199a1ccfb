-- The originators' records in a table's cells.
pub mod Originators
