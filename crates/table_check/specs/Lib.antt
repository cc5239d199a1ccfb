-- The check of a whole table.
pub mod Check
