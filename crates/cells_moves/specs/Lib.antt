-- Rows in lent cells.
pub mod Keeping
