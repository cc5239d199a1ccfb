-- A received packet on a table's cells.
pub mod Receiving
