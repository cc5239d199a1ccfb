-- The sweep on cells.
pub mod Sweeping
