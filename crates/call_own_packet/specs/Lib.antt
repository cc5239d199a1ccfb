-- The own packet on cells.
pub mod Sending
