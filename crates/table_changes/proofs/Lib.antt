-- A table's cells in parts, and what changing a part makes of the table.
pub mod Parts
pub mod Sent
pub mod Values
pub mod Performing
pub mod Staying
