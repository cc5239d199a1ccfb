-- The neighbour rows in their area of cells.
pub mod Neighbours
