-- Areas of cells, and what a search in them finds.
pub mod Area
pub mod Pairs
pub mod Find
