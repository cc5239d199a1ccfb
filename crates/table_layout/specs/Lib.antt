-- A table in its cells: the layout, encoding and decoding, well-formed cells, and what a call does to them.
pub mod Layout
pub mod Interfaces
pub mod Cells
pub mod Facts
pub mod Calls
pub mod Laws
