-- A table with one thing changed, and what a step of a call leaves.
pub mod Changes
pub mod Left
