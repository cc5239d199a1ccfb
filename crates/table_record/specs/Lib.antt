-- One originator's record in its cells, and its links in theirs.
pub mod Links
pub mod Record
