-- What the neighbour rows in their area say, by the laws of areas, and the rows that a table lends.
pub mod Rows
pub mod Lent
