-- What the records in their cells say, and what the table is once one is changed.
pub mod Records
pub mod Changed
