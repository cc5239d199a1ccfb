-- The pass over the records, and what it leaves of the table.
pub mod Records
pub mod Steps
pub mod Call
