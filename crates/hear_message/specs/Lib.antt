-- What becomes of a message to a record.
pub mod Hearing
