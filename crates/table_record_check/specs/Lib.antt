-- What a record's cells are held to.
pub mod Limits
