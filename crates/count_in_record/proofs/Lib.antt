-- A record's row after a message.
pub mod Rows
pub mod Left
