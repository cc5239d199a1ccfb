-- A message that comes to a record.
pub mod Hearing
