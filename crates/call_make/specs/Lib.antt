-- Making a table.
pub mod Make
