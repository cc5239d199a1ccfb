pub mod Checks
pub mod Own
pub mod Turns
