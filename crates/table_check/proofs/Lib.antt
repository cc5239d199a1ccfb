pub mod Checks
pub mod Limits
pub mod Turns
pub mod Knowing
pub mod Checked
