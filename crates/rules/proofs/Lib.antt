-- Laws of the rules.
pub mod Checked
pub mod Faults
pub mod Config
pub mod Links
pub mod Sends
pub mod Exactly
pub mod Bursts
pub mod Lookup
pub mod Counting
pub mod Parts
pub mod WellFormed
pub mod Promises
