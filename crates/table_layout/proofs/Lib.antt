pub mod Interfaces
pub mod Parts
pub mod Encoding
pub mod Calls
pub mod Bursts
