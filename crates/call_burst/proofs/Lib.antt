-- Receiving a burst.
pub mod One
pub mod Each
pub mod Calls
