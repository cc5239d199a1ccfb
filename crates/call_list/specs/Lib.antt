-- The list call.
pub mod Listing
