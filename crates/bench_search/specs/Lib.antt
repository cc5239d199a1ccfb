-- Searches for many originators.
pub mod Searches
