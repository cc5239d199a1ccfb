-- The own packet's steps, as the rules say them.
pub mod Steps
pub mod Call
