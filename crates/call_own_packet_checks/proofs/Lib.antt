-- An own packet's refusals, number and message, as the rules say them.
pub mod Message
pub mod Refusals
