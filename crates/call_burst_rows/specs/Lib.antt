-- The answers to a burst's packets.
pub mod Answers
