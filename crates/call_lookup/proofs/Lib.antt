-- The lookup by the rules.
pub mod Scan
pub mod Records
pub mod Answers
