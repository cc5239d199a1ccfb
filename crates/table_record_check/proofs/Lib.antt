-- The check of a record is the tests of RULES 5.3 on it.
pub mod Checks
