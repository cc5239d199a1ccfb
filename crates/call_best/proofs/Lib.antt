-- The best question by the rules.
pub mod Asking
