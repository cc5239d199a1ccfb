-- Definitions on lists that the rules, the book and the table share.
pub mod Lists
pub mod Keyed
