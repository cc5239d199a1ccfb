-- RULES 9, "The book", and 10, demand 3.
pub mod Book
pub mod History
pub mod Demand
pub mod TableOfBook
pub mod Histories
