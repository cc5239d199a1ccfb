-- The ways through the rules of receiving, and what each leaves in the cells.
pub mod Ways
pub mod Tables
pub mod Endings
