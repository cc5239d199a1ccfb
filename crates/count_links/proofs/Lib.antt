-- Links written one after the other, and where this one stands among them.
pub mod Cells
pub mod Places
