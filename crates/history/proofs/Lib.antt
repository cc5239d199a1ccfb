-- Demand 3's proof.
pub mod Checked
pub mod Sound
pub mod Readings
pub mod Log
pub mod Records
pub mod Neighbours
pub mod History
pub mod Demand
