-- What the steps of a burst are asked and leave.
pub mod Bursts
