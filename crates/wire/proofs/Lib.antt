-- Laws that the proofs of the functions and the crates above cite.
pub mod Search
pub mod Entries
pub mod Order
pub mod Faults
pub mod Lent
pub mod Laws
pub mod Refused
