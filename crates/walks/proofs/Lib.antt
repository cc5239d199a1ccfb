-- Laws of proofs by hand.
pub mod Turns
pub mod Elements
pub mod Fill
