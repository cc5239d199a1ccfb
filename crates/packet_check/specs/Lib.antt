-- What is refused of a packet before its entries.
pub mod Head
