-- RULES 3, "Octets on the air", and what the rules say elsewhere of written octets.
pub mod Layout
pub mod Packet
pub mod Check
pub mod Entries
pub mod Refusals
pub mod PassOn
pub mod Laws
