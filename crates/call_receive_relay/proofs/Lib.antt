-- Messages of other nodes, by the rules.
pub mod Messages
