-- The refusals of a packet, and the addresses of this node.
pub mod Arguments
pub mod Listed
