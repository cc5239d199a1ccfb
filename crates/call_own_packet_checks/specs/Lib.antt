-- The own packet before it is sent.
pub mod OwnPacket
