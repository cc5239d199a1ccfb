-- The search for an entry that breaks a rule, host bits by a shift, and the refusals of a whole packet.
pub mod Search
pub mod HostBits
pub mod Packets
