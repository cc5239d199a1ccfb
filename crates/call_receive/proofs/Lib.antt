-- Receiving by the rules: the call.
pub mod Call
