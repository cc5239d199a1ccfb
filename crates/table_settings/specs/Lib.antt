-- Settings and interface rows.
pub mod Check
