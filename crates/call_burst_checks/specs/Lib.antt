-- What the check of a burst is told.
pub mod Sizes
