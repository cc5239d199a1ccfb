-- Laws of the check of a burst.
pub mod Tests
