-- Laws of the definitions on lists.
pub mod Tests
pub mod Lists
pub mod Keyed
pub mod Rising
pub mod Written
