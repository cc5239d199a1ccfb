-- RULES 4, "Sequence numbers".
pub mod Window
pub mod Laws
pub mod Marks
