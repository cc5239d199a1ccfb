-- The search for a link that does not stand below this one, turn by turn.
pub mod Leading
