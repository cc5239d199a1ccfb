-- The links of one originator while a message is counted.
pub mod Links
