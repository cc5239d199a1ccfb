-- The laws of sequence numbers, bits and words of marks, each for every width.
pub mod Numbers
pub mod Positions
pub mod Bits
pub mod Words
pub mod Window
