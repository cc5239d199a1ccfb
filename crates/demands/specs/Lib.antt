-- The three demands, of the cells that the public calls are lent.
pub mod Demand1
pub mod Demand2
pub mod Demand3
pub mod Strangers
