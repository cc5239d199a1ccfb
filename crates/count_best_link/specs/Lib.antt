-- Which link is best once a message is counted.
pub mod BestLink
