-- What a line that is read keeps to, and what make is given.
pub mod Limits
pub mod Requests
pub mod Tables
