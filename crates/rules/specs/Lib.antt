-- docs/RULES.md as definitions: settings, calls, the rules once over any reading, and the table's reading.
pub mod Settings
pub mod Calls
pub mod Messages
pub mod Lookup
pub mod Rules
pub mod Table
pub mod Refusals
pub mod WellFormed
pub mod Promises
pub mod Examples
pub mod Edges
