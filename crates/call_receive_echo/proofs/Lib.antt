-- Messages of this node, by the rules: the interface that sent them, and the neighbour row of an echo.
pub mod Interfaces
pub mod Echoes
