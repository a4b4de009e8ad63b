pub mod Rows
pub mod Moves
pub mod Accepts
pub mod Walk
pub mod Nodes
pub mod Words
