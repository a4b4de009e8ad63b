pub mod Built
pub mod Finds
pub mod Notes
pub mod Rules
pub mod Codes
pub mod Putting
