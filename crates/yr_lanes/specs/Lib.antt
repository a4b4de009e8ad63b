pub mod NextPlace
pub mod Same
pub mod Rows
pub mod Members
pub mod Lanes
pub mod Passing
