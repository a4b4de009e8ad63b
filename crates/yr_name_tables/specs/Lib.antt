pub mod Names
pub mod Places
pub mod Wanted
pub mod Order
