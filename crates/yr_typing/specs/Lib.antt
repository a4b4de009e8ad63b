pub mod Open
pub mod Prefixes
pub mod Parts
