pub mod Scratches
pub mod State
pub mod Taking
pub mod Uppers
pub mod Walked
pub mod FoundIn
pub mod Skips
