pub mod Joined
pub mod Listed
pub mod Elf
pub mod Pe
pub mod Hash
