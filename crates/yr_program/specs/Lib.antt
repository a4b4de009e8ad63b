pub mod Acts
pub mod Code
pub mod Drafts
pub mod Written
pub mod Programs
pub mod Kept
