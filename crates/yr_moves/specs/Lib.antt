pub mod Programs
pub mod Marked
pub mod Passes
pub mod Walks
