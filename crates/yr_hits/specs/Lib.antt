pub mod Programs
pub mod Gathering
pub mod Spans
pub mod Sweeps
pub mod Walks
