pub mod Growing
pub mod Added
pub mod Programs
