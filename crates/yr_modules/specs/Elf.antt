pub mod Layout
pub mod Rows
pub mod Entries
pub mod Names
pub mod EntryPoint
pub mod Fields
pub mod ModuleRows
