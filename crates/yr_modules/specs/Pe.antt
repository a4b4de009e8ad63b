pub mod Header
pub mod Sections
pub mod EntryPoint
pub mod Fields
pub mod ModuleRows
