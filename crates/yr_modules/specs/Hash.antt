pub mod Digests
pub mod ModuleRows
