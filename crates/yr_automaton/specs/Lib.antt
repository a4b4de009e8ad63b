pub mod Atoms
pub mod Rows
pub mod Automaton
pub mod Search
pub mod Outputs
pub mod Keys
pub mod Prepared
