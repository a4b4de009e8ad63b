pub mod Words
pub mod Shape
pub mod Faults
pub mod Tries
pub mod Kept
pub mod Certificates
pub mod Propositions
