pub mod ImageReport
pub mod Preserves
pub mod AtomLengths
pub mod Shape
pub mod RuleIds
