pub mod CommandLemmas
pub mod SizeLemmas
pub mod StepLemmas
pub mod WorkLemmas
pub mod RunLemmas
mod TopLemmas
