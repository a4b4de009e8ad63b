pub mod Basics
pub mod GapLemmas
pub mod StepLemmas
pub mod OutcomeLemmas
pub mod NumberLemmas
pub mod JumpLemmas
pub mod ByteLemmas
pub mod ItemComplete
pub mod ItemSound
pub mod BadLemmas
pub mod MeaningLemmas
pub mod UniqueLemmas
pub mod AnswerLemmas
mod NibbleLemmas
