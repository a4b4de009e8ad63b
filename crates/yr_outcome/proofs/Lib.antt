mod FinishLemmas
pub mod CallerLemmas
pub mod CauseLemmas
