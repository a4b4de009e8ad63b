mod AgreeLemmas
mod RangeLemmas
pub mod SoundLemmas
