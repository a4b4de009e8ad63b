pub mod LaneLemmas
pub mod PassLemmas
pub mod SetLemmas
pub mod PairLemmas
