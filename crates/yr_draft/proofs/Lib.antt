pub mod FillingLemmas
pub mod RunLemmas
pub mod GrowLemmas
