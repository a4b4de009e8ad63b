pub mod RowLemmas
pub mod MoveLemmas
pub mod ByteLemmas
