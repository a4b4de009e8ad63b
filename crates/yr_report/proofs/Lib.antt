pub mod AddLemmas
pub mod RangeLemmas
pub mod RowLemmas
pub mod EntryLemmas
pub mod JudgedLemmas
pub mod GateLemmas
pub mod CallerLemmas
mod Hexadecimal
