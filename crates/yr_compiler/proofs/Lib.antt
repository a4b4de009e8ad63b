mod CheckLemmas
mod TruthLemmas
mod ReportLemmas
mod CompiledLemmas
mod CodeLemmas
mod BuildLemmas
mod TextLemmas
pub mod NoteLemmas
mod RuleLemmas
pub mod LoopLemmas
pub mod ListedLemmas
pub mod PassLemmas
pub mod NameLemmas
