pub mod Pieces
pub mod Codes
pub mod Formed
pub mod EmitLemmas
pub mod KeptLemmas
pub mod WrittenLemmas
pub mod RunLemmas
pub mod Exact
