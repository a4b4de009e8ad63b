mod FoldedLemmas
pub mod KindLemmas
mod NumberLemmas
mod TextLemmas
