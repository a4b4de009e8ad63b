pub mod Gaps
pub mod Items
pub mod Grammar
pub mod Jumps
pub mod Meaning
pub mod Answers
pub mod Reading
pub mod Parts
