pub mod Names
pub mod Arguments
pub mod Checked
pub mod Forms
pub mod Encoding
pub mod Variants
