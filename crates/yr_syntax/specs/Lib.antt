pub mod Condition
pub mod Declaration
pub mod Forms
pub mod Height
