pub mod Adding
pub mod Entries
pub mod Scenes
pub mod Made
