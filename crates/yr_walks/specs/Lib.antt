pub mod Carried
pub mod Arcs
pub mod Spreads
pub mod EndWalks
pub mod StartWalks
pub mod Spans
