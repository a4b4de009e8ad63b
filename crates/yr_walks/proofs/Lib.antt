pub mod ListLemmas
mod KeptLemmas
mod ChainLemmas
pub mod HoldLemmas
pub mod JoinLemmas
mod FollowLemmas
pub mod SpreadLemmas
mod EndLemmas
mod RunLemmas
mod MergeLemmas
mod StartLemmas
mod OpenLemmas
mod SpanLemmas
