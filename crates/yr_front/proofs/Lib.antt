pub mod EachLemmas
pub mod GatherLemmas
pub mod ParseLemmas
pub mod TextLemmas
pub mod RuleNameLemmas
pub mod IdLemmas
pub mod FrontLemmas
