pub mod Units
pub mod RuleNames
