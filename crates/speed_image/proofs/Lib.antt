mod MadeLemmas
mod TreeRules
