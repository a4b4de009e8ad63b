-- The tree of the condition of each rule.
use Rattle.yr_rules.proofs.CallerLemmas.{tree_of-Found, where_of-Anywhere}

pub ruleset found_anywhere = (tree_of-Found, where_of-Anywhere)
