-- The tree of each form, as a set of lemmas for the function that makes it.
use Rattle.std.proofs.Common.{◌≡◌, ℕ, Some, Vec, Box, Global}
use Rattle.yr_syntax.specs.Condition.{OffsetAt, LengthAt, tree_of}
use Rattle.yr_syntax.specs.declared.condition.Cond as c
use Rattle.yr_syntax.specs.declared.condition.Cond.TheVariants as cond
use Rattle.yr_syntax.proofs.CallerLemmas.{asked_of-All, asked_of-Any, asked_of-Nil, asked_of-Number, asked_of-Percent, bounds_of-same, domain_of-List, domain_of-Path, domain_of-Range, link_of-same, step_of-Call, step_of-Index, step_of-Name, tree_of-Chain, tree_of-Count, tree_of-FileSize, tree_of-Flag, tree_of-ForIn, tree_of-ForOf, tree_of-Found, tree_of-Length, tree_of-Matches, tree_of-Number, tree_of-Of, tree_of-Offset, tree_of-Path, tree_of-Prefix, tree_of-Read, tree_of-Text, where_of-Anywhere, where_of-At, where_of-Within}

pub tree_of-OffsetAt : (name : Vec ℕ Global) (index : Box c.Cond Global) → tree_of (cond.Offset name (Some index)) ≡ OffsetAt name.items (tree_of index.value)
tree_of-OffsetAt name index = tree_of-Offset name (Some index)

pub tree_of-LengthAt : (name : Vec ℕ Global) (index : Box c.Cond Global) → tree_of (cond.Length name (Some index)) ≡ LengthAt name.items (tree_of index.value)
tree_of-LengthAt name index = tree_of-Length name (Some index)

pub ruleset made_prefix = (tree_of-Prefix)

pub ruleset made_chain = (tree_of-Chain)

pub ruleset made_matches = (tree_of-Matches)

pub ruleset bounds_of_made = (bounds_of-same)

pub ruleset made_read = (tree_of-Read)

pub ruleset made_count = (tree_of-Count)

pub ruleset made_offsetat = (tree_of-OffsetAt)

pub ruleset made_offset = (tree_of-Offset)

pub ruleset made_lengthat = (tree_of-LengthAt)

pub ruleset made_length = (tree_of-Length)

pub ruleset made_number = (tree_of-Number)

pub ruleset made_text = (tree_of-Text)

pub ruleset made_flag = (tree_of-Flag)

pub ruleset made_filesize = (tree_of-FileSize)

pub ruleset made_path = (tree_of-Path)

pub ruleset made_found = (tree_of-Found)

pub ruleset made_of = (tree_of-Of)

pub ruleset made_forof = (tree_of-ForOf)

pub ruleset made_forin = (tree_of-ForIn)

pub ruleset asked_all = (asked_of-All)

pub ruleset asked_any = (asked_of-Any)

pub ruleset asked_nil = (asked_of-Nil)

pub ruleset asked_number = (asked_of-Number)

pub ruleset asked_percent = (asked_of-Percent)

pub ruleset placed_anywhere = (where_of-Anywhere)

pub ruleset placed_at = (where_of-At)

pub ruleset placed_within = (where_of-Within)

pub ruleset over_range = (domain_of-Range)

pub ruleset over_list = (domain_of-List)

pub ruleset over_path = (domain_of-Path)

pub ruleset step_name = (step_of-Name)

pub ruleset step_index = (step_of-Index)

pub ruleset step_call = (step_of-Call)

pub ruleset link_of_made = (link_of-same)
