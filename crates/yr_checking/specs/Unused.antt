-- What a condition uses of its rule's strings, by the names that stand in it.
use Rattle.std.specs.Prelude.{◌||◌, Bool, true, false, not, List, [], ◌∷◌, Option, codes}
use Rattle.yr_name_tables.specs.Names.{Name, has, has_front, begins, with_sign}
use Rattle.yr_conditions.specs.Uses as use'
use Rattle.yr_conditions.specs.Uses.{Use}
use Rattle.yr_checks.specs.Given.{name_if}

-- all strings are used
abbrev pub is_everything : Use → Bool
is_everything use'.Everything = true
is_everything other = false

-- the name of a string, or of a set's item without a `*`
abbrev pub whole_name : Use → List Name
whole_name (use'.String sign n) = n ∷ []
whole_name (use'.Member n false) = n ∷ []
whole_name other = []

-- the front of a set's item with a `*`
abbrev pub front_name : Use → List Name
front_name (use'.Member n true) = n ∷ []
front_name other = []

-- a string of this name is used
abbrev pub is_used : Bool → List Name → List Name → Name → Bool
is_used everything wholes fronts s = everything || (has s wholes || has_front fronts s)

-- the string, where it is not used and its name does not begin with `_`
unfoldable pub without_use : Bool → List Name → List Name → Name → Option Name
without_use everything wholes fronts s = name_if (not (begins (codes "_") s || is_used everything wholes fronts s)) (with_sign s)
