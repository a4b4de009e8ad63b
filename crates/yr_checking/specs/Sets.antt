-- When the sets of a condition are made.
use Rattle.std.specs.Prelude.{◌+◌, ◌&&◌, Bool, true, false, length, nat_le}
use Rattle.yr_conditions.specs.Meanings.{Around}
use Rattle.yr_checking.specs.declared.light.Sets.{Sets}
use Rattle.yr_checking.specs.declared.light.Sets.TheVariants as sets

-- strings and externals are few enough to be numbered
abbrev pub is_few : Around → Bool
is_few a = nat_le (a.first_string + length a.strings) 65535 && nat_le (length a.externals) 1048576

abbrev pub is_at_once : Sets → Bool
is_at_once sets.AtOnce = true
is_at_once sets.Counted = false
is_at_once sets.Never = false

-- they are made, at once or later
abbrev pub is_made : Sets → Bool
is_made sets.AtOnce = true
is_made sets.Counted = true
is_made sets.Never = false
