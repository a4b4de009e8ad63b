-- Where numbers are wanted, they are numbers of 32 bits.
use Rattle.std.specs.Prelude.{◌+◌, ◌≤◌, ◌^◌, Bool, true, false, length}
use Rattle.yr_conditions.specs.declared.around.Around.{Around}

abbrev pub IsRoomy : Bool → Around → Type 0
IsRoomy true a = (a.first_string + length a.strings.now ≤ 2 ^ 32) × (length a.externals.now ≤ 2 ^ 32)
IsRoomy false a = Unit {0}
