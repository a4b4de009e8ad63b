-- The members of a set, in each of its forms.
use Rattle.std.specs.Prelude.{ℕ, ◌==◌, ◌||◌, Bool, false, List, filter}
use Rattle.std.specs.List.{range_with_len}
use Rattle.yr_lanes.specs.Rows.{in_rows}
use Rattle.yr_lanes.specs.declared.skip_set.Members.{Members}
use Rattle.yr_lanes.specs.declared.skip_set.Members.TheVariants.{Nothing, Single, UpToThree, Many}

-- a byte is a member
abbrev pub in_members : Members → ℕ → Bool
in_members Nothing b = false
in_members (Single set) b = b == set.0
in_members (UpToThree set) b = b == set.0 || b == set.1 || b == set.2
in_members (Many set) b = in_rows set.front set.back b

-- the bytes, in order
unfoldable pub all_bytes : List ℕ
all_bytes = range_with_len 0 256

-- the members, in order
abbrev pub members_of : Members → List ℕ
members_of members = filter (in_members members) all_bytes
