-- The names of external variables, and which of them are new.
use Rattle.std.specs.Prelude.{ℕ, ◌<◌, List, [], Option, Some, None, slice_get}
use Rattle.std.specs.Option.{option_map_or}
use Rattle.yr_image.specs.Image.{Image}
use Rattle.yr_machine.specs.Names.{At, note_name, IsNewName}

module _ (image : Image) where
  -- no external variable before number k has its name
  abbrev pub IsNew : ℕ → Type 0
  IsNew k = At (IsNewName image k) image.externals k

  -- the name of external variable k
  abbrev pub name_at : ℕ → List ℕ
  name_at k = option_map_or (note_name image) (slice_get image.externals k) []

  -- the first external variable below an end whose name is not new, None where all are
  abbrev pub FindsRepeat : (end : ℕ) → Option ℕ → Type 0
  FindsRepeat end None = (k : ℕ) → k < end → IsNew k
  FindsRepeat end (Some k) = (k < end) × (IsNew k → ⊥) × ((j : ℕ) → j < k → IsNew j)
