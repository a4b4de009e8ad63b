-- Rows that have good names.
use Rattle.std.specs.Prelude.{ℕ, ◌==◌, ◌&&◌, Bool, true, if◌then◌else◌}
use Rattle.yr_image.specs.Image.{Image, namespace_of}
use Rattle.yr_machine.specs.Rows.{row_passes}
use Rattle.yr_machine.specs.Names.{is_name, is_string_name, rule_name, note_name, string_name}

module _ (image : Image) where
  -- row k of a section has good names, or is not there
  abbrev pub is_named : (section k : ℕ) → Bool
  is_named section k =
      if section == 0 then row_passes image (λ row. is_name (rule_name image row) && is_name (namespace_of image row)) image.rules k
      else if section == 1 then row_passes image (λ row. is_name (note_name image row)) image.notes k
      else if section == 2 then row_passes image (λ row. is_name (note_name image row)) image.externals k
      else if section == 3 then row_passes image (λ row. is_string_name (string_name image row)) image.strings k
      else true
