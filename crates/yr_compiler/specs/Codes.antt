-- Ranges of code that follow one another and are all the code.
use Rattle.std.specs.Prelude.{◌≡◌, ℕ, ◌+◌, ◌<◌, List, length, Some, slice_get}
use Rattle.yr_image.specs.Image.{Image}
use Rattle.yr_machine.specs.Rows.{end_before}
use Rattle.yr_compiler.specs.declared.code_range.CodeRange.{CodeRange}

-- where a range ends
abbrev pub range_end : CodeRange → ℕ
range_end code = code.first + code.rows

-- each range has a row and begins where the one before ends, and the last ends with the code
pub record FollowCodes (image : Image) (codes : List CodeRange) : Type 0 where
  pub some : (k : ℕ) (code : CodeRange) → slice_get codes k ≡ Some code → 0 < code.rows
  pub follow : (k : ℕ) (code : CodeRange) → slice_get codes k ≡ Some code → code.first ≡ end_before range_end codes k
  pub whole : end_before range_end codes (length codes) ≡ length image.code
