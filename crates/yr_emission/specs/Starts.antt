-- How loops start.
use Rattle.std.specs.Prelude.{ℕ}
use Rattle.yr_image.specs.declared.instruction.Instruction.{Instruction}
use Rattle.yr_image.specs.declared.instruction.Instruction.TheVariants as i
use Rattle.yr_emission.specs.declared.looping.LoopStart.{LoopStart}
use Rattle.yr_emission.specs.declared.looping.LoopStart.TheVariants as start

-- the first instruction of a loop over so many list rows, whose end and first list row are given
abbrev pub begin_of : LoopStart → (rows end at : ℕ) → Instruction
begin_of (start.Range q) rows end at = i.LoopRange q end
begin_of (start.List q items) rows end at = i.LoopList q end items
begin_of (start.Strings q) rows end at = i.LoopStrings q end at rows
