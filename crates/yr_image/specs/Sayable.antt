-- Instructions that a row can say.
use Rattle.std.specs.Prelude.{◌≡◌, ◌<◌, ◌≤◌, ◌^◌, true, FitsSigned}
use Rattle.std.specs.Int.{w64}
use Rattle.yr_image.specs.declared.instruction.QuantifierKind.{QuantifierKind}
use Rattle.yr_image.specs.declared.instruction.QuantifierKind.TheVariants as quantifier
use Rattle.yr_image.specs.declared.instruction.Instruction.{Instruction}
use Rattle.yr_image.specs.declared.instruction.Instruction.TheVariants as i
use Rattle.yr_image.specs.Instructions.{compares}

-- a loop asks for no percentage
abbrev pub LoopAsks : QuantifierKind → Type 0
LoopAsks quantifier.All = Unit {0}
LoopAsks quantifier.Any = Unit {0}
LoopAsks quantifier.Nil = Unit {0}
LoopAsks quantifier.Number = Unit {0}
LoopAsks quantifier.Percent = ⊥

-- flags have no order, loops no percentage, and lists from 1 to 128 items
abbrev pub IsSayable : Instruction → Type 0
IsSayable (i.Compare comparison kind) = compares comparison kind ≡ true
IsSayable (i.LoopRange q end) = LoopAsks q
IsSayable (i.LoopList q end items) = LoopAsks q × (0 < items) × (items ≤ 128)
IsSayable (i.LoopStrings q end first rows) = LoopAsks q
IsSayable instruction = Unit {0}

-- the two numbers that share a field have four bytes each
abbrev pub IsNarrow : Instruction → Type 0
IsNarrow (i.LoopStrings q end first rows) = (first < 2 ^ 32) × (rows < 2 ^ 32)
IsNarrow instruction = Unit {0}

-- a number has 64 signed bits
abbrev pub NumberFits : Instruction → Type 0
NumberFits (i.Number n) = FitsSigned w64 n
NumberFits instruction = Unit {0}
