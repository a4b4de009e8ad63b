-- The row that says an instruction.
use Rattle.std.specs.Prelude.{ℕ, ◌+◌, ◌*◌, ◌%◌, Bool, true, false}
use Rattle.std.specs.Int.{w64, cast_unsigned}
use Rattle.yr_base.specs.declared.value.Kind.{Kind}
use Rattle.yr_base.specs.declared.value.Kind.TheVariants as kind
use Rattle.yr_image.specs.declared.rows.CodeRow.{CodeRow}
use Rattle.yr_image.specs.declared.instruction.Arithmetic.{Arithmetic}
use Rattle.yr_image.specs.declared.instruction.Arithmetic.TheVariants as arithmetic
use Rattle.yr_image.specs.declared.instruction.Comparison.{Comparison}
use Rattle.yr_image.specs.declared.instruction.Comparison.TheVariants as comparison
use Rattle.yr_image.specs.declared.instruction.TextTest.{TextTest}
use Rattle.yr_image.specs.declared.instruction.TextTest.TheVariants as test
use Rattle.yr_image.specs.declared.instruction.Reader.{Reader}
use Rattle.yr_image.specs.declared.instruction.Reader.TheVariants as reader
use Rattle.yr_image.specs.declared.instruction.QuantifierKind.{QuantifierKind}
use Rattle.yr_image.specs.declared.instruction.QuantifierKind.TheVariants as quantifier
use Rattle.yr_image.specs.declared.instruction.OfForm.{OfForm}
use Rattle.yr_image.specs.declared.instruction.OfForm.TheVariants as form
use Rattle.yr_image.specs.declared.instruction.NamedString.{NamedString}
use Rattle.yr_image.specs.declared.instruction.NamedString.TheVariants.{Known, Current}
use Rattle.yr_image.specs.declared.instruction.Instruction.{Instruction}
use Rattle.yr_image.specs.declared.instruction.Instruction.TheVariants as i

-- the numbers of the cases of enumerated fields
abbrev pub arithmetic_case : Arithmetic → ℕ
arithmetic_case arithmetic.Multiply = 0
arithmetic_case arithmetic.Divide = 1
arithmetic_case arithmetic.Remainder = 2
arithmetic_case arithmetic.Add = 3
arithmetic_case arithmetic.Subtract = 4
arithmetic_case arithmetic.ShiftLeft = 5
arithmetic_case arithmetic.ShiftRight = 6
arithmetic_case arithmetic.BitAnd = 7
arithmetic_case arithmetic.BitXor = 8
arithmetic_case arithmetic.BitOr = 9

abbrev pub comparison_case : Comparison → ℕ
comparison_case comparison.Less = 0
comparison_case comparison.LessOrEqual = 1
comparison_case comparison.Greater = 2
comparison_case comparison.GreaterOrEqual = 3
comparison_case comparison.Equal = 4
comparison_case comparison.NotEqual = 5

abbrev pub kind_case : Kind → ℕ
kind_case kind.Number = 0
kind_case kind.Text = 1
kind_case kind.Flag = 2

abbrev pub test_case : TextTest → ℕ
test_case test.Contains = 0
test_case test.IContains = 1
test_case test.StartsWith = 2
test_case test.IStartsWith = 3
test_case test.EndsWith = 4
test_case test.IEndsWith = 5
test_case test.IEquals = 6

abbrev pub reader_case : Reader → ℕ
reader_case reader.Int8 = 0
reader_case reader.Int16 = 1
reader_case reader.Int32 = 2
reader_case reader.Uint8 = 3
reader_case reader.Uint16 = 4
reader_case reader.Uint32 = 5
reader_case reader.Int8Be = 6
reader_case reader.Int16Be = 7
reader_case reader.Int32Be = 8
reader_case reader.Uint8Be = 9
reader_case reader.Uint16Be = 10
reader_case reader.Uint32Be = 11

abbrev pub quantifier_case : QuantifierKind → ℕ
quantifier_case quantifier.All = 0
quantifier_case quantifier.Any = 1
quantifier_case quantifier.Nil = 2
quantifier_case quantifier.Number = 3
quantifier_case quantifier.Percent = 4

abbrev pub form_case : OfForm → ℕ
form_case form.Match = 0
form_case form.MatchAt = 1
form_case form.MatchIn = 2
form_case form.Rules = 3

abbrev pub flag_case : Bool → ℕ
flag_case false = 0
flag_case true = 1

-- a row with these fields
abbrev pub row : (op a b c d : ℕ) → CodeRow
row op a b c d = record { op = op; a = a; b = b; c = c; d = d }

-- a row that names a string
abbrev pub string_row : ℕ → NamedString → CodeRow
string_row op (Known c) = row op 0 0 c 0
string_row op (Current c) = row op 1 0 c 0

-- two numbers of four bytes in one of eight, the first one low
abbrev pub halves : (low high : ℕ) → ℕ
halves low high = low % 4294967296 + high % 4294967296 * 4294967296

-- fields that the instruction does not use are 0
abbrev pub row_of : Instruction → CodeRow
row_of i.End = row 0x00 0 0 0 0
row_of (i.Number n) = row 0x01 0 0 0 (cast_unsigned w64 n)
row_of (i.Text place length) = row 0x02 0 0 place length
row_of (i.Flag b) = row 0x03 (flag_case b) 0 0 0
row_of i.FileSize = row 0x04 0 0 0 0
row_of (i.External k) = row 0x05 0 0 k 0
row_of (i.Rule k) = row 0x06 0 0 k 0
row_of (i.Var k) = row 0x07 0 0 k 0
row_of (i.Field indexed id) = row 0x08 (flag_case indexed) 0 id 0
row_of (i.Call id) = row 0x09 0 0 id 0
row_of (i.Has s) = string_row 0x0a s
row_of (i.HasAt s) = string_row 0x0b s
row_of (i.HasIn s) = string_row 0x0c s
row_of (i.Count s) = string_row 0x0d s
row_of (i.CountIn s) = string_row 0x0e s
row_of (i.Offset s) = string_row 0x0f s
row_of (i.Length s) = string_row 0x10 s
row_of (i.Of f q first rows) = row 0x11 (form_case f) (quantifier_case q) first rows
row_of (i.Read r) = row 0x12 (reader_case r) 0 0 0
row_of i.Negate = row 0x13 0 0 0 0
row_of i.Flip = row 0x14 0 0 0 0
row_of (i.Arith op) = row 0x15 (arithmetic_case op) 0 0 0
row_of (i.Compare op k) = row 0x16 (comparison_case op) (kind_case k) 0 0
row_of (i.Test op) = row 0x17 (test_case op) 0 0 0
row_of (i.Matches program) = row 0x18 0 0 program 0
row_of i.Not = row 0x19 0 0 0 0
row_of i.Defined = row 0x1a 0 0 0 0
row_of i.Truth = row 0x1b 0 0 0 0
row_of i.Settle = row 0x1c 0 0 0 0
row_of (i.SkipFalse end) = row 0x1d 0 0 end 0
row_of (i.SkipTrue end) = row 0x1e 0 0 end 0
row_of (i.LoopRange q end) = row 0x1f 0 (quantifier_case q) end 0
row_of (i.LoopList q end items) = row 0x20 0 (quantifier_case q) end items
row_of (i.LoopStrings q end first rows) = row 0x21 0 (quantifier_case q) end (halves first rows)
row_of (i.LoopEnd place) = row 0x22 0 0 place 0
