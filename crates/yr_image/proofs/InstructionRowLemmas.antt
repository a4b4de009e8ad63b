-- A row that is made for an instruction says it.
use Rattle.std.proofs.Common.{◌≡◌, ℕ, ◌%◌, ◌/◌, ◌<◌, ◌≤◌, ◌&&◌, nat_le, true, false, Some, refl, sym, ap, ap₂, ◌∙◌, arith, true≢false}
use Rattle.std.specs.Int.{w64}
use Rattle.std.proofs.lemmas.Bool.{le-leb}
use Rattle.std.proofs.lemmas.Int.{to_z-of_z}
use Rattle.yr_base.specs.declared.value.Kind.TheVariants as kind
use Rattle.yr_image.specs.declared.instruction.Arithmetic.TheVariants as arithmetic
use Rattle.yr_image.specs.declared.instruction.Comparison.TheVariants as comparison
use Rattle.yr_image.specs.declared.instruction.TextTest.TheVariants as test
use Rattle.yr_image.specs.declared.instruction.Reader.TheVariants as reader
use Rattle.yr_image.specs.declared.instruction.QuantifierKind.TheVariants as quantifier
use Rattle.yr_image.specs.declared.instruction.OfForm.TheVariants as form
use Rattle.yr_image.specs.declared.instruction.NamedString.TheVariants.{Known, Current}
use Rattle.yr_image.specs.declared.instruction.Instruction.{Instruction}
use Rattle.yr_image.specs.declared.instruction.Instruction.TheVariants as i
use Rattle.yr_image.specs.Instructions.{when, instruction_of}
use Rattle.yr_image.specs.InstructionRows.{row_of, halves}
use Rattle.yr_image.specs.Sayable.{IsNarrow, IsSayable, NumberFits}

low_half : (low high : ℕ) → low < 4294967296 → high < 4294967296 → halves low high % 4294967296 ≡ low
low_half low high l h = omega (arith, l, h)

high_half : (low high : ℕ) → low < 4294967296 → high < 4294967296 → halves low high / 4294967296 ≡ high
high_half low high l h = omega (arith, l, h)

few : (items : ℕ) → 0 < items → items ≤ 128 → (nat_le 1 items && nat_le items 128) ≡ true
few items l h = ap (λ b. b && nat_le items 128) (le-leb 1 items (omega (arith, l))) ∙ le-leb items 128 h

pub row_says : (r : Instruction) → NumberFits r → IsNarrow r → IsSayable r → instruction_of (row_of r) ≡ Some r
row_says i.End f n s = refl
row_says (i.Number x) f n s = ap (λ z. Some (i.Number z)) (to_z-of_z w64 x f)
row_says (i.Text place length) f n s = refl
row_says (i.Flag true) f n s = refl
row_says (i.Flag false) f n s = refl
row_says i.FileSize f n s = refl
row_says (i.External k) f n s = refl
row_says (i.Rule k) f n s = refl
row_says (i.Var k) f n s = refl
row_says (i.Field true id) f n s = refl
row_says (i.Field false id) f n s = refl
row_says (i.Call id) f n s = refl
row_says (i.Has (Known c)) f n s = refl
row_says (i.Has (Current c)) f n s = refl
row_says (i.HasAt (Known c)) f n s = refl
row_says (i.HasAt (Current c)) f n s = refl
row_says (i.HasIn (Known c)) f n s = refl
row_says (i.HasIn (Current c)) f n s = refl
row_says (i.Count (Known c)) f n s = refl
row_says (i.Count (Current c)) f n s = refl
row_says (i.CountIn (Known c)) f n s = refl
row_says (i.CountIn (Current c)) f n s = refl
row_says (i.Offset (Known c)) f n s = refl
row_says (i.Offset (Current c)) f n s = refl
row_says (i.Length (Known c)) f n s = refl
row_says (i.Length (Current c)) f n s = refl
row_says (i.Of form.Match quantifier.All first rows) f n s = refl
row_says (i.Of form.Match quantifier.Any first rows) f n s = refl
row_says (i.Of form.Match quantifier.Nil first rows) f n s = refl
row_says (i.Of form.Match quantifier.Number first rows) f n s = refl
row_says (i.Of form.Match quantifier.Percent first rows) f n s = refl
row_says (i.Of form.MatchAt quantifier.All first rows) f n s = refl
row_says (i.Of form.MatchAt quantifier.Any first rows) f n s = refl
row_says (i.Of form.MatchAt quantifier.Nil first rows) f n s = refl
row_says (i.Of form.MatchAt quantifier.Number first rows) f n s = refl
row_says (i.Of form.MatchAt quantifier.Percent first rows) f n s = refl
row_says (i.Of form.MatchIn quantifier.All first rows) f n s = refl
row_says (i.Of form.MatchIn quantifier.Any first rows) f n s = refl
row_says (i.Of form.MatchIn quantifier.Nil first rows) f n s = refl
row_says (i.Of form.MatchIn quantifier.Number first rows) f n s = refl
row_says (i.Of form.MatchIn quantifier.Percent first rows) f n s = refl
row_says (i.Of form.Rules quantifier.All first rows) f n s = refl
row_says (i.Of form.Rules quantifier.Any first rows) f n s = refl
row_says (i.Of form.Rules quantifier.Nil first rows) f n s = refl
row_says (i.Of form.Rules quantifier.Number first rows) f n s = refl
row_says (i.Of form.Rules quantifier.Percent first rows) f n s = refl
row_says (i.Read reader.Int8) f n s = refl
row_says (i.Read reader.Int16) f n s = refl
row_says (i.Read reader.Int32) f n s = refl
row_says (i.Read reader.Uint8) f n s = refl
row_says (i.Read reader.Uint16) f n s = refl
row_says (i.Read reader.Uint32) f n s = refl
row_says (i.Read reader.Int8Be) f n s = refl
row_says (i.Read reader.Int16Be) f n s = refl
row_says (i.Read reader.Int32Be) f n s = refl
row_says (i.Read reader.Uint8Be) f n s = refl
row_says (i.Read reader.Uint16Be) f n s = refl
row_says (i.Read reader.Uint32Be) f n s = refl
row_says i.Negate f n s = refl
row_says i.Flip f n s = refl
row_says (i.Arith arithmetic.Multiply) f n s = refl
row_says (i.Arith arithmetic.Divide) f n s = refl
row_says (i.Arith arithmetic.Remainder) f n s = refl
row_says (i.Arith arithmetic.Add) f n s = refl
row_says (i.Arith arithmetic.Subtract) f n s = refl
row_says (i.Arith arithmetic.ShiftLeft) f n s = refl
row_says (i.Arith arithmetic.ShiftRight) f n s = refl
row_says (i.Arith arithmetic.BitAnd) f n s = refl
row_says (i.Arith arithmetic.BitXor) f n s = refl
row_says (i.Arith arithmetic.BitOr) f n s = refl
row_says (i.Compare comparison.Less kind.Number) f n s = refl
row_says (i.Compare comparison.Less kind.Text) f n s = refl
row_says (i.Compare comparison.Less kind.Flag) f n s = absurd (true≢false (sym s))
row_says (i.Compare comparison.LessOrEqual kind.Number) f n s = refl
row_says (i.Compare comparison.LessOrEqual kind.Text) f n s = refl
row_says (i.Compare comparison.LessOrEqual kind.Flag) f n s = absurd (true≢false (sym s))
row_says (i.Compare comparison.Greater kind.Number) f n s = refl
row_says (i.Compare comparison.Greater kind.Text) f n s = refl
row_says (i.Compare comparison.Greater kind.Flag) f n s = absurd (true≢false (sym s))
row_says (i.Compare comparison.GreaterOrEqual kind.Number) f n s = refl
row_says (i.Compare comparison.GreaterOrEqual kind.Text) f n s = refl
row_says (i.Compare comparison.GreaterOrEqual kind.Flag) f n s = absurd (true≢false (sym s))
row_says (i.Compare comparison.Equal kind.Number) f n s = refl
row_says (i.Compare comparison.Equal kind.Text) f n s = refl
row_says (i.Compare comparison.Equal kind.Flag) f n s = refl
row_says (i.Compare comparison.NotEqual kind.Number) f n s = refl
row_says (i.Compare comparison.NotEqual kind.Text) f n s = refl
row_says (i.Compare comparison.NotEqual kind.Flag) f n s = refl
row_says (i.Test test.Contains) f n s = refl
row_says (i.Test test.IContains) f n s = refl
row_says (i.Test test.StartsWith) f n s = refl
row_says (i.Test test.IStartsWith) f n s = refl
row_says (i.Test test.EndsWith) f n s = refl
row_says (i.Test test.IEndsWith) f n s = refl
row_says (i.Test test.IEquals) f n s = refl
row_says (i.Matches program) f n s = refl
row_says i.Not f n s = refl
row_says i.Defined f n s = refl
row_says i.Truth f n s = refl
row_says i.Settle f n s = refl
row_says (i.SkipFalse end) f n s = refl
row_says (i.SkipTrue end) f n s = refl
row_says (i.LoopRange quantifier.All end) f n s = refl
row_says (i.LoopRange quantifier.Any end) f n s = refl
row_says (i.LoopRange quantifier.Nil end) f n s = refl
row_says (i.LoopRange quantifier.Number end) f n s = refl
row_says (i.LoopRange quantifier.Percent end) f n s = absurd s
row_says (i.LoopList quantifier.All end items) f n s = ap (λ b. when b (i.LoopList quantifier.All end items)) (few items s.1 s.2)
row_says (i.LoopList quantifier.Any end items) f n s = ap (λ b. when b (i.LoopList quantifier.Any end items)) (few items s.1 s.2)
row_says (i.LoopList quantifier.Nil end items) f n s = ap (λ b. when b (i.LoopList quantifier.Nil end items)) (few items s.1 s.2)
row_says (i.LoopList quantifier.Number end items) f n s = ap (λ b. when b (i.LoopList quantifier.Number end items)) (few items s.1 s.2)
row_says (i.LoopList quantifier.Percent end items) f n s = absurd s.0
row_says (i.LoopStrings quantifier.All end first rows) f n s = ap₂ (λ x y. Some (i.LoopStrings quantifier.All end x y)) (low_half first rows n.0 n.1) (high_half first rows n.0 n.1)
row_says (i.LoopStrings quantifier.Any end first rows) f n s = ap₂ (λ x y. Some (i.LoopStrings quantifier.Any end x y)) (low_half first rows n.0 n.1) (high_half first rows n.0 n.1)
row_says (i.LoopStrings quantifier.Nil end first rows) f n s = ap₂ (λ x y. Some (i.LoopStrings quantifier.Nil end x y)) (low_half first rows n.0 n.1) (high_half first rows n.0 n.1)
row_says (i.LoopStrings quantifier.Number end first rows) f n s = ap₂ (λ x y. Some (i.LoopStrings quantifier.Number end x y)) (low_half first rows n.0 n.1) (high_half first rows n.0 n.1)
row_says (i.LoopStrings quantifier.Percent end first rows) f n s = absurd s
row_says (i.LoopEnd place) f n s = refl
