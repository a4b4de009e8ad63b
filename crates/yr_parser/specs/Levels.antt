-- The levels of operators ('Writing YARA rules', Conditions, the table of precedence).
use Rattle.std.specs.Prelude.{Bool, true, false}
use Rattle.yr_syntax.specs.declared.operator.Infix.{Infix}
use Rattle.yr_syntax.specs.declared.operator.Infix.TheVariants as op
use Rattle.yr_parser.specs.declared.level.Level.{Level}
use Rattle.yr_parser.specs.declared.level.Level.TheVariants.{Or, And, Equal, Rel, Bits, Bxor, Band, Shift, Sum, Prod}

-- which level an operator belongs to
abbrev pub level_of : Infix → Level
level_of op.Or = Or
level_of op.And = And
level_of op.Equal = Equal
level_of op.NotEqual = Equal
level_of op.Contains = Equal
level_of op.IContains = Equal
level_of op.StartsWith = Equal
level_of op.IStartsWith = Equal
level_of op.EndsWith = Equal
level_of op.IEndsWith = Equal
level_of op.IEquals = Equal
level_of op.Less = Rel
level_of op.LessOrEqual = Rel
level_of op.Greater = Rel
level_of op.GreaterOrEqual = Rel
level_of op.BitOr = Bits
level_of op.BitXor = Bxor
level_of op.BitAnd = Band
level_of op.ShiftLeft = Shift
level_of op.ShiftRight = Shift
level_of op.Add = Sum
level_of op.Subtract = Sum
level_of op.Multiply = Prod
level_of op.Divide = Prod
level_of op.Remainder = Prod

-- the parts of a condition
pub data Part : Type 0 where
  level : Level → Part
  not test unary primary : Part

-- what the operators of a level stand between
abbrev pub operand : Level → Part
operand Or = level And
operand And = not
operand Equal = level Rel
operand Rel = level Bits
operand Bits = level Bxor
operand Bxor = level Band
operand Band = level Shift
operand Shift = level Sum
operand Sum = level Prod
operand Prod = unary

-- a level of comparisons has one operator at most, every other level any number
abbrev pub repeats : Level → Bool
repeats Equal = false
repeats Rel = false
repeats _ = true
