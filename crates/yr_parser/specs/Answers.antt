-- What a refusal says.
use Rattle.std.specs.Prelude.{Bool, true, false}
use Rattle.yr_syntax.specs.Declaration.{Declaration, Import, Rule}
use Rattle.yr_parser.specs.declared.fault.ParseFault.{ParseFault}
use Rattle.yr_parser.specs.declared.fault.ParseFault.TheVariants as fault
use Rattle.yr_parser.specs.Terminals.{Terminals}
use Rattle.yr_parser.specs.Declarations.{Places}
use Rattle.yr_parser.specs.Refusals.{IsSyntax, NestsTooDeep}

-- each refusal has its cause; want of memory says nothing
abbrev pub Explains : Places → Terminals → ParseFault → Type 0
Explains places k (fault.Syntax declaration file line) = IsSyntax places k declaration file line
Explains places k (fault.TooDeep declaration file line) = NestsTooDeep places k declaration file line
Explains places k fault.NoMemory = Unit {0}

abbrev pub is_import : Declaration → Bool
is_import (Import name file line) = true
is_import (Rule r) = false
