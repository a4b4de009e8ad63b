use Rattle.std.proofs.Common.{◌≡◌, true, false, map}
use Rattle.yr_syntax.specs.Declaration.{declaration_of}
use Rattle.yr_parser.specs.Spelling.{places_of, terminals_of}
use Rattle.yr_parser.specs.Declarations.{ReadsDeclarations}
use Rattle.yr_parser.specs.Depth.{deep_from}
use Rattle.std.proofs.Common.{length}
use Rattle.yr_parser.proofs.parsing.parse.Given as goal

abbrev pub invariant-declarations : goal.invariant-declarations
invariant-declarations l = record {
  read : ReadsDeclarations (places_of l.tokens) (terminals_of l.tokens) (map declaration_of l.declarations.items) l.rest;
  clear : l.is_clear ≡ true → deep_from 0 0 l.rest ≡ false;
}

abbrev pub decreases-declarations : goal.decreases-declarations
decreases-declarations l = length l.rest
