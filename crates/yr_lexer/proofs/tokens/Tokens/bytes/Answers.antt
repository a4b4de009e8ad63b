use Rattle.std.proofs.Common.{subst}
use Rattle.std.specs.Prelude.{All}
use Rattle.yr_lexer.specs.Sources.{Gathered, LiesInFile}
use Rattle.yr_lexer.proofs.tokens.Tokens.bytes.Goals as goal

pub returns-clause-lies : goal.returns-clause-lies
returns-clause-lies c = subst (λ (g : Gathered). All (LiesInFile g.files) g.tokens) c.self.view_is c.self.invariant
