use Rattle.std.proofs.Common.{List, subst}
use Rattle.std.specs.Prelude.{All}
use Rattle.yr_lexer.specs.declared.source.FileToken.{FileToken}
use Rattle.yr_lexer.specs.Sources.{LiesInFile}
use Rattle.yr_parser.proofs.GoodLemmas.{gathered-good}
use Rattle.yr_parser.proofs.parsing.keeps_forms.Goals as goal

pub returns : goal.returns
returns c =
    gathered-good c.args.tokens.now (subst (λ (ts : List FileToken). All (LiesInFile c.args.tokens.now.files) ts) c.tokens-list.ensures.value c.tokens-list.ensures.lies)
