use Rattle.yr_lexer.proofs.HexLemmas.{hex-unclosed, hex-candidate}
use Rattle.yr_lexer.proofs.scan.hex.Goals as goal

pub returns-in-None : goal.returns-in-None
returns-in-None c = hex-unclosed _ c.in-None.ensures

pub returns-in-Some : goal.returns-in-Some
returns-in-Some c = hex-candidate _ _ c.in-Some.ensures
