use Rattle.std.proofs.Common.{Ok, Err, ap}
use Rattle.yr_pattern.specs.Tree.{tree_of}
use Rattle.yr_conditions.specs.Fixed.{the_readers}
use Rattle.yr_conditions.specs.Readers.{HexRefusal, Jump}
use Rattle.yr_conditions.proofs.ReaderLemmas.{one-hex, the-read}
use Rattle.yr_conditions.proofs.reading.hex_answer.Goals as goal

pub returns-in-Ok : goal.returns-in-Ok
returns-in-Ok c = let t = c.args.text.now in one-hex t (Ok (tree_of c.in-Ok.pattern)) (the_readers.hex t) c.in-Ok.ensures.pattern (the-read.hex t)

pub returns-in-Err-HexSyntax : goal.returns-in-Err-HexSyntax
returns-in-Err-HexSyntax c = let t = c.args.text.now in one-hex t (Err HexRefusal.NoReading) (the_readers.hex t) (c.in-Err-HexSyntax.ensures.syntax (ap Err c.in-Err-HexSyntax.field-0-is)) (the-read.hex t)

pub returns-in-Err-HexJump : goal.returns-in-Err-HexJump
returns-in-Err-HexJump c =
    let t = c.args.text.now in one-hex t (Err (Jump c.in-Err-HexJump.place)) (the_readers.hex t) (c.in-Err-HexJump.ensures.jump c.in-Err-HexJump.place (ap Err c.in-Err-HexJump.field-0-is)) (the-read.hex t)
