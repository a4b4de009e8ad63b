use Rattle.std.proofs.Common.{rules, ℕ, List, length, ap}
use Rattle.yr_lexer.proofs.PathLemmas.{name-good, name-bad}
use Rattle.yr_lexer.proofs.gathering.name_in.Goals as goal

pub returns-else-is_empty : goal.returns-else-is_empty
returns-else-is_empty c =
    let e = c.in-Ok.ensures.cases.0 in
    let l = ap (λ (x : List ℕ). length x) e in
    (e, name-good c.args.bytes.now c.in-Ok.ensures.cases.1 (search rules))

pub returns-in-Err : goal.returns-in-Err
returns-in-Err c = name-bad c.args.bytes.now c.in-Err.ensures.cases.0
