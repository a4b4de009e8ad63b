use Rattle.std.proofs.Common.{length, ap, sym, ◌∙◌, arith}
use Rattle.yr_rows.specs.Moves.{moves_in, sets_in, program_moves}
use Rattle.yr_verifier.proofs.ProgramLemmas.{moved}
use Rattle.yr_verifier.proofs.programs.is_wellformed.Goals as goal

pub returns : goal.returns
returns c =
    let row = c.args.row.now in
    let moves = c.range.ensures ∙ ap (λ m. program_moves row.first_move row.moves (moves_in m)) c.bytes_of-moves.ensures in
    let sets = ap sets_in c.bytes_of.ensures in (
      λ t. (omega (arith, c.if-end_of-count_moves.false, c.end_of.ensures, c.count_moves.ensures, ap (λ m. length (moves_in m)) c.bytes_of-moves.ensures), moved moves sets (c.are_wellformed_moves.ensures.0 t)),
      λ good. c.are_wellformed_moves.ensures.1 (moved (sym moves) (sym sets) good.1),
    )
