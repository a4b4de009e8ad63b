use Rattle.std.proofs.Common.{◌≡◌, None, Some, sym, ◌∙◌}
use Rattle.yr_rows.proofs.MoveLemmas.{wellformed_at, wellformed_says, wellformed_names}
use Rattle.yr_moves.specs.Programs.{moves_of, sets_of}
use Rattle.yr_moves.proofs.rows.ProgramRows.move_at.Goals as goal
use Rattle.std.specs.Prelude.{length}

pub unreachable-requires : goal.unreachable-requires
unreachable-requires c =
    let rows = c.args.self.now in
    let good = wellformed_at (moves_of rows) (sets_of rows) c.args.m c.at.result c.requires.wellformed c.at.ensures in
    let says = wellformed_says (length (moves_of rows)) (length (sets_of rows)) c.at.result good in
    let none : None ≡ Some good.0 = sym c.in-None.is ∙ (c.read.ensures ∙ says) in cc none

pub returns-clause-names : goal.returns-clause-names
returns-clause-names c =
    let rows = c.args.self.now in
    wellformed_names (length (moves_of rows)) (length (sets_of rows)) c.at.result c.in-Some.v
    (wellformed_at (moves_of rows) (sets_of rows) c.args.m c.at.result c.requires.wellformed c.at.ensures) (sym c.read.ensures ∙ c.in-Some.is)
