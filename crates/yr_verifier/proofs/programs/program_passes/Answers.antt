use Rattle.std.proofs.Common.{ap, ◌∙◌, length, arith}
use Rattle.std.proofs.lemmas.Bool.{lt-ltb}
use Rattle.yr_rows.specs.Moves.{moves_in}
use Rattle.yr_image.specs.Views.{image_of}
use Rattle.yr_verifier.proofs.ProgramLemmas.{program_beyond, no_programs}
use Rattle.yr_verifier.proofs.programs.program_passes.Goals as goal

pub returns-then-k-gt0 : goal.returns-then-k-gt0
returns-then-k-gt0 c = (
  λ _. program_beyond (image_of c.args.view.now) c.args.k (omega (arith, c.if-k-count_programs.false, c.count_programs.ensures)) c.if-k-gt0.true,
  λ _. lt-ltb 0 c.args.k c.if-k-gt0.true,
)

pub returns-else-k-gt0 : goal.returns-else-k-gt0
returns-else-k-gt0 c =
    no_programs (image_of c.args.view.now) c.args.k c.count_moves.result (omega (arith, c.if-k-count_programs.false, c.count_programs.ensures))
    (omega (arith, c.if-k-gt0.false)) (c.count_moves.ensures ∙ ap (λ m. length (moves_in m)) c.bytes_of.ensures)
