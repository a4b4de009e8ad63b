use Rattle.std.proofs.Common.{refl}
use Rattle.yr_draft.specs.Added.{row_behind, with_program}
use Rattle.yr_draft.proofs.GrowLemmas.{program_added, program_grows}
use Rattle.yr_draft.proofs.laws.programs_stay.Goals as goal

pub returns : goal.returns
returns c = record {
  added = λ old backwards tree moves sets good accepts.
      program_added old (with_program old moves sets) backwards tree moves sets (row_behind old.moves moves) good accepts refl refl refl refl refl;
  stays = program_grows;
}
