-- A program that stands for a pattern occurs in the texts in which the pattern does.
use Rattle.std.proofs.Common.{◌≡◌, ℕ, List, false, sym, ◌∙◌, subst}
use Rattle.std.proofs.lemmas.Bool.Decides.{same_from_decides}
use Rattle.std.proofs.lemmas.Option.{same_Some}
use Rattle.yr_pattern.specs.Tree.{Tree}
use Rattle.yr_rows.specs.Accepts.{Accepts}
use Rattle.yr_image.specs.declared.rows.ProgramRow.{ProgramRow}
use Rattle.yr_image.specs.Image.{moves_of}
use Rattle.yr_meaning.specs.Trial.{Occurs, occurs_in}
use Rattle.yr_meaning.proofs.TrialLemmas.{occurs-decides}
use Rattle.yr_machine.specs.Operations.{Context}
use Rattle.yr_machine.specs.ImageRun.{KnowsPrograms, Occurs as OccursIn}
use Rattle.yr_draft.specs.Programs.{IsProgramOf}

module _ (context : Context) (tree : Tree) (program : ℕ) (stands : IsProgramOf context.image false tree program) where
  to_pattern : (text : List ℕ) → OccursIn context.image program text → Occurs tree text
  to_pattern text o =
      let row : o.0 ≡ stands.row = same_Some o.0 stands.row (sym o.1 ∙ stands.is_row) in
      let accepts : Accepts (moves_of context.image stands.row) context.image.sets text o.2 o.3 =
      subst (λ (r : ProgramRow). Accepts (moves_of context.image r) context.image.sets text o.2 o.3) row o.5 in
      (o.2, o.3, o.4, (stands.accepts text o.2 o.3).0 accepts)

  to_program : (text : List ℕ) → Occurs tree text → OccursIn context.image program text
  to_program text o = (stands.row, stands.is_row, o.0, o.1, o.2, (stands.accepts text o.0 o.1).1 o.3)

  pub occurs_same : KnowsPrograms context → (text : List ℕ) → context.occurs program text ≡ occurs_in tree text
  occurs_same knows text =
      let k = knows program text in
      same_from_decides {P = Occurs tree text} (context.occurs program text) (occurs_in tree text)
      (λ h. to_pattern text (k.0 h), λ o. k.1 (to_program text o)) (occurs-decides tree text)
