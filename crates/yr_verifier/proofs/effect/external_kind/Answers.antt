use Rattle.std.proofs.Common.{sym, ap, arith}
use Rattle.std.specs.Option.{option_map_or}
use Rattle.std.proofs.lemmas.Option.{slice_get_past}
use Rattle.yr_base.specs.declared.value.Kind.TheVariants as kind
use Rattle.yr_machine.specs.Roles.{kind_of_note}
use Rattle.yr_image.specs.declared.rows.NoteRow.{NoteRow}
use Rattle.yr_image.specs.Views.{image_of}
use Rattle.yr_verifier.proofs.effect.external_kind.Goals as goal

pub returns-else-c-count_externals : goal.returns-else-c-count_externals
returns-else-c-count_externals c =
    sym (ap (λ o. option_map_or (λ (row : NoteRow). kind_of_note row.kind) o kind.Number)
    (slice_get_past (image_of c.args.view.now).externals c.args.c (omega (arith, c.if-c-count_externals.false, c.count_externals.ensures))))
