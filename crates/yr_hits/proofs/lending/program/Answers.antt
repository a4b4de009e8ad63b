use Rattle.std.proofs.Common.{length, take, drop, ap, ◌∙◌, arith}
use Rattle.std.specs.Prelude.{◌*◌}
use Rattle.std.proofs.lemmas.List.{length-drop, length-take-le}
use Rattle.yr_rows.specs.Moves.{moves_in, sets_in}
use Rattle.yr_image.specs.Views.{shown_bytes}
use Rattle.yr_machine.proofs.CallerLemmas.{has_sections}
use Rattle.yr_hits.proofs.SectionLemmas.{section_bytes, program_in_bytes}
use Rattle.yr_hits.proofs.LendingLemmas.{program_of}
use Rattle.yr_hits.proofs.lending.program.Goals as goal

pub part-moves-requires : goal.part-moves-requires
part-moves-requires c =
    let bytes = shown_bytes c.args.view.now in
    let inside = program_in_bytes bytes c.args.k c.program-row.result c.requires.wellformed c.program-row.ensures in
    let same = ap length c.bytes_of.ensures in
    omega (arith, inside, same)

pub over-requires-clause-sets : goal.over-requires-clause-sets
over-requires-clause-sets c =
    let bytes = shown_bytes c.args.view.now in
    let size = section_bytes bytes 5 (has_sections bytes c.requires.wellformed) (omega arith) in
    let same = ap length c.bytes_of-2.ensures in
    omega (arith, size, same)

pub over-requires-clause-moves : goal.over-requires-clause-moves
over-requires-clause-moves c =
    let bytes = shown_bytes c.args.view.now in
    let row = c.program-row.result in
    let inside = program_in_bytes bytes c.args.k row c.requires.wellformed c.program-row.ensures in
    let same = ap length c.bytes_of.ensures in
    let left = length-drop (16 * row.first_move) c.bytes_of.result.now in
    let size = length-take-le (16 * row.moves) (drop (16 * row.first_move) c.bytes_of.result.now) (omega (arith, inside, same, left)) in
    omega (arith, size, ap length c.part-moves.ensures)

pub returns : goal.returns
returns c =
    let row = c.program-row.result in
    program_of (shown_bytes c.args.view.now) c.args.k row c.over.result c.requires.wellformed c.program-row.ensures
    (c.over.ensures.moves ∙ ap moves_in (c.part-moves.ensures ∙ ap (λ b. take (16 * row.moves) (drop (16 * row.first_move) b)) c.bytes_of.ensures))
    (c.over.ensures.sets ∙ ap sets_in c.bytes_of-2.ensures)
