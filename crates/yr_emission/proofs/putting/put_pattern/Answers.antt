use Rattle.std.proofs.Common.{refl}
use Rattle.yr_pattern.specs.Tree as pattern
use Rattle.yr_image.specs.declared.instruction.Instruction.TheVariants as i
use Rattle.yr_program.specs.Programs.{program_moves, program_sets}
use Rattle.yr_emission.specs.Parts.{pattern_part}
use Rattle.yr_emission.specs.Written.{HasRow, Written}
use Rattle.yr_emission.proofs.WrittenLemmas.{written_pattern, OnOk-map}
use Rattle.yr_emission.proofs.putting.put_pattern.Goals as goal

pub returns : goal.returns
returns c =
    let p = pattern.tree_of c.args.pattern.now in
    let number = c.in_ok-number.number in
    let program = c.in_ok-program.program in
    let said = c.in_ok-program.ensures in
    let r0 = c.args.rows.now.items in let r1 = c.put.new.rows.items in
    let old = c.args.draft.now in let new = c.put_program.new.self in
    OnOk-map c.put.result (HasRow (i.Matches number) r0 r1) (Written (pattern_part p) r0 r1 old new)
    (λ row. written_pattern p number (program_moves program) (program_sets program) r0 r1 old new said.wellformed (said.forwards refl) said.small said.few_sets
    c.in_ok-number.ensures.program c.in_ok-number.ensures.number row) c.put.ensures
