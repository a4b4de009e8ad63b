use Rattle.std.proofs.Common.{pos, false, subst}
use Rattle.yr_image.specs.declared.instruction.Arithmetic.TheVariants as arithmetic
use Rattle.yr_image.specs.declared.instruction.Instruction.TheVariants as i
use Rattle.yr_emission.specs.Parts.{one, both, entries_part}
use Rattle.yr_emission.specs.Written.{HasRow, Written}
use Rattle.yr_emission.proofs.Stands.{sized_one}
use Rattle.yr_emission.proofs.WrittenLemmas.{written_both, written_one, OnOk-map}
use Rattle.yr_emission.proofs.putting.put_entries.Goals as goal

pub returns : goal.returns
returns c = λ image.
    let n0 = i.Number (pos 0) in let n1 = i.Number (pos 1) in let f = i.Field false c.args.id in let r = i.Arith arithmetic.Subtract in
    let r0 = c.args.rows.now.items in let r1 = c.put.new.rows.items in let r2 = c.put-2.new.rows.items in let r3 = c.put-3.new.rows.items in let r4 = c.put-4.new.rows.items in
    let second = subst (λ x. HasRow x r1 r2) c.field.ensures c.in_ok-put-2.ensures in
    OnOk-map c.put-4.result (HasRow r r3 r4) (Written (entries_part c.args.id) r0 r4 image image)
    (λ h. written_both (one n0) (both (one f) (both (one n1) (one r))) r0 r1 r4 image image image (sized_one n0) (written_one n0 r0 r1 image c.in_ok-put.ensures)
    (written_both (one f) (both (one n1) (one r)) r1 r2 r4 image image image (sized_one f) (written_one f r1 r2 image second)
    (written_both (one n1) (one r) r2 r3 r4 image image image (sized_one n1) (written_one n1 r2 r3 image c.in_ok-put-3.ensures) (written_one r r3 r4 image h))))
    c.put-4.ensures
