use Rattle.std.proofs.Common.{pos}
use Rattle.yr_image.specs.declared.instruction.Instruction.TheVariants as i
use Rattle.yr_emission.specs.Parts.{one, both}
use Rattle.yr_emission.specs.Written.{HasRow, Written}
use Rattle.yr_emission.proofs.Stands.{sized_one}
use Rattle.yr_emission.proofs.WrittenLemmas.{written_both, written_one, OnOk-map}
use Rattle.yr_emission.proofs.putting.put_first.Goals as goal

pub returns : goal.returns
returns c = λ image.
    let n = i.Number (pos 1) in let r = c.args.instruction in
    let r0 = c.args.rows.now.items in let r1 = c.put.new.rows.items in let r2 = c.put-2.new.rows.items in
    OnOk-map c.put-2.result (HasRow r r1 r2) (Written (both (one n) (one r)) r0 r2 image image)
    (λ h. written_both (one n) (one r) r0 r1 r2 image image image (sized_one n) (written_one n r0 r1 image c.in_ok-put.ensures) (written_one r r1 r2 image h))
    c.put-2.ensures
