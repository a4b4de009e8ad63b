use Rattle.std.proofs.Common.{length}
use Rattle.yr_image.specs.declared.instruction.Instruction.TheVariants as i
use Rattle.yr_emission.specs.Parts.{text_part}
use Rattle.yr_emission.specs.Written.{HasRow, Written}
use Rattle.yr_emission.proofs.WrittenLemmas.{written_text, OnOk-map}
use Rattle.yr_emission.proofs.putting.put_text.Goals as goal

pub returns : goal.returns
returns c =
    let t = c.args.text.now in
    let place = c.in_ok-place.place in
    let r0 = c.args.rows.now.items in let r1 = c.put.new.rows.items in
    let old = c.args.draft.now in let new = c.put_text.new.self in
    OnOk-map c.put.result (HasRow (i.Text place (length t)) r0 r1) (Written (text_part t) r0 r1 old new)
    (written_text t place r0 r1 old new c.in_ok-place.ensures) c.put.ensures
