use Rattle.std.proofs.Common.{length}
use Rattle.yr_image.specs.declared.instruction.Instruction.TheVariants as i
use Rattle.yr_emission.specs.Parts.{set_part}
use Rattle.yr_emission.specs.Written.{HasRow, Written}
use Rattle.yr_emission.proofs.WrittenLemmas.{written_set, OnOk-map}
use Rattle.yr_emission.proofs.putting.put_set.Goals as goal

pub returns : goal.returns
returns c =
    let f = c.args.form in let q = c.args.quantifier in
    let members = c.args.members.now in
    let first = c.in_ok-first.first in
    let r0 = c.args.rows.now.items in let r1 = c.put.new.rows.items in
    let old = c.args.draft.now in let new = c.put_members.new.self in
    OnOk-map c.put.result (HasRow (i.Of f q first (length members)) r0 r1) (Written (set_part f q members) r0 r1 old new)
    (written_set f q members first r0 r1 old new c.in_ok-first.ensures.members c.in_ok-first.ensures.first) c.put.ensures
