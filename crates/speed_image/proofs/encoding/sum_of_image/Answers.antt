use Rattle.std.proofs.Common.{◌≡◌, ◌≤◌, length, sym, ap, subst, ◌∙◌, arith}
use Rattle.yr_image.specs.Image.{Image, shown}
use Rattle.yr_image.specs.Reading.{image_in}
use Rattle.yr_image.specs.Sections.{HasSections}
use Rattle.yr_image.specs.Views.{image_of}
use Rattle.speed_image.proofs.encoding.sum_of_image.Goals as goal

pub over-requires : goal.over-requires
over-requires c =
    let r = c.requires in
    subst HasSections (sym r.encoding)
    (c.encodings_have_sections.ensures.sections c.args.tables.now r.fits (omega (arith, r.no_rules)) (omega (arith, r.no_strings))
    (omega (arith, r.a_node)) r.short)

pub sum_of_rows-requires-clause-code : goal.sum_of_rows-requires-clause-code
sum_of_rows-requires-clause-code c =
    let r = c.requires in
    let back : image_of c.over.result ≡ shown c.args.tables.now =
    ap image_in (c.over.ensures ∙ r.encoding) ∙ c.tables_come_back.ensures.tables c.args.tables.now r.fits in
    subst (λ (image : Image). c.args.rows ≤ length image.code) (sym back) (omega (arith, r.code))

pub sum_of_rows-requires-clause-notes : goal.sum_of_rows-requires-clause-notes
sum_of_rows-requires-clause-notes c =
    let r = c.requires in
    let back : image_of c.over.result ≡ shown c.args.tables.now =
    ap image_in (c.over.ensures ∙ r.encoding) ∙ c.tables_come_back.ensures.tables c.args.tables.now r.fits in
    subst (λ (image : Image). c.args.rows ≤ length image.notes) (sym back) (omega (arith, r.notes))
