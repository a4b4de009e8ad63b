use Rattle.std.proofs.Common.{◌≡◌, ◌∙◌, ◌<◌, ◌≤◌, length, true, false, sym, subst, arith}
use Rattle.std.specs.Str.{bytes_eq}
use Rattle.yr_image.specs.Views.{image_of, shown_bytes}
use Rattle.yr_machine.specs.Names.{note_name}
use Rattle.yr_machine.proofs.CallerLemmas.{has_sections}
use Rattle.yr_scan.proofs.ExternalLemmas.{external_rows}
use Rattle.yr_scan.proofs.FitLemmas.{found_here, found_next, found_none}
use Rattle.yr_scan.proofs.misfits.external_named.Goals as goal

pub external_at-row-requires-clause-there : goal.external_at-row-requires-clause-there
external_at-row-requires-clause-there c =
    let rows = external_rows (shown_bytes c.args.view.now) (has_sections (shown_bytes c.args.view.now) c.requires.wellformed) in
    let end = c.rows-k-end.ensures in
    let below = c.loop-k-test.true in
    omega (arith, rows, end, below)

pub returns-then-eq : goal.returns-then-eq
returns-then-eq c =
    let row = c.external_at-row.result in
    let image = image_of c.args.view.now in
    let tested : bytes_eq (note_name image row) c.args.name.now ≡ true = subst (λ n. bytes_eq n c.args.name.now ≡ true) c.name_of.ensures (sym c.eq.ensures ∙ c.if-eq.true) in
    sym (c.loop-k.invariant ∙ found_here image image.externals c.args.name.now c.loop-k.k row c.external_at-row.ensures.row tested)

pub loop-k-preserved : goal.loop-k-preserved
loop-k-preserved c =
    let row = c.external_at-row.result in
    let image = image_of c.args.view.now in
    let tested : bytes_eq (note_name image row) c.args.name.now ≡ false = subst (λ n. bytes_eq n c.args.name.now ≡ false) c.name_of.ensures (sym c.eq.ensures ∙ c.if-eq.false) in
    c.loop-k.invariant ∙ found_next image image.externals c.args.name.now c.loop-k.k row c.external_at-row.ensures.row tested

pub returns : goal.returns
returns c =
    let image = image_of c.args.view.now in
    let rows = external_rows (shown_bytes c.args.view.now) (has_sections (shown_bytes c.args.view.now) c.requires.wellformed) in
    let end = c.rows-k-end.ensures in
    let past = c.loop-k-test.false in
    let all : length image.externals ≤ c.loop-k.k = omega (arith, rows, end, past) in
    sym (c.loop-k.invariant ∙ found_none image image.externals c.args.name.now c.loop-k.k all)
