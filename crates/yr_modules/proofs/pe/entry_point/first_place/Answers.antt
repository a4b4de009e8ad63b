-- The first section that holds the address gives its place.
use Rattle.std.proofs.Common.{◌≡◌, ◌<◌, sym, ◌∙◌, arith}
use Rattle.yr_modules.specs.Pe.Header.{number_in, number_of_sections}
use Rattle.yr_modules.specs.Pe.EntryPoint.{place_in_section}
use Rattle.yr_modules.proofs.PeFirstLemmas.{first_below-zero, first_below-none, first_below-found}
use Rattle.yr_modules.proofs.pe.entry_point.first_place.Goals as goal

pub loop-k-init : goal.loop-k-init
loop-k-init c = first_below-zero (place_in_section c.args.file.now c.args.p c.args.address)

pub returns-in-Some-clause-place : goal.returns-in-Some-clause-place
returns-in-Some-clause-place c =
    let f = place_in_section c.args.file.now c.args.p c.args.address in
    let count : c.from-count.result ≡ number_in c.args.file.now c.args.p number_of_sections =
    c.from-count.ensures ∙ c.number_in.ensures in
    let below : c.loop-k.k < number_in c.args.file.now c.args.p number_of_sections = omega (arith, count, c.loop-k-test.true) in
    sym (first_below-found f (number_in c.args.file.now c.args.p number_of_sections) c.loop-k.k c.in-Some.place below c.loop-k.invariant (sym c.in-Some.ensures.place))

pub loop-k-preserved : goal.loop-k-preserved
loop-k-preserved c =
    first_below-none (place_in_section c.args.file.now c.args.p c.args.address) c.loop-k.k c.loop-k.invariant (sym c.in_default.ensures.place)
