-- The first segment that holds the entry point gives its place.
use Rattle.std.proofs.Common.{sym}
use Rattle.yr_modules.specs.Elf.EntryPoint.{place_in_segment}
use Rattle.yr_modules.proofs.ElfEntryPointLemmas.{first_below-zero, first_below-none, first_below-found}
use Rattle.yr_modules.proofs.elf.layout.Layout.entry_point.Goals as goal

pub loop-k-init : goal.loop-k-init
loop-k-init c = first_below-zero (place_in_segment c.args.self c.args.file.now c.number_in-entry.result)

pub returns-in-Some : goal.returns-in-Some
returns-in-Some c =
    rw (← c.number_in-entry.ensures, ← c.number_in-count.ensures)
    (sym (first_below-found (place_in_segment c.args.self c.args.file.now c.number_in-entry.result) c.number_in-count.result c.loop-k.k c.in-Some.place c.loop-k-test.true c.loop-k.invariant (sym c.in-Some.ensures)))

pub loop-k-preserved : goal.loop-k-preserved
loop-k-preserved c =
    first_below-none (place_in_segment c.args.self c.args.file.now c.number_in-entry.result) c.loop-k.k c.loop-k.invariant (sym c.in_default.ensures)
