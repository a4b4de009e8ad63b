-- No segment so far holds the entry point.
use Rattle.std.proofs.Common.{◌≡◌, None}
use Rattle.yr_modules.specs.Elf.EntryPoint.{first_below, place_in_segment}
use Rattle.yr_modules.proofs.elf.layout.Layout.entry_point.Given as goal

abbrev pub invariant-loop-k : goal.invariant-loop-k
invariant-loop-k l = first_below (place_in_segment l.self l.file l.entry) l.k ≡ None
