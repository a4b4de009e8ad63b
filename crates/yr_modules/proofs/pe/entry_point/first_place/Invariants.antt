-- No section so far holds the address.
use Rattle.std.proofs.Common.{◌≡◌, None}
use Rattle.yr_modules.specs.Pe.EntryPoint.{first_below, place_in_section}
use Rattle.yr_modules.proofs.pe.entry_point.first_place.Given as goal

abbrev pub invariant-loop-k : goal.invariant-loop-k
invariant-loop-k l = first_below (place_in_section l.file l.p l.address) l.k ≡ None
