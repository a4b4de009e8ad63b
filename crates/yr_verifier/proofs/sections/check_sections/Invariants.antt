use Rattle.std.proofs.Common.{◌≡◌, ◌≤◌, length}
use Rattle.yr_image.specs.Sections.{place_of}
use Rattle.yr_verifier.specs.Firsts.{Reaches}
use Rattle.yr_verifier.proofs.sections.check_sections.Given as goal

abbrev pub invariant-loop-k : goal.invariant-loop-k
invariant-loop-k l = record {
  place : l.place ≡ place_of l.bytes l.k;
  inside : l.place ≤ length l.bytes;
  before : Reaches l.bytes 5 l.k;
}
