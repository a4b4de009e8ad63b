-- What wellformed bytes pass.
use Rattle.std.proofs.Common.{ℕ, List}
use Rattle.yr_image.specs.declared.fault.ImageFault.TheVariants.{TooShort, Magic, Version, Length, Section}
use Rattle.yr_image.specs.Sections.{HasSections}
use Rattle.yr_machine.specs.Wellformed.{IsWellformed}

-- their header and sections fit
pub has_sections : (bytes : List ℕ) → IsWellformed bytes → HasSections bytes
has_sections bytes passes = record {
  long_enough = passes TooShort;
  magic_bytes = passes Magic;
  version = passes Version;
  whole = passes Length;
  sections = λ k. passes (Section k);
}
