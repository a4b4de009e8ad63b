-- Words that do not fit an image, as the refusals that they lead to.
use Rattle.std.specs.Prelude.{ℕ, List, codes}
use Rattle.std.specs.Borrow.{Bor}
use Rattle.yr_outcome.specs.Front.{Refusal}
use Rattle.yr_outcome.specs.Externals.{external_refusal}
use Rattle.yr_scan.specs.declared.misfits.Misfit.{Misfit}
use Rattle.yr_scan.specs.declared.misfits.Misfit.TheVariants as misfit

abbrev pub why : Misfit → List ℕ
why misfit.Unknown = codes "Unknown"
why misfit.Kind = codes "Kind"

-- the refusal of a name
abbrev pub refusal_of : (name : List ℕ) → Misfit → Refusal
refusal_of name m = external_refusal name (why m)

abbrev pub misfit_refusal : Bor (List ℕ) × Misfit → Refusal
misfit_refusal p = refusal_of p.0.now p.1
