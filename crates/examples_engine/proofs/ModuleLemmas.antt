-- The values of modules that keep what they are of apart.
use Rattle.std.proofs.Common.{◌≡◌, ℕ, ℤ, List, sym, subst}
use Rattle.yr_values.specs.Values.{Value, Undefined}
use Rattle.yr_machine.specs.ImageRun.{FitModules}
use Rattle.yr_modules.specs.Elf.Fields.{elf_field}
use Rattle.yr_modules.specs.Hash.Digests.{digest_with, digest_or}
use Rattle.yr_modules.specs.Pe.Fields.{field_with, field_or}
use Rattle.yr_modules.proofs.FitLemmas.{modules-fit}

abbrev joined_field : (f e : List ℕ) → ℕ → ℤ → Value
joined_field f e id index = field_or (field_with id) f index (elf_field e id index)

abbrev joined_call : List ℕ → ℕ → ℤ → ℤ → Value
joined_call h id from size = digest_or (digest_with id) h from size Undefined

pub joined_fit : (file f e h : List ℕ) → f ≡ file → e ≡ file → h ≡ file → FitModules file (joined_field f e) (joined_call h)
joined_fit file f e h same_f same_e same_h =
    subst (λ (g : List ℕ). FitModules file (joined_field g e) (joined_call h)) (sym same_f)
    (subst (λ (g : List ℕ). FitModules file (joined_field file g) (joined_call h)) (sym same_e)
    (subst (λ (g : List ℕ). FitModules file (joined_field file file) (joined_call g)) (sym same_h) (modules-fit file)))
