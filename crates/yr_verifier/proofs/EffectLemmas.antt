-- Numbers among the wants.
use Rattle.std.proofs.Common.{◌≡◌, ℕ, zero, suc, List, ◌∷◌, refl, ap}
use Rattle.yr_base.specs.declared.value.Kind.TheVariants as kind
use Rattle.yr_machine.specs.declared.block.Want.{Want}
use Rattle.yr_machine.specs.declared.block.Want.TheVariants as want
use Rattle.yr_machine.specs.Roles.{numbers}
use Rattle.yr_verifier.specs.Effects.{copies}

pub copies-numbers : (n : ℕ) (below : List Want) → copies (want.Of kind.Number) n below ≡ numbers n below
copies-numbers zero below = refl
copies-numbers (suc n) below = ap (λ l. want.Of kind.Number ∷ l) (copies-numbers n below)
