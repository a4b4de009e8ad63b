-- What the code of the walk says of an instruction's role.
use Rattle.std.specs.Prelude.{ℕ, zero, suc, if◌then◌else◌, List, [], ◌∷◌}
use Rattle.yr_base.specs.declared.value.Kind.TheVariants as kind
use Rattle.yr_machine.specs.declared.block.Want.{Want}
use Rattle.yr_machine.specs.declared.block.Want.TheVariants as want
use Rattle.yr_machine.specs.Roles.{Role, ending, plain, skip, starts, turn}
use Rattle.yr_verifier.specs.declared.effect.Wants.{Wants}
use Rattle.yr_verifier.specs.declared.effect.Effect.{Effect}
use Rattle.yr_verifier.specs.declared.effect.Effect.TheVariants as effect

-- so many of one want, and more below them
abbrev pub copies : Want → ℕ → List Want → List Want
copies w zero below = below
copies w (suc n) below = w ∷ copies w n below

-- the wants, from the top of the stack down
abbrev pub wants_of : Wants → List Want
wants_of wants = copies wants.want wants.count (if wants.numbered then want.Of kind.Number ∷ [] else [])

-- the role of an instruction with this effect
abbrev pub role_of : Effect → Role
role_of effect.Ends = ending
role_of (effect.Gives wants k) = plain (wants_of wants) k
role_of (effect.Skips end) = skip end
role_of (effect.Starts wants keeps strings end) = starts (wants_of wants) keeps strings end
role_of (effect.Turns place) = turn place
