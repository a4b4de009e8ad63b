use Rattle.std.proofs.Common.{List, sym, subst}
use Rattle.std.specs.List.{All}
use Rattle.yr_pattern.specs.Variants.{PlainVariant}
use Rattle.yr_text.specs.Variants.{IsSound}
use Rattle.yr_text.proofs.SoundLemmas.{variants-sound}
use Rattle.yr_text.proofs.variants_of_text.variants.Goals as goal

pub returns-clause-wellformed : goal.returns-clause-wellformed
returns-clause-wellformed c =
    subst (λ (l : List PlainVariant). All IsSound l) (sym c.in_ok-all.ensures) (variants-sound c.args.bytes.now c.args.modifiers.now c.requires)
