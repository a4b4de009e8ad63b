-- What a put of a sink answers.
use Rattle.std.specs.Prelude.{◌≡◌, ℕ, List, Option}
use Rattle.yr_base.specs.Causes.{HasRisen}
use Rattle.yr_base.specs.Told.{told_more, AddsPrefix}
use Rattle.yr_base.specs.declared.sink.PutAnswer.{PutAnswer}
use Rattle.yr_base.specs.declared.sink.PutAnswer.TheVariants as put

-- what a put did
abbrev pub Puts : Option (List ℕ) → Option (List ℕ) → List ℕ → PutAnswer → ℕ → ℕ → Type 0
Puts old new bytes put.Done before after = new ≡ told_more old bytes
Puts old new bytes put.Failed before after = HasRisen before after × AddsPrefix old new bytes
