use Rattle.yr_compiler.proofs.ListedLemmas.{rules_shown, externals_shown}
use Rattle.yr_compiler.proofs.listing_laws.same_listings.Goals as goal

pub returns : goal.returns
returns c = record {
  rules = λ image rules ranges version named say. rules_shown image version rules.strings named rules.rules ranges say;
  externals = λ image externals say. externals_shown image externals image.externals say;
}
