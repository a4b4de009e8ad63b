use Rattle.yr_compiler.proofs.PassLemmas.{rules_pass, nothing_without_rules, notes_pass, externals_pass}
use Rattle.yr_compiler.proofs.listing_laws.listings_pass.Goals as goal

pub returns : goal.returns
returns c = record {
  rules = rules_pass;
  without_rules = nothing_without_rules;
  notes = notes_pass;
  externals = externals_pass;
}
