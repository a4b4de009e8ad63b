use Rattle.yr_compiler.proofs.NameLemmas.{rule_names, note_names, external_names}
use Rattle.yr_compiler.proofs.listing_laws.names_pass.Goals as goal

pub returns : goal.returns
returns c = record {
  rules = rule_names;
  notes = note_names;
  externals = external_names;
}
