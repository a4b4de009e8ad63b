use Rattle.yr_splits.proofs.WholeLemmas.{splits_pass, string_says, string_place_passes, string_flags_pass, string_name_passes}
use Rattle.yr_splits.proofs.RangeLemmas.{strings_pass}
use Rattle.yr_splits.proofs.laws.strings_pass.Goals as goal

pub returns : goal.returns
returns c = record {
  splits = splits_pass;
  says = string_says;
  places = string_place_passes;
  flags = string_flags_pass;
  names = string_name_passes;
  strings = strings_pass;
}
