use Rattle.std.proofs.Common.{◌∙◌}
use Rattle.yr_words.specs.Words.{is_flag_of, scan_letters}
use Rattle.yr_words.proofs.LentLemmas.{all-lent}
use Rattle.yr_words.proofs.parting.are_scan_flags.Goals as goal

pub returns : goal.returns
returns c = c.all_are_scan_flags.ensures ∙ all-lent (is_flag_of scan_letters) c.args.flags.now
