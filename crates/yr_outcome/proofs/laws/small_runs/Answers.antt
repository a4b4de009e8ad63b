use Rattle.std.proofs.Common.{refl}
use Rattle.std.specs.Fmt.{digits}
use Rattle.yr_lexer.specs.Includes.{walk_down}
use Rattle.yr_checks.specs.Checks.{unused_string}
use Rattle.yr_name_tables.specs.Names.{means_some, is_meant, has_front}
use Rattle.yr_outcome.proofs.laws.small_runs.Goals as goal

pub returns-clause-two_spaces : goal.returns-clause-two_spaces
unfolding digits walk_down means_some is_meant has_front unused_string
returns-clause-two_spaces c = refl

pub returns-clause-one_space : goal.returns-clause-one_space
unfolding digits walk_down means_some is_meant has_front unused_string
returns-clause-one_space c = refl

pub returns-clause-shown_spaces : goal.returns-clause-shown_spaces
unfolding digits walk_down means_some is_meant has_front unused_string
returns-clause-shown_spaces c = refl

pub returns-clause-checked : goal.returns-clause-checked
unfolding digits walk_down means_some is_meant has_front unused_string
returns-clause-checked c = refl

pub returns-clause-read : goal.returns-clause-read
unfolding digits walk_down means_some is_meant has_front unused_string
returns-clause-read c = refl

pub returns-clause-duplicate : goal.returns-clause-duplicate
unfolding digits walk_down means_some is_meant has_front unused_string
returns-clause-duplicate c = refl

pub returns-clause-missing : goal.returns-clause-missing
unfolding digits walk_down means_some is_meant has_front unused_string
returns-clause-missing c = refl

pub returns-clause-no_target : goal.returns-clause-no_target
unfolding digits walk_down means_some is_meant has_front unused_string
returns-clause-no_target c = refl

pub returns-clause-unknown_module : goal.returns-clause-unknown_module
unfolding digits walk_down means_some is_meant has_front unused_string
returns-clause-unknown_module c = refl
