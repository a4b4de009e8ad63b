-- The setting of the program.
use Rattle.yr_modules.specs.Joined.{all_modules}
use Rattle.yr_scan.specs.Scanned.{module_values}
use Rattle.yr_outcome.specs.declared.answer.Answer.{Answer}
use Rattle.yr_outcome.specs.declared.answer.Answer.TheVariants as answer
use Rattle.yr_outcome.specs.Answers.{Setting}

-- the modules that there are, and their values
abbrev pub all_setting : Setting
all_setting = record { modules = all_modules; values = module_values }

-- a refusal, and want of memory for all else
abbrev pub refusal_or_none : Answer → Answer
refusal_or_none (answer.Refused s text) = answer.Refused s text
refusal_or_none a = answer.NoMemory
