use Rattle.yr_modules.proofs.ElfModuleRowLemmas.{rows-lead}
use Rattle.yr_modules.proofs.elf.laws.rows_lead_to_fields.Goals as goal

pub returns : goal.returns
returns c = rows-lead
