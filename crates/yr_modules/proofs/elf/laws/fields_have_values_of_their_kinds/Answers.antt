use Rattle.yr_modules.proofs.ElfFieldLemmas.{elf_field-suits, elf_field-none, elf_field-short}
use Rattle.yr_modules.proofs.elf.laws.fields_have_values_of_their_kinds.Goals as goal

pub returns-clause-kinds : goal.returns-clause-kinds
returns-clause-kinds c file id index = elf_field-suits file id index

pub returns-clause-others : goal.returns-clause-others
returns-clause-others c file id index h = elf_field-none file id index h

pub returns-clause-texts : goal.returns-clause-texts
returns-clause-texts c file text id index e = elf_field-short file text id index e
