-- The value is of the field's kind.
use Rattle.std.proofs.Common.{w64, to_z, of_z}
use Rattle.yr_modules.proofs.ElfFieldLemmas.{value-suits}
use Rattle.yr_modules.proofs.elf.elf_file.ElfModules.field.Goals as goal

pub returns-in-Some-Some-clause-kind : goal.returns-in-Some-Some-clause-kind
returns-in-Some-Some-clause-kind c =
    rw c.value_in.ensures (value-suits c.in-Some-Some.layout c.self.inside.file.now (to_z w64 (of_z w64 c.args.index)) c.args.id c.in-Some-Some.field c.in-Some-Some.ensures.field)
