-- Each row of the modules is in the table of ids.
use Rattle.std.proofs.Common.{◌++◌, refl}
use Rattle.std.specs.List.{All}
use Rattle.std.proofs.lemmas.List.Elements.{All-append, All-from_recursion}
use Rattle.yr_modules.specs.Elf.ModuleRows as elf
use Rattle.yr_modules.specs.Hash.ModuleRows.{hash_module}
use Rattle.yr_modules.specs.Pe.ModuleRows as pe
use Rattle.yr_modules.specs.Joined.{IsListed, all_rows}

elf_number_rows-listed : All IsListed elf.number_rows
unfolding elf.number_rows
elf_number_rows-listed = All-from_recursion IsListed elf.number_rows (refl, (refl, (refl, (refl, (refl, (refl, (refl, (refl, (refl, (refl, (refl, (refl, (refl, (refl, (refl, (refl, (refl, (refl, tt))))))))))))))))))

elf_array_rows-listed : All IsListed elf.array_rows
unfolding elf.array_rows
elf_array_rows-listed = All-from_recursion IsListed elf.array_rows (refl, (refl, (refl, tt)))

elf_constant_rows-listed : All IsListed elf.constant_rows
unfolding elf.constant_rows
elf_constant_rows-listed = All-from_recursion IsListed elf.constant_rows (tt, (tt, (tt, (tt, (tt, (tt, (tt, (tt, (tt, (tt, (tt, (tt, (tt, (tt, (tt, (tt, (tt, (tt, (tt, (tt, (tt, (tt, (tt, (tt, (tt, (tt, (tt, (tt, (tt, (tt, (tt, (tt, (tt, (tt, (tt, (tt, (tt, tt)))))))))))))))))))))))))))))))))))))

pe_number_rows-listed : All IsListed pe.number_rows
unfolding pe.number_rows
pe_number_rows-listed = All-from_recursion IsListed pe.number_rows (refl, (refl, (refl, (refl, (refl, (refl, (refl, (refl, (refl, (refl, tt))))))))))

pe_array_rows-listed : All IsListed pe.array_rows
unfolding pe.array_rows
pe_array_rows-listed = All-from_recursion IsListed pe.array_rows (refl, (refl, tt))

pe_constant_rows-listed : All IsListed pe.constant_rows
unfolding pe.constant_rows
pe_constant_rows-listed = All-from_recursion IsListed pe.constant_rows (tt, (tt, (tt, (tt, (tt, (tt, (tt, (tt, (tt, tt)))))))))

hash_rows-listed : All IsListed hash_module.rows
hash_rows-listed = All-from_recursion IsListed hash_module.rows (refl, (refl, (refl, tt)))

module_rows-listed : All IsListed elf.elf_module.rows
module_rows-listed =
    All-append IsListed (elf.number_rows ++ elf.array_rows) elf.constant_rows
    (All-append IsListed elf.number_rows elf.array_rows elf_number_rows-listed elf_array_rows-listed) elf_constant_rows-listed

pe_rows-listed : All IsListed pe.pe_module.rows
pe_rows-listed =
    All-append IsListed (pe.number_rows ++ pe.array_rows) pe.constant_rows
    (All-append IsListed pe.number_rows pe.array_rows pe_number_rows-listed pe_array_rows-listed) pe_constant_rows-listed

pub rows-listed : All IsListed all_rows
rows-listed =
    All-append IsListed elf.elf_module.rows (hash_module.rows ++ pe.pe_module.rows) module_rows-listed
    (All-append IsListed hash_module.rows pe.pe_module.rows hash_rows-listed pe_rows-listed)
