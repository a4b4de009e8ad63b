-- Each row of the module leads to its field.
use Rattle.std.proofs.Common.{◌++◌, refl}
use Rattle.std.specs.List.{All}
use Rattle.std.proofs.lemmas.List.Elements.{All-append, All-from_recursion}
use Rattle.yr_modules.specs.Elf.ModuleRows.{number_rows, array_rows, constant_rows, LeadsToField, elf_module}

numbers-lead : All LeadsToField number_rows
unfolding number_rows
numbers-lead = All-from_recursion LeadsToField number_rows (refl, (refl, (refl, (refl, (refl, (refl, (refl, (refl, (refl, (refl, (refl, (refl, (refl, (refl, (refl, (refl, (refl, (refl, tt))))))))))))))))))

arrays-lead : All LeadsToField array_rows
unfolding array_rows
arrays-lead = All-from_recursion LeadsToField array_rows (refl, (refl, (refl, tt)))

constants-lead : All LeadsToField constant_rows
unfolding constant_rows
constants-lead = All-from_recursion LeadsToField constant_rows (tt, (tt, (tt, (tt, (tt, (tt, (tt, (tt, (tt, (tt, (tt, (tt, (tt, (tt, (tt, (tt, (tt, (tt, (tt, (tt, (tt, (tt, (tt, (tt, (tt, (tt, (tt, (tt, (tt, (tt, (tt, (tt, (tt, (tt, (tt, (tt, (tt, tt)))))))))))))))))))))))))))))))))))))

pub rows-lead : All LeadsToField elf_module.rows
rows-lead =
    All-append LeadsToField (number_rows ++ array_rows) constant_rows
    (All-append LeadsToField number_rows array_rows numbers-lead arrays-lead) constants-lead
