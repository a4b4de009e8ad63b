-- The values of the modules keep the table of ids.
use Rattle.std.proofs.Common.{◌≡◌, ◌≤◌, ◌<◌, ℕ, ℤ, max, List, length, Option, None, Some, refl, sym, subst, arith}
use Rattle.std.specs.Option.{option_map}
use Rattle.yr_base.specs.declared.value.Kind.{Kind}
use Rattle.yr_base.specs.declared.value.Kind.TheVariants as kind
use Rattle.yr_values.specs.Values.{Value, Undefined, Number, Flag, Text}
use Rattle.yr_values.specs.Modules.{Suits}
use Rattle.yr_image.specs.ModuleTable.{field_row_of, call_row_of}
use Rattle.yr_machine.specs.Budget.{text_length}
use Rattle.yr_machine.specs.ImageRun.{FitModules}
use Rattle.yr_modules.specs.Elf.Fields as elf
use Rattle.yr_modules.proofs.ElfFieldLemmas.{elf_field-suits, elf_field-short}
use Rattle.yr_modules.proofs.HashLengthLemmas.{call-suits, call-short}
use Rattle.yr_modules.proofs.PeFieldLemmas.{field-suits, field-short}
use Rattle.yr_modules.specs.Joined.{module_field, module_call}
use Rattle.yr_modules.proofs.TableLemmas.{field_kinds, call_kinds}

-- a value whose texts have at most n bytes
text_bound : (n : ℕ) (v : Value) → ((text : List ℕ) → v ≡ Text text → length text ≤ n) → text_length v ≤ n
text_bound n Undefined h = omega arith
text_bound n (Number x) h = omega arith
text_bound n (Flag b) h = omega arith
text_bound n (Text t) h = h t refl

pub modules-fit : (file : List ℕ) → FitModules file (module_field file) (module_call file)
modules-fit file = record {
  fields = λ id index. subst (λ k. Suits k (module_field file id index)) (sym (field_kinds id))
      (field-suits id file index (elf.elf_kind id) (elf.elf_field file id index) (elf_field-suits file id index));
  calls = λ id from size. subst (λ k. Suits k (module_call file id from size)) (sym (call_kinds id))
      (call-suits id file from size);
  field_texts = λ id index. omega (
    arith,
    text_bound (length file) (module_field file id index)
        (λ text e. field-short id file text index (elf.elf_field file id index) (λ own. elf_field-short file text id index own) e),
  );
  call_texts = λ id from size. omega (arith, text_bound 64 (module_call file id from size) (λ text e. call-short id file text from size e));
}
