-- The ids of rules are those of the table of ids.
use Rattle.std.proofs.Common.{◌≡◌, ℕ, zero, suc, ◌<◌, Bool, true, false, ◌||◌, eqb, List, [], ◌∷◌, ◌++◌, All, Contains, Some, Result, Ok, Err, IfOk, refl, sym, ap, ap₂, subst, ◌∙◌, arith}
use Rattle.std.specs.List.{list_any, slice_index_or}
use Rattle.std.proofs.Math.Dec.{eqb-suc-suc, eqb-zero-suc, eqb-suc-zero}
use Rattle.std.proofs.lemmas.List.Elements.{Contains-append_left, Contains-append_right, All-contains}
use Rattle.yr_base.specs.declared.value.Kind.{Kind}
use Rattle.yr_values.specs.declared.names.ModuleEntry.TheVariants as row
use Rattle.yr_values.specs.Names.{NamedRow, NamedModule}
use Rattle.yr_image.specs.ModuleTable.{field_row_of, call_row_of}
use Rattle.yr_meaning.specs.Fitting.{ids_of}
use Rattle.yr_modules.specs.Elf.ModuleRows.{elf_module}
use Rattle.yr_modules.specs.Hash.ModuleRows.{hash_module}
use Rattle.yr_modules.specs.Pe.ModuleRows.{pe_module}
use Rattle.yr_rules.specs.Rules.{PlainRules, Stored, rules_of}
use Rattle.yr_modules.specs.Joined.{all_modules, all_rows, has_index, EntryIsListed, IsListed}
use Rattle.yr_checks.specs.Resolving.{IsRow, is_indexed, row_ids, HaveRowIds}
use Rattle.yr_preserves.specs.RuleIds.{HaveIds}
use Rattle.yr_rules.proofs.IdLemmas.{all_carried}

eqb-swap : (a b : ℕ) → eqb a b ≡ eqb b a
eqb-swap zero zero = refl
eqb-swap zero (suc b) = eqb-zero-suc b ∙ sym (eqb-suc-zero b)
eqb-swap (suc a) zero = eqb-suc-zero a ∙ sym (eqb-zero-suc a)
eqb-swap (suc a) (suc b) = eqb-suc-suc a b ∙ eqb-swap a b ∙ sym (eqb-suc-suc b a)

indexed-same : (path : List ℕ) → list_any (eqb 91) path ≡ list_any (λ b. eqb b 91) path
indexed-same [] = refl
indexed-same (b ∷ bs) = ap₂ (λ x y. x || y) (eqb-swap 91 b) (indexed-same bs)

-- a row of the module of a number
row-at : (r : NamedRow) (m : NamedModule) (k : ℕ) → k < 3 → slice_index_or all_modules k m ≡ m → Contains m.rows r → Contains all_rows r
row-at r m zero h e own =
    Contains-append_left elf_module.rows (hash_module.rows ++ pe_module.rows) r (subst (λ (m : NamedModule). Contains m.rows r) (sym e) own)
row-at r m (suc zero) h e own =
    Contains-append_right elf_module.rows (hash_module.rows ++ pe_module.rows) r
    (Contains-append_left hash_module.rows pe_module.rows r (subst (λ (m : NamedModule). Contains m.rows r) (sym e) own))
row-at r m (suc (suc zero)) h e own =
    Contains-append_right elf_module.rows (hash_module.rows ++ pe_module.rows) r
    (Contains-append_right hash_module.rows pe_module.rows r (subst (λ (m : NamedModule). Contains m.rows r) (sym e) own))
row-at r m (suc (suc (suc k))) h e own = absurd (omega (arith, h))

row-there : (r : NamedRow) → IsRow all_modules r → Contains all_rows r
row-there r h = row-at r h.module_of h.there.0 h.there.1 h.there.2 h.own

listed : All IsListed all_rows → (r : NamedRow) → IsRow all_modules r → IsListed r
listed all r h = All-contains IsListed all_rows r all (row-there r h)

pub have_ids : All IsListed all_rows → (rules : PlainRules) → HaveRowIds all_modules rules → HaveIds rules
have_ids all rules h = all_carried (row_ids all_modules) (ids_of field_row_of call_row_of)
    (λ id k x f. subst (λ b. field_row_of id ≡ Some (b, k)) (sym (indexed-same f.0.path) ∙ f.3) (subst (EntryIsListed (has_index f.0.path)) f.2 (listed all f.0 f.1)))
    (λ id k f. subst (EntryIsListed (has_index f.0.path)) f.2 (listed all f.0 f.1))
    (λ id f. subst (EntryIsListed (has_index f.0.path)) f.2 (listed all f.0 f.1))
    rules h

-- the same of an answer
pub ids-ok : {E : Type 0} (r : Result Stored E) (modules : List NamedModule) → modules ≡ all_modules → All IsListed all_rows
    → IfOk r (λ rules. HaveRowIds modules (rules_of rules)) → IfOk r (λ rules. HaveIds (rules_of rules))
ids-ok (Ok rules) modules e all h = have_ids all (rules_of rules) (subst (λ (m : List NamedModule). HaveRowIds m (rules_of rules)) e h)
ids-ok (Err why) modules e all h = h
