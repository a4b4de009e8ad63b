use Rattle.std.proofs.Common.{◌≡◌, List, Some, true, false, length, map, refl, sym, ap, ◌∙◌}
use Rattle.std.specs.Prelude.{is_none}
use Rattle.std.specs.List.{slice_index_or}
use Rattle.std.proofs.lemmas.Option.{slice_get_read}
use Rattle.yr_syntax.specs.Declaration as declaration
use Rattle.yr_conditions.specs.Meanings.{module_named}
use Rattle.yr_values.specs.declared.names.Module.{Module}
use Rattle.yr_values.specs.Names.{module_shown}
use Rattle.yr_checks.specs.Sources.{PlacedImport}
use Rattle.yr_checking.specs.Placed.{item_at}
use Rattle.yr_checking.specs.Walked.{given_in}
use Rattle.yr_checking.proofs.WalkedLemmas.{import-kept, item-there, none-shown, none-test, refuse-import}
use Rattle.yr_checking.proofs.walking.walk_import.Goals as goal

pub returns-then-is_none-clause-refused : goal.returns-then-is_none-clause-refused
returns-then-is_none-clause-refused c =
    let s = c.args.setting.now in
    let given = given_in s in
    let x = slice_index_or s.items.now c.args.place c.index-setting-place.result in
    let is : x ≡ slice_index_or s.items.now c.args.place x = ap (slice_index_or s.items.now c.args.place) c.index-setting-place.is in
    let modules : module_named (map module_shown c.deref.result.now) c.args.name.now ≡ module_named given.modules c.args.name.now =
    ap (λ (ms : List Module). module_named (map module_shown ms) c.args.name.now) c.deref.ensures.value in
    let i : PlacedImport = record { unit = x.unit; space = x.namespace.now; name = c.args.name.now; file = c.args.file; line = c.args.line } in
    let there = item-there s.items.now c.args.place x (declaration.Import c.args.name.now c.args.file c.args.line) c.requires.place is c.requires.here in
    let gone : is_none (module_named given.modules c.args.name.now) ≡ true = none-shown (λ m. module_shown m.now) c.find_module.result (module_named given.modules c.args.name.now) true (c.find_module.ensures ∙ modules) (none-test c.find_module.result c.is_none.result c.is_none.ensures ∙ c.if-is_none.true) in
    refuse-import given (map item_at s.items.now) c.args.place i c.args.walk.now there c.requires.walked gone ∙ ap Some (sym (c.in_ok-refusal.ensures x.namespace.now))

pub returns-clause-walked : goal.returns-clause-walked
returns-clause-walked c =
    let s = c.args.setting.now in
    let given = given_in s in
    let x = slice_index_or s.items.now c.args.place c.index-setting-place.result in
    let is : x ≡ slice_index_or s.items.now c.args.place x = ap (slice_index_or s.items.now c.args.place) c.index-setting-place.is in
    let modules : module_named (map module_shown c.deref.result.now) c.args.name.now ≡ module_named given.modules c.args.name.now =
    ap (λ (ms : List Module). module_named (map module_shown ms) c.args.name.now) c.deref.ensures.value in
    let i : PlacedImport = record { unit = x.unit; space = x.namespace.now; name = c.args.name.now; file = c.args.file; line = c.args.line } in
    let there = item-there s.items.now c.args.place x (declaration.Import c.args.name.now c.args.file c.args.line) c.requires.place is c.requires.here in
    let known : is_none (module_named given.modules c.args.name.now) ≡ false = none-shown (λ m. module_shown m.now) c.find_module.result (module_named given.modules c.args.name.now) false (c.find_module.ensures ∙ modules) (none-test c.find_module.result c.is_none.result c.is_none.ensures ∙ c.if-is_none.false) in
    let mid = c.open_space.new.spaces.items in
    let k = c.in_ok-number.number in
    let own = c.index_mut.result.now in
    let read = slice_get_read mid (length mid) k own refl c.in_ok-number.ensures.within c.index_mut.ensures.value in
    import-kept given (map item_at s.items.now) c.args.place i c.args.walk.now _ mid k own c.add_import.new.space there c.requires.walked known c.in_ok-number.ensures.same c.in_ok-number.ensures.first
    read c.in_ok-add_import.ensures.name c.in_ok-add_import.ensures.shown refl refl refl refl
