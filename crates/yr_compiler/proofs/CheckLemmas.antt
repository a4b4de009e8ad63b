-- A built image passes each check.
use Rattle.std.proofs.Common.{◌≡◌, ◌≢◌, ℕ, zero, suc, ◌==◌, nat_lt, Bool, true, false, if◌then◌else◌, is_some, List, [], ◌∷◌, length, map, take, drop, All, Option, Some, None, slice_get, refl, sym, ap, ap₂, ◌∙◌, subst, true≢false, arith}
use Rattle.std.specs.Option.{option_map_or}
use Rattle.std.proofs.lemmas.List.{length-map}
use Rattle.std.proofs.lemmas.List.Elements.{All-head, All-tail}
use Rattle.std.proofs.lemmas.Option.{none-some, same_Some, slice_get_within, option_and_then_some}
use Rattle.yr_base.specs.declared.value.Kind.{Kind}
use Rattle.yr_base.specs.declared.value.Kind.TheVariants as kind
use Rattle.yr_values.specs.Values as value
use Rattle.yr_rules.specs.Rules.{PlainExternal, PlainRule, PlainRules}
use Rattle.yr_rules.specs.Kinds.{kind_of}
use Rattle.yr_rules.specs.Fits.{Rows, Fits}
use Rattle.yr_rules.specs.Ids.{HasIds}
use Rattle.yr_rules.specs.Wellformed.{IsWellformed, IsGoodRule}
use Rattle.yr_meaning.specs.Fitting.{ids_of}
use Rattle.yr_image.specs.declared.rows.NoteRow.{NoteRow}
use Rattle.yr_image.specs.declared.rows.RuleRow.{RuleRow}
use Rattle.yr_image.specs.declared.rows.CodeRow.{CodeRow}
use Rattle.yr_image.specs.Image.{Image, code_of}
use Rattle.yr_image.specs.ModuleTable.{field_row_of, call_row_of}
use Rattle.yr_machine.specs.Roles.{kind_of_note}
use Rattle.yr_machine.specs.Roles as role
use Rattle.yr_machine.specs.Rows.{index_passes, row_passes, is_good_rule, is_good_without_rules, is_good_split}
use Rattle.yr_machine.specs.Names.{At, NamePasses}
use Rattle.yr_machine.specs.CodeWalk.{code_fault, IsWellformedCode}
use Rattle.yr_machine.specs.Automaton.{ProgramPasses, NodePasses}
use Rattle.yr_emission.specs.Parts.{rule_part}
use Rattle.yr_emission.specs.Setting.{bounds_of}
use Rattle.yr_emission.specs.Standing.{Stands, ExternalsShow}
use Rattle.yr_emission.proofs.Runs.{kinded}
use Rattle.yr_emission.proofs.ValueRoom.{placed as has_room}
use Rattle.yr_emission.proofs.BlockRoom.{blocked}
use Rattle.yr_emission.proofs.LoopEnds.{loop_ends_show}
use Rattle.yr_emission.proofs.Passes as emission
use Rattle.yr_splits.specs.Filling.{SayRanges}
use Rattle.yr_splits.proofs.WholeLemmas as split
use Rattle.yr_splits.proofs.RangeLemmas as range
use Rattle.yr_splits.proofs.NodeLemmas as node
use Rattle.yr_splits.proofs.ProgramLemmas as program
use Rattle.yr_compiler.specs.Notes.{Note, SaysValue, SaysNote, SayNotes, external_note}
use Rattle.yr_compiler.proofs.NoteLemmas.{say_count}
use Rattle.yr_compiler.proofs.PassLemmas as listing
use Rattle.yr_compiler.proofs.NameLemmas.{rule_names, note_names, external_names, mapped}
use Rattle.yr_compiler.specs.Built.{IsBuilt}
use Rattle.yr_preserves.specs.RuleIds.{HaveIds}

pick : (b x y : Bool) → x ≡ true → y ≡ true → (if b then x else y) ≡ true
pick true x y e f = e
pick false x y e f = f

pub all_at : {X : Type 0} (P : X → Type 0) (xs : List X) (k : ℕ) (x : X) → All P xs → slice_get xs k ≡ Some x → P x
all_at P [] k x a h = absurd (none-some x h)
all_at P (y ∷ xs) zero x a h = subst P (same_Some y x h) (All-head P y xs a)
all_at P (y ∷ xs) (suc k) x a h = all_at P xs k x (All-tail P y xs a) h

pub some_of : {X : Type 0} (o : Option X) → is_some o ≡ true → (x : X) × (o ≡ Some x)
some_of (Some x) h = (x, refl)
some_of None h = absurd (true≢false (sym h))

-- ---- externals have the kinds of their values

value_kind : (image : Image) (v : value.Value) (row : NoteRow) (k : Kind) → SaysValue image v row → value.kind_of v ≡ Some k → kind_of_note row.kind ≡ k
value_kind image (value.Text t) row k h e = ap kind_of_note h.0 ∙ same_Some _ k e
value_kind image (value.Number n) row k h e = ap kind_of_note h.0 ∙ same_Some _ k e
value_kind image (value.Flag b) row k h e = ap kind_of_note h.0 ∙ same_Some _ k e
value_kind image value.Undefined row k h e = absurd h

pub externals_show : (image : Image) (externals : List PlainExternal) → SayNotes image (map external_note externals) image.externals → ExternalsShow image externals
externals_show image externals say n k h =
    option_and_then_some (λ (e : PlainExternal). value.kind_of e.value) (slice_get externals n) k h found
  where
    count : length image.externals ≡ length externals
    count = say_count image (map external_note externals) image.externals say ∙ length-map externals external_note

    found : (e : PlainExternal) → slice_get externals n ≡ Some e → value.kind_of e.value ≡ Some k → role.external_kind image n ≡ k
    found e at kind_is =
        let row = listing.there_too externals image.externals n e (omega (arith, count)) at in
        let note = listing.note_at image (map external_note externals) image.externals n row.0 say row.1 in
        let same : note.0 ≡ external_note e = same_Some note.0 (external_note e) (sym note.1 ∙ mapped external_note externals n e at) in
        let says : SaysNote image (external_note e) row.0 = subst (λ (x : Note). SaysNote image x row.0) same note.2 in
        ap (λ (o : Option NoteRow). option_map_or (λ (r : NoteRow). kind_of_note r.kind) o kind.Number) row.1 ∙ value_kind image e.value row.0 k says.1 kind_is

module _ (image : Image) (rules : PlainRules) (good : IsWellformed rules) (ids : HaveIds rules) (built : IsBuilt image rules) where
  pub count_externals : length image.externals ≡ length rules.externals
  count_externals = say_count image (map external_note rules.externals) image.externals built.externals ∙ length-map rules.externals external_note

  count_strings : length image.strings ≡ length rules.strings
  count_strings = built.strings.string_rows.count

  ranges : SayRanges image rules
  ranges = record {
    count = built.listed.count;
    each = λ i rule row h g. let b = slice_get_within rules.rules i rule h in
        let e = built.enough in
        let code = listing.there_too rules.rules built.codes i rule (omega (arith, e)) h in
        let says = built.listed.each i rule code.0 row h code.1 g in (says.first_string, says.strings);
  }

  -- ---- rows

  pub rows_pass : (unused : List ℕ) → ((k : ℕ) → option_map_or (λ sum. sum) (slice_get unused k) 0 ≡ 0) → (section k : ℕ) → index_passes image unused section k ≡ true
  rows_pass unused none section k =
      pick (section == 0) _ _
      (listing.both (row_passes image (is_good_rule image k) image.rules k) _
      (listing.rules_pass image rules good built.codes built.listed built.follow built.enough count_strings k)
      (listing.either_right (nat_lt 0 k) (is_good_without_rules image) (listing.nothing_without_rules image rules good built.codes built.listed built.follow built.enough count_strings)))
      (pick (section == 1) _ _ (listing.notes_pass image built.codes rules.rules built.listed k)
      (pick (section == 2) _ _ (listing.externals_pass image rules.externals built.externals k)
      (pick (section == 3) _ _ (range.strings_pass image built.placed rules good built.strings ranges k)
      (pick (section == 4) _ _
      (ap (λ n. row_passes image (is_good_split image n) image.splits k) (none k) ∙ split.splits_pass image built.placed rules.strings built.strings k)
      (pick (section == 9) _ _
      (node.edges_pass image built.placed built.strings.rows built.automaton.some built.automaton.wellformed k)
      (pick (section == 10) _ _
      (node.outputs_pass image built.placed built.strings.rows built.automaton.some built.automaton.wellformed built.automaton.no_output k) refl))))))

  pub names_pass : (section k : ℕ) → NamePasses image section k
  names_pass section k = record {
    rules = λ e. rule_names image built.version rules good built.codes built.listed k;
    notes = λ e. note_names image built.version rules good built.codes built.listed k;
    externals = λ e. external_names image built.version rules good built.externals k;
    strings = λ e row h. split.string_name_passes image built.placed rules.strings built.strings good.good_strings k row h;
  }

  -- ---- code

  pub rule_code : (k : ℕ) (row : RuleRow) → slice_get image.rules k ≡ Some row
      → (rule : PlainRule) × (slice_get rules.rules k ≡ Some rule) × (a : ℕ)
      × (length (code_of image row) ≡ (rule_part rules.externals rule.condition).size) × Stands image (code_of image row) (rule_part rules.externals rule.condition) 0 a
  rule_code k row h =
      let count = built.listed.count in
      let rule = listing.there_too image.rules rules.rules k row (omega (arith, count)) h in
      let enough = built.enough in
      let code = listing.there_too rules.rules built.codes k rule.0 (omega (arith, enough)) rule.1 in
      let says = built.listed.each k rule.0 code.0 row rule.1 code.1 h in
      let has = built.code k rule.0 code.0 rule.1 code.1 in
      let same : take code.0.rows (drop code.0.first image.code) ≡ code_of image row =
      ap₂ (λ (c f : ℕ). take c (drop f image.code)) (sym says.code_rows) (sym says.first_code) in
      let P : List CodeRow → Type 0 = λ rows. length rows ≡ (rule_part rules.externals rule.0.condition).size in
      let Q : List CodeRow → Type 0 = λ rows. Stands image rows (rule_part rules.externals rule.0.condition) 0 has.first_list in
      (rule.0, rule.1, has.first_list, subst P same has.size, subst Q same has.stands)

  pub fits_there : (k : ℕ) (rule : PlainRule) → slice_get rules.rules k ≡ Some rule → Fits (bounds_of image k) rule.condition []
  fits_there k rule h =
      let e = sym count_externals in
      let s = sym count_strings in
      let first : Rows = record { externals = length rules.externals; rules = k; strings = length rules.strings } in
      let same : first ≡ bounds_of image k = λ i. record { externals = e i; rules = k; strings = s i } in
      subst (λ (b : Rows). Fits b rule.condition []) same (good.good_rules k rule h).fits

  codes_pass : (k : ℕ) (row : RuleRow) → slice_get image.rules k ≡ Some row → IsWellformedCode image k (code_of image row)
  codes_pass k row h =
      let c = rule_code k row h in
      let g : IsGoodRule rules k c.0 = good.good_rules k c.0 c.1 in
      let kind = some_of (kind_of rules.externals c.0.condition []) g.kinds in
      let fit = fits_there k c.0 c.1 in
      let low = g.low in
      let id : HasIds (ids_of field_row_of call_row_of) c.0.condition = all_at (λ (rule : PlainRule). HasIds (ids_of field_row_of call_row_of) rule.condition) rules.rules k c.0 ids c.1 in
      emission.rule_passes image k (code_of image row) rules.externals c.0.condition kind.0 c.2 (loop_ends_show (code_of image row))
      (externals_show image rules.externals built.externals) kind.1 fit id
      (has_room (bounds_of image k) rules.externals c.0.condition [] kind.0 0 (kinded rules.externals c.0.condition [] kind.0 kind.1) fit (omega (arith, low)))
      (blocked c.0.condition 0 (omega (arith, low))) c.4 c.3

  pub no_fault : (k place : ℕ) → At (λ row. code_fault image k (code_of image row) ≢ Some place) image.rules k
  no_fault k place row h e = none-some place (sym (codes_pass k row h) ∙ e)

  pub programs_pass : (k : ℕ) → ProgramPasses image k
  programs_pass = program.programs_pass image built.programs

  pub nodes_pass : (n : ℕ) → NodePasses image n
  nodes_pass =
      node.nodes_pass image built.placed built.strings.rows built.automaton.some built.automaton.wellformed built.automaton.named built.automaton.places
