-- The encoding of tables that are built of rules is an image to which the rules may be compiled.
use Rattle.std.proofs.Common.{◌≡◌, ℕ, zero, suc, ◌↔◌, ℤ, Bool, true, false, IsTrue, List, [], ◌∷◌, length, map, All, option_map, slice_get, get_or, refl, sym, ap, ap₂, ◌∙◌, subst, arith}
use Rattle.std.specs.Option.{option_map_or}
use Rattle.std.proofs.lemmas.Option.{slice_get-get_or}
use Rattle.yr_base.specs.Bytes.{AreBytes}
use Rattle.yr_values.specs.Values.{Value, kind_of}
use Rattle.yr_values.specs.Modules.{Suits}
use Rattle.yr_answer.specs.declared.options.ReportOptions.{ReportOptions}
use Rattle.yr_rules.specs.Rules.{PlainRules}
use Rattle.yr_rules.specs.Wellformed.{IsWellformed}
use Rattle.yr_meaning.specs.Fitting.{FitsKinds}
use Rattle.yr_meaning.specs.Matches.{match_lists_of}
use Rattle.yr_meaning.specs.Truths.{truths_of}
use Rattle.yr_meaning.specs.Scan.{ModuleValues, scan_report}
use Rattle.yr_meaning.specs.Scan as plain
use Rattle.yr_image.specs.declared.fault.ImageFault.TheVariants as fault
use Rattle.yr_image.specs.declared.rows.SplitRow.{SplitRow}
use Rattle.yr_image.specs.declared.tables.Tables.{Tables}
use Rattle.yr_image.specs.Image.{Image, shown}
use Rattle.yr_image.specs.Encoding.{encoded, encoded_length}
use Rattle.yr_image.specs.Fits.{Fits}
use Rattle.yr_image.specs.Reading.{image_in, zeros_in}
use Rattle.yr_image.specs.Sections.{HasSections}
use Rattle.yr_image.specs.ModuleTable.{field_row_of, call_row_of}
use Rattle.yr_image.proofs.ComeBack.{image_back, zeros_back, length_back, sections_back}
use Rattle.yr_machine.specs.Wellformed as machine
use Rattle.yr_machine.specs.Wellformed.{CodePasses}
use Rattle.yr_machine.specs.Rows.{index_passes}
use Rattle.yr_machine.specs.Names.{NamePasses}
use Rattle.yr_machine.specs.Automaton.{ProgramPasses, NodePasses}
use Rattle.yr_machine.specs.Operations.{Context}
use Rattle.yr_machine.specs.Hits.{hit_count}
use Rattle.yr_machine.specs.ImageRun.{IsImageRun, KnowsPrograms, FitModules, Occurs}
use Rattle.yr_machine.specs.Listing.{image_report}
use Rattle.yr_emission.specs.Setting.{environment_of}
use Rattle.yr_splits.proofs.HitLemmas.{some_hits}
use Rattle.yr_splits.proofs.LengthLemmas.{row_atom_long}
use Rattle.yr_compiler.proofs.ListedLemmas.{externals_shown}
use Rattle.yr_preserves.specs.ImageReport.{ImageScan, IsImageReport, KeepsKinds}
use Rattle.yr_preserves.specs.Preserves.{IsTarget, HaveKindsOf, external_in, externals_in}
use Rattle.yr_preserves.specs.AtomLengths.{HasLongAtom, KeepsAtomLengths}
use Rattle.yr_preserves.specs.Shape.{IsTrie, IsCompiled}
use Rattle.yr_compiler.specs.Built.{IsBuilt}
use Rattle.yr_preserves.specs.RuleIds.{HaveIds}
use Rattle.yr_compiler.specs.Finds.{FindsSame}
use Rattle.yr_compiler.proofs.CheckLemmas.{rows_pass, names_pass, no_fault, programs_pass, nodes_pass}
use Rattle.yr_compiler.proofs.TruthLemmas.{truths_are}
use Rattle.yr_compiler.proofs.ReportLemmas.{same_report, same_found, same_lists, lists_found}

all_zero : {X : Type 0} (xs : List X) (k : ℕ) → option_map_or (λ (sum : ℕ). sum) (slice_get (map (λ (x : X). 0) xs) k) 0 ≡ 0
all_zero [] k = refl
all_zero (x ∷ xs) zero = refl
all_zero (x ∷ xs) (suc k) = all_zero xs k

-- for each image there is a function that knows which programs accept anything in which text
abbrev pub Known : Type 0
Known = (image : Image) → (occurs : ℕ → List ℕ → Bool) × ((k : ℕ) (text : List ℕ) → IsTrue (occurs k text) ↔ Occurs image k text)

module _ (known : Known) (tables : Tables) (rules : PlainRules) (good : IsWellformed rules) (ids : HaveIds rules) (built : IsBuilt (shown tables) rules) (fits : Fits (shown tables)) where
  abbrev image : Image
  image = shown tables

  abbrev bytes : List ℕ
  bytes = encoded (shown tables)

  read_back : image_in bytes ≡ image
  read_back = image_back (shown tables) fits

  no_sums : (k : ℕ) → option_map_or (λ sum. sum) (slice_get (zeros_in bytes) k) 0 ≡ 0
  no_sums k = ap (λ (l : List ℕ). option_map_or (λ sum. sum) (slice_get l k) 0) (zeros_back (shown tables) fits) ∙ all_zero image.splits k

  long : length bytes ≡ encoded_length image
  long = length_back (shown tables) fits

  sections : HasSections bytes
  sections =
      let rules_count = built.listed.count in
      let strings_count = built.strings.string_rows.count in
      let few_rules = good.few_rules in
      let few_strings = good.few_strings in
      let short = built.short in
      let light = good.light in
      sections_back (shown tables) fits (omega (arith, rules_count, few_rules)) (omega (arith, strings_count, few_strings)) built.automaton.some (omega (arith, short, light))

  -- ---- its checks

  in_bytes : (P : Image → Type 0) → P image → P (image_in bytes)
  in_bytes P h = subst P (sym read_back) h

  wellformed : machine.IsWellformed bytes
  wellformed fault.TooShort = sections.long_enough
  wellformed fault.Magic = sections.magic_bytes
  wellformed fault.Version = sections.version
  wellformed fault.Length = sections.whole
  wellformed (fault.Section k) = sections.sections k
  wellformed (fault.Index section k) =
      in_bytes (λ i. index_passes i (zeros_in bytes) section k ≡ true) (rows_pass image rules good ids built (zeros_in bytes) no_sums section k)
  wellformed (fault.Name section k) = in_bytes (λ i. NamePasses i section k) (names_pass image rules good ids built section k)
  wellformed (fault.Code rule place) = in_bytes (λ i. CodePasses i rule place) (no_fault image rules good ids built rule place)
  wellformed (fault.ProgramBad k) = in_bytes (λ i. ProgramPasses i k) (programs_pass image rules good ids built k)
  wellformed (fault.Node n) = in_bytes (λ i. NodePasses i n) (nodes_pass image rules good ids built n)

  -- ---- its atoms and its automaton

  externals_same : externals_in bytes ≡ rules.externals
  externals_same = in_bytes (λ i. map (external_in i) i.externals ≡ rules.externals) (externals_shown image rules.externals image.externals built.externals)

  atoms_long : KeepsAtomLengths bytes rules
  atoms_long = in_bytes (λ i. All (HasLongAtom rules.strings) i.splits) each
    where
      each : All (HasLongAtom rules.strings) image.splits
      each k d b =
          let row : SplitRow = get_or image.splits k d in
          let r = row_atom_long image built.placed rules.strings built.strings.rows built.strings.splits built.strings.long k row (slice_get-get_or image.splits k d b) in
          record { string = r.0; there = r.1; variant = r.2; own = r.3; long = r.4 }

  trie : IsTrie (image_in bytes)
  trie = in_bytes IsTrie (record { parents = built.automaton.parents; links = built.automaton.links; outputs = built.automaton.one_output })

  -- ---- its reports

  module _ (modules : ModuleValues) (file : List ℕ) (target_fits : IsTarget file) (values : List Value) (kinds : HaveKindsOf rules.externals values)
      (modules_fit : FitModules file modules.fields modules.calls) (options : ReportOptions) (target text : List ℕ) where
    fits_kinds : (context : Context) → context.externals ≡ values → context.fields ≡ modules.fields → context.calls ≡ modules.calls
        → (truths : List Bool) → FitsKinds rules.externals field_row_of call_row_of (environment_of context truths)
    fits_kinds context e f c truths = record {
      externals_fit = ap (map kind_of) e ∙ kinds.kinds;
      fields_fit = λ id index. subst (λ (g : ℕ → ℤ → Value). Suits (option_map (λ row. row.1) (field_row_of id)) (g id index)) (sym f) (modules_fit.fields id index);
      calls_fit = λ id from size. subst (λ (g : ℕ → ℤ → ℤ → Value). Suits (call_row_of id) (g id from size)) (sym c) (modules_fit.calls id from size);
    }

    found_same : (s : ImageScan modules bytes file values)
        → (s.context.lists ≡ match_lists_of file rules.strings) × (s.truths ≡ truths_of (plain.environment_of modules rules values file) rules.rules)
    found_same s =
        let context = s.context in
        let run = s.run in
        let built_here : IsBuilt context.image rules = subst (λ (i : Image). IsBuilt i rules) (sym (s.image ∙ read_back)) built in
        let file_bytes : AreBytes context.file = subst AreBytes (sym s.file_is) target_fits.0 in
        let fit = fits_kinds context s.externals s.fields s.calls in (
          same_lists context rules good ids built_here run.programs fit file_bytes s.hits run.hits_are run.lists_are ∙ ap (λ (f : List ℕ). match_lists_of f rules.strings) s.file_is,
          same_found context rules good ids built_here run.programs fit file_bytes s.hits run.hits_are run.lists_are s.truths run.truths_are modules s.fields s.calls
              ∙ ap₂ (λ (v : List Value) (f : List ℕ). truths_of (plain.environment_of modules rules v f) rules.rules) s.externals s.file_is,
        )

    report_read : (count : ℕ) → IsImageReport modules bytes file values options target text count → text ≡ scan_report modules rules values file options target
    report_read count r =
        let s = r.scan in
        let context = s.context in
        let run = s.run in
        let built_here : IsBuilt context.image rules = subst (λ (i : Image). IsBuilt i rules) (sym (s.image ∙ read_back)) built in
        let file_bytes : AreBytes context.file = subst AreBytes (sym s.file_is) target_fits.0 in
        r.report
        ∙ ap (λ (i : Image). image_report i s.truths context.lists options target) (sym s.image)
        ∙ same_report context rules good ids built_here run.programs (fits_kinds context s.externals s.fields s.calls) file_bytes s.hits run.hits_are run.lists_are s.truths run.truths_are
        modules s.fields s.calls options target
        ∙ ap₂ (λ (v : List Value) (f : List ℕ). scan_report modules rules v f options target) s.externals s.file_is

    report_made : text ≡ scan_report modules rules values file options target → (count : ℕ) × IsImageReport modules bytes file values options target text count
    report_made e =
        let context : Context = record {
          image = image_in bytes;
          file = file;
          lists = match_lists_of file rules.strings;
          externals = values;
          fields = modules.fields;
          calls = modules.calls;
          occurs = (known (image_in bytes)).0;
        } in
        let built_here : IsBuilt (image_in bytes) rules = in_bytes (λ i. IsBuilt i rules) built in
        let h = some_hits (image_in bytes) built_here.automaton.some built_here.automaton.wellformed file in
        let knows : KnowsPrograms context = (known (image_in bytes)).1 in
        let fit = fits_kinds context refl refl refl in
        let lists = lists_found context rules good ids built_here knows fit target_fits.0 h.0 h.1 refl in
        let truths = truths_of (environment_of context []) rules.rules in
        let are = truths_are context rules good ids built_here knows fit in
        let run : IsImageRun context h.0 truths = record { programs = knows; hits_are = h.1; lists_are = lists; truths_are = are } in
        let scanned : ImageScan modules bytes file values = record {
          context = context;
          hits = h.0;
          truths = truths;
          image = refl;
          file_is = refl;
          externals = refl;
          fields = refl;
          calls = refl;
          run = run;
        } in
        let same = same_report context rules good ids built_here knows fit target_fits.0 h.0 h.1 lists truths are modules refl refl options target in
        (hit_count h.0, record { scan = scanned; report = e ∙ sym same; hits = refl })

  pub compiled : (modules : List ℕ → ModuleValues) → KeepsKinds modules → IsCompiled modules bytes rules
  compiled modules keeps = record {
    preserves = record {
      wellformed = wellformed;
      short = let s = built.short in let l = long in omega (arith, s, l);
      externals = externals_same;
      reports = λ file fit values kinds options target text.
          (λ r. report_read (modules file) file fit values kinds (keeps file) options target text r.0 r.1, report_made (modules file) file fit values kinds (keeps file) options target text);
    };
    atoms = atoms_long;
    automaton = trie;
  }

  -- it finds what the rules say
  pub finds : (modules : List ℕ → ModuleValues) → KeepsKinds modules → FindsSame modules bytes rules
  finds modules keeps file fit values kinds scan = found_same (modules file) file fit values kinds (keeps file) none [] [] scan
    where
      none : ReportOptions
      none = record { strings = false; tags = false; meta = false; negate = false; count = false; spaces = false }
