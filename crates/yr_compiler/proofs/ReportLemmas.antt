-- The report of a built image on a file is that of the rules.
use Rattle.std.proofs.Common.{◌≡◌, ℕ, ◌+◌, ◌*◌, Bool, true, false, List, [], refl, ap, ap₂, ◌∙◌}
use Rattle.yr_base.specs.Bytes.{AreBytes}
use Rattle.yr_answer.specs.MatchList.{Match}
use Rattle.yr_answer.specs.Listing.{ListedRule}
use Rattle.yr_answer.specs.Report.{report_of}
use Rattle.yr_answer.specs.declared.options.ReportOptions.{ReportOptions}
use Rattle.yr_rules.specs.Rules.{PlainRules}
use Rattle.yr_rules.specs.Wellformed.{IsWellformed}
use Rattle.yr_meaning.specs.Conditions.{Environment}
use Rattle.yr_meaning.specs.Fitting.{FitsKinds}
use Rattle.yr_meaning.specs.Matches.{match_lists_of}
use Rattle.yr_meaning.specs.Truths.{truths_of}
use Rattle.yr_meaning.specs.Listing as plain
use Rattle.yr_meaning.specs.Scan as scan
use Rattle.yr_meaning.specs.Scan.{ModuleValues, scan_report}
use Rattle.yr_image.specs.Image.{Image}
use Rattle.yr_image.specs.ModuleTable.{field_row_of, call_row_of}
use Rattle.yr_machine.specs.Operations.{Context}
use Rattle.yr_machine.specs.Hits.{AreHits}
use Rattle.yr_machine.specs.ImageMatches.{AreImageMatches}
use Rattle.yr_machine.specs.ImageRun.{AreImageTruths, KnowsPrograms}
use Rattle.yr_machine.specs.Listing.{has_flag, listed_rules, image_report}
use Rattle.yr_emission.specs.Setting.{environment_of}
use Rattle.yr_splits.specs.SplitRows.{flag}
use Rattle.yr_splits.specs.Standing.{StandsFor}
use Rattle.yr_splits.proofs.WholeLemmas.{stands}
use Rattle.yr_splits.proofs.ListLemmas.{only_lists}
use Rattle.yr_compiler.specs.Rules.{SayNames}
use Rattle.yr_compiler.proofs.ListedLemmas.{rules_shown}
use Rattle.yr_compiler.specs.Built.{IsBuilt}
use Rattle.yr_preserves.specs.RuleIds.{HaveIds}
use Rattle.yr_compiler.proofs.TruthLemmas.{truths_are, same_truths}

first_flag : (a b : Bool) → has_flag 1 (flag a + 2 * flag b) ≡ a
first_flag true true = refl
first_flag true false = refl
first_flag false true = refl
first_flag false false = refl

pub names_said : (image : Image) (rules : PlainRules) → IsBuilt image rules → SayNames image rules.strings
names_said image rules built = record {
  count = built.strings.string_rows.count;
  each = λ k string row at row_at. let r = built.strings.string_rows.each k string row at row_at in
      (r.name, ap (λ f. has_flag 1 f) r.flags ∙ first_flag string.hidden string.greedy);
}

pub stands_for : (image : Image) (rules : PlainRules) (built : IsBuilt image rules) → StandsFor image built.placed rules.strings
stands_for image rules built = stands image built.placed rules.strings built.strings built.automaton

module _ (context : Context) (rules : PlainRules) (good : IsWellformed rules) (ids : HaveIds rules) (built : IsBuilt context.image rules)
    (knows : KnowsPrograms context) (kinds : (truths : List Bool) → FitsKinds rules.externals field_row_of call_row_of (environment_of context truths))
    (bytes : AreBytes context.file) (hits : List (List ℕ)) (are : AreHits context.image context.file hits) where
  pub same_lists : AreImageMatches context.image context.file hits context.lists → context.lists ≡ match_lists_of context.file rules.strings
  same_lists h = (only_lists context.image built.placed rules.strings (stands_for context.image rules built) context.file bytes hits are context.lists).0 h

  pub lists_found : context.lists ≡ match_lists_of context.file rules.strings → AreImageMatches context.image context.file hits context.lists
  lists_found e = (only_lists context.image built.placed rules.strings (stands_for context.image rules built) context.file bytes hits are context.lists).1 e

  -- the truths are those of the rules
  pub same_found : AreImageMatches context.image context.file hits context.lists → (truths : List Bool) → AreImageTruths context truths
      → (modules : ModuleValues) → context.fields ≡ modules.fields → context.calls ≡ modules.calls
      → truths ≡ truths_of (scan.environment_of modules rules context.externals context.file) rules.rules
  same_found matches truths found modules fields calls =
      let lists = same_lists matches in
      let first : Environment = environment_of context [] in
      let second : Environment = scan.environment_of modules rules context.externals context.file in
      let env : first ≡ second = λ i. record { file = context.file; lists = lists i; externals = context.externals; fields = fields i; calls = calls i; truths = [] } in
      let one : truths ≡ truths_of first rules.rules =
      same_truths context truths (truths_of first rules.rules) found (truths_are context rules good ids built knows kinds) in
      one ∙ ap (λ e. truths_of e rules.rules) env

  pub same_report : AreImageMatches context.image context.file hits context.lists → (truths : List Bool) → AreImageTruths context truths
      → (modules : ModuleValues) → context.fields ≡ modules.fields → context.calls ≡ modules.calls → (options : ReportOptions) (target : List ℕ)
      → image_report context.image truths context.lists options target ≡ scan_report modules rules context.externals context.file options target
  same_report matches truths found modules fields calls options target =
      let lists = same_lists matches in
      let all : truths ≡ truths_of (scan.environment_of modules rules context.externals context.file) rules.rules =
      same_found matches truths found modules fields calls in
      let listed : listed_rules context.image ≡ plain.listed_rules rules =
      rules_shown context.image built.version rules.strings (names_said context.image rules built) rules.rules built.codes built.listed in
      ap (λ (l : List ListedRule). report_of l truths context.lists options target) listed
      ∙ ap₂ (λ (t : List Bool) (l : List (List Match)). report_of (plain.listed_rules rules) t l options target) all lists
