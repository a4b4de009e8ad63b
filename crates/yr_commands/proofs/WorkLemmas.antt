-- The numbers of `work`.
use Rattle.std.proofs.Common.{◌≡◌, ℕ, ◌+◌, ◌<◌, List, [], ◌∷◌, ◌++◌, length, take, get_or, map, Option, None, Some, Result, Ok, Err, refl, sym, ap, subst, ◌∙◌, arith, codes, Bool}
use Rattle.std.specs.List.{count_by, sum_by}
use Rattle.std.proofs.lemmas.List.{take_more, length-map}
use Rattle.std.proofs.lemmas.List.Sums.{sum_by-append}
use Rattle.std.proofs.lemmas.Option.{unwrap_or-slice_get}
use Rattle.yr_base.specs.Memory.{MemoryView, file_in}
use Rattle.yr_base.specs.Store.{Files}
use Rattle.yr_base.specs.Told.{told_more-nil}
use Rattle.yr_answer.specs.MatchList.{Match}
use Rattle.yr_answer.specs.Lookups.{list_at}
use Rattle.yr_rules.specs.Rules.{PlainRules}
use Rattle.yr_meaning.specs.Matches.{match_lists_of}
use Rattle.yr_meaning.specs.Truths.{truths_of}
use Rattle.yr_meaning.specs.Scan.{environment_of}
use Rattle.yr_preserves.specs.Preserves.{IsTarget, HaveKindsOf, externals_in}
use Rattle.yr_preserves.specs.Shape.{IsCompiled}
use Rattle.yr_compiler.specs.Finds.{FindsSame}
use Rattle.yr_modules.specs.Joined.{all_modules}
use Rattle.yr_scan.specs.Scanned.{module_values, IsScan}
use Rattle.yr_words.specs.Commands.{Work}
use Rattle.yr_workload.specs.Workload.{Workload, workload_of}
use Rattle.yr_outcome.specs.declared.answer.Answer.{Answer}
use Rattle.yr_outcome.specs.declared.answer.Answer.TheVariants as answer
use Rattle.yr_outcome.specs.declared.status.Status.{Status}
use Rattle.yr_outcome.specs.declared.status.Status.TheVariants as status
use Rattle.yr_outcome.specs.Answers.{own_values, counted, work_text}
use Rattle.yr_outcome.specs.Front.{Refusal, refusal, Reading, rules_of}
use Rattle.yr_outcome.specs.Outcome.{Free, shown, worked, run, work_files, work_source}
use Rattle.yr_outcome.specs.Fits.{Seen, IsSettled}
use Rattle.yr_outcome.specs.Steps.{FitsAnswer, HasCause, HasRead, IsOfRun}
use Rattle.yr_outcome.proofs.CallerLemmas.{refuses}
use Rattle.yr_front.specs.Units.{RefusedBy}
use Rattle.yr_commands.specs.Program.{all_setting, refusal_or_none}
use Rattle.yr_commands.proofs.StepLemmas.{stops}

-- one more list
pub sum-next : (lists : List (List Match)) (k : ℕ) → k < length lists → sum_by length (take (k + 1) lists) ≡ sum_by length (take k lists) + length (list_at lists k)
sum-next lists k h =
    let one : sum_by length (get_or lists k [] ∷ []) ≡ length (get_or lists k []) = omega arith in
    ap (sum_by length) (take_more lists k [] h) ∙ sum_by-append length (take k lists) (get_or lists k [] ∷ [])
    ∙ ap (λ n. sum_by length (take k lists) + n) (one ∙ ap length (sym (unwrap_or-slice_get lists k [])))

module _ (bytes file : List ℕ) (rules : PlainRules) (compiled : IsCompiled module_values bytes rules) (finds : FindsSame module_values bytes rules) (target : IsTarget file)
    (kinds : HaveKindsOf (externals_in bytes) (own_values (externals_in bytes))) (lists : List (List Match)) (hits : ℕ) (truths : List Bool)
    (scan : IsScan bytes file (own_values (externals_in bytes)) lists hits truths) where
  same : (scan.scan.context.lists ≡ match_lists_of file rules.strings)
      × (scan.scan.truths ≡ truths_of (environment_of (module_values file) rules (own_values (externals_in bytes)) file) rules.rules)
  same = finds file target (own_values (externals_in bytes)) (subst (λ es. HaveKindsOf es (own_values (externals_in bytes))) compiled.preserves.externals kinds) scan.scan

  lists-same : lists ≡ match_lists_of file rules.strings
  lists-same = scan.lists_are ∙ same.0

  truths-same : truths ≡ truths_of (environment_of (module_values file) rules (own_values rules.externals) file) rules.rules
  truths-same =
      scan.truths_are ∙ same.1
      ∙ ap (λ es. truths_of (environment_of (module_values file) rules (own_values es) file) rules.rules) compiled.preserves.externals

  -- there is a list for each string
  pub lists-count : length lists ≡ length rules.strings
  lists-count = ap length lists-same ∙ length-map rules.strings _

  -- the numbers are those of the rules
  pub numbers-same : (n m s t : ℕ) → n ≡ length rules.rules → m ≡ length file → s ≡ count_by (λ truth. truth) truths → t ≡ sum_by length lists
      → counted (codes "rules") n ++ (counted (codes "bytes") m ++ (counted (codes "satisfied") s ++ counted (codes "matches") t)) ≡ work_text module_values rules file
  numbers-same n m s t a b c d =
      let c' = c ∙ ap (count_by (λ truth. truth)) truths-same in
      let d' = d ∙ ap (sum_by length) lists-same in
      λ i. counted (codes "rules") (a i) ++ (counted (codes "bytes") (b i) ++ (counted (codes "satisfied") (c' i) ++ counted (codes "matches") (d' i)))

-- the store of a workload has its rules as the one file `work`
pub store-files : (store : MemoryView) (text : List ℕ) (made : Workload) → store ≡ record { files = (codes "work", text) ∷ []; trace = []; failing = []; faults = 0 }
    → text ≡ made.rules → file_in store.files ≡ work_files made
store-files store text made e f =
    ap (λ (s : MemoryView). file_in s.files) e ∙ (λ i. file_in ((codes "work", f i) ∷ []))

module _ (reading : Reading) (files : Files) (number size : ℕ) where
  abbrev made : Workload
  made = workload_of number size

  abbrev checked : Result PlainRules Refusal
  checked = rules_of reading all_modules (work_files made) (work_source ∷ []) []

  -- its rules are scanned
  pub work-fits : (rules : PlainRules) (file : List ℕ) (a : Answer) (old new : Seen) → checked ≡ Ok rules → file ≡ made.file
      → FitsAnswer all_setting (λ found. shown files (work_text module_values rules file) Free) a old new
      → FitsAnswer all_setting (λ found. run all_setting reading found files (Work number size)) a old new
  work-fits rules file a old new e f h =
      subst (λ (r : Result PlainRules Refusal). FitsAnswer all_setting (λ found. worked all_setting reading found files made r) a old new) (sym e)
      (subst (λ (l : List ℕ). FitsAnswer all_setting (λ found. shown files (work_text module_values rules l) Free) a old new) f h)

  settled : (s : Status) → IsOfRun s → IsSettled s
  settled status.Rules h = tt
  settled status.Image h = tt
  settled status.LongTarget h = tt
  settled status.External h = tt
  settled status.Done h = absurd h
  settled status.Usage h = absurd h
  settled status.ReadFault h = absurd h
  settled status.WriteFault h = absurd h
  settled status.NoMemory h = absurd h

  -- or refused
  pub work-refused : (a : Answer) (s : Seen) → s.files ≡ Some files → RefusedBy checked a → (n m o p : ℕ) → HasCause None a n m o p
      → FitsAnswer all_setting (λ found. run all_setting reading found files (Work number size)) (refusal_or_none a) s s
  work-refused (answer.Refused t text) s told e n m o p cause =
      refuses all_setting files [] (λ found. run all_setting reading found files (Work number size)) t text.items (answer.Refused t text) s s (settled t cause) (refl, refl) told
      (record { files = refl; out = refl; noted = sym (told_more-nil s.trace) })
      (λ found. ap (λ (r : Result PlainRules Refusal). worked all_setting reading found files made r) e)
  work-refused answer.NoMemory s told e n m o p cause = stops all_setting (λ found. run all_setting reading found files (Work number size)) s
  work-refused answer.Done s told e n m o p cause = stops all_setting (λ found. run all_setting reading found files (Work number size)) s
  work-refused (answer.Unread name) s told e n m o p cause = stops all_setting (λ found. run all_setting reading found files (Work number size)) s
  work-refused (answer.UnreadFile name) s told e n m o p cause = stops all_setting (λ found. run all_setting reading found files (Work number size)) s
  work-refused (answer.Unwritten to) s told e n m o p cause = stops all_setting (λ found. run all_setting reading found files (Work number size)) s

pub refusal-cause : (a : Answer) (n m o p u v w x : ℕ) → HasCause None a n m o p → HasCause None (refusal_or_none a) u v w x
refusal-cause (answer.Refused t text) n m o p u v w x h = h
refusal-cause answer.NoMemory n m o p u v w x h = tt
refusal-cause answer.Done n m o p u v w x h = tt
refusal-cause (answer.Unread name) n m o p u v w x h = tt
refusal-cause (answer.UnreadFile name) n m o p u v w x h = tt
refusal-cause (answer.Unwritten to) n m o p u v w x h = tt
