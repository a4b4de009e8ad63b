-- What a run answers, by the words and the files alone: the first refusal, or the whole answer.
use Rattle.std.specs.Prelude.{◌≡◌, ℕ, ◌+◌, List, [], ◌∷◌, ◌++◌, nat_le, length, take, codes, Option, None, Some, Result, Ok, Err, if◌then◌else◌}
use Rattle.std.specs.Str.{bytes_eq}
use Rattle.yr_base.specs.Store.{Files}
use Rattle.yr_values.specs.Values.{Value}
use Rattle.yr_answer.specs.declared.options.ReportOptions.{ReportOptions}
use Rattle.yr_rules.specs.Rules.{PlainRules}
use Rattle.yr_meaning.specs.Scan.{scan_report}
use Rattle.yr_image.specs.declared.fault.ImageFault.{ImageFault}
use Rattle.yr_image.specs.Sections.{most_bytes}
use Rattle.yr_machine.specs.Hits.{hit_count}
use Rattle.yr_preserves.specs.ImageReport.{ImageScan, IsImageReport}
use Rattle.yr_preserves.specs.Preserves.{target_limit, externals_in}
use Rattle.yr_preserves.specs.Shape.{IsCompiled}
use Rattle.yr_workload.specs.Workload.{Workload, workload_of}
use Rattle.yr_words.specs.Values.{Given}
use Rattle.yr_words.specs.Commands.{Flags, Source, Command, Scan, ScanImage, Compile, Check, Work, givens_of}
use Rattle.yr_words.specs.Words.{command_of}
use Rattle.yr_outcome.specs.declared.status.Status.{Status}
use Rattle.yr_outcome.specs.declared.status.Status.TheVariants as status
use Rattle.yr_outcome.specs.Texts.{bad_words, unread, too_long, image_text}
use Rattle.yr_outcome.specs.Front.{Refusal, refusal, Reading, names_read, rules_of}
use Rattle.yr_outcome.specs.Externals.{external_refusal, twice_given, first_misfit, values_with}
use Rattle.yr_outcome.specs.Answers.{Setting, options_of, hits_line, check_line, own_values, work_text}

-- a status, what is written, what is said, the files after, the file that is written last if one is, and the names that are read, in order
pub record Outcome : Type 0 where
  pub status : Status
  pub out : List ℕ
  pub said : List ℕ
  pub files : Files
  pub output : Option (List ℕ)
  pub reads : List (List ℕ)

-- What words and files leave open: the image to which the rules are compiled, since the choice of atoms is free, and the report and the
-- number of hits, which an image gives by a relation.
pub record Found : Type 0 where
  pub image : List ℕ
  pub report : List ℕ
  pub hits : ℕ

-- what must hold of them where an outcome uses them
pub data Claim : Type 0 where
  Free : Claim
  CompiledTo : PlainRules → Claim
  CompiledHits : PlainRules → (file : List ℕ) → Claim
  ReportedBy : (image file : List ℕ) → List Value → ReportOptions → (target : List ℕ) → Claim

-- an outcome with its claim
pub record Ending : Type 0 where
  pub outcome : Outcome
  pub claim : Claim

-- the end by a refusal, with nothing written
abbrev pub refused : Files → Refusal → Ending
refused files r = record {
  outcome = record { status = r.status; out = []; said = r.said; files = files; output = None; reads = [] };
  claim = Free;
}

-- a whole answer on the output
abbrev pub shown : Files → List ℕ → Claim → Ending
shown files out claim = record {
  outcome = record { status = status.Done; out = out; said = []; files = files; output = None; reads = [] };
  claim = claim;
}

-- the files after one of them was written
abbrev pub with_content : Files → (name content : List ℕ) → Files
with_content files name content other = if bytes_eq name other then Some content else files other

-- a whole answer in a file
abbrev pub written : Files → (name content : List ℕ) → Claim → Ending
written files name content claim = record {
  outcome = record { status = status.Done; out = []; said = []; files = with_content files name content; output = Some name; reads = [] };
  claim = claim;
}

-- what follows reads of these names
abbrev pub after_reads : List (List ℕ) → Ending → Ending
after_reads names e = record {
  outcome = record {
    status = e.outcome.status;
    out = e.outcome.out;
    said = e.outcome.said;
    files = e.outcome.files;
    output = e.outcome.output;
    reads = names ++ e.outcome.reads;
  };
  claim = e.claim;
}

-- what follows the read of this name
abbrev pub after_read : List ℕ → Ending → Ending
after_read name e = after_reads (name ∷ []) e

-- an answer on a target of at most 268,435,456 bytes
abbrev pub on_target : Files → (target : List ℕ) → (List ℕ → Ending) → Option (List ℕ) → Ending
on_target files target answer None = refused files (refusal status.ReadFault (unread target))
on_target files target answer (Some file) =
    if nat_le (length file) target_limit then answer file else refused files (refusal status.LongTarget (too_long target))

-- the target's reading
abbrev pub with_target : Files → (target : List ℕ) → (List ℕ → Ending) → Ending
with_target files target answer = after_read target (on_target files target answer (files target))

-- the hits are asked for
abbrev pub if_stats : Flags → Claim → Claim
if_stats flags claim = if flags.stats then claim else Free

-- the store of a workload: its rules as the file `work`
abbrev pub work_files : Workload → Files
work_files made name = if bytes_eq (codes "work") name then Some made.rules else None

-- the one rule file of a workload
abbrev pub work_source : Source
work_source = record { space = codes "default"; file = codes "work" }

module _ (setting : Setting) (reading : Reading) (found : Found) (files : Files) where
  -- what follows from rules, where they are not refused
  abbrev pub from_rules : Result PlainRules Refusal → (PlainRules → Ending) → Ending
  from_rules (Err r) next = refused files r
  from_rules (Ok rules) next = next rules

  -- the reading of rule files, their grammar and their checks
  abbrev pub with_rules : List Source → List Given → (PlainRules → Ending) → Ending
  with_rules sources givens next =
      after_reads (names_read reading setting.modules files sources) (from_rules (rules_of reading setting.modules files sources givens) next)

  -- the report on a target, by rules
  abbrev pub scanned : Flags → (target : List ℕ) → PlainRules → Ending
  scanned flags target rules = with_target files target (λ file. shown files
      (scan_report (setting.values file) rules (own_values rules.externals) file (options_of flags) target ++ hits_line flags found.hits)
      (if_stats flags (CompiledHits rules file)))

  -- the report on a target, by an image whose externals have these values
  abbrev pub image_scanned : Flags → (target image : List ℕ) → List Value → Ending
  image_scanned flags target image values = with_target files target (λ file. shown files
      (found.report ++ hits_line flags found.hits)
      (ReportedBy image file values (options_of flags) target))

  -- the words' values fit the externals of the image
  abbrev pub with_externals : Flags → (target image : List ℕ) → List Given → Option Refusal → Ending
  with_externals flags target image givens (Some r) = refused files r
  with_externals flags target image givens None = image_scanned flags target image (values_with givens (externals_in image))

  -- the image is wellformed
  abbrev pub with_verified : Flags → (name target image : List ℕ) → List Given → Option ImageFault → Ending
  with_verified flags name target image givens (Some fault) = refused files (refusal status.Image (image_text name fault))
  with_verified flags name target image givens None = with_externals flags target image givens (first_misfit (externals_in image) givens)

  -- of a file that is too long for an image, so many bytes are looked at as show it
  abbrev pub with_image : Flags → (name target : List ℕ) → List Given → Option (List ℕ) → Ending
  with_image flags name target givens None = refused files (refusal status.ReadFault (unread name))
  with_image flags name target givens (Some bytes) =
      with_verified flags name target (take (most_bytes + 1) bytes) givens (reading.verified (take (most_bytes + 1) bytes))

  -- the answer to a workload's rules, which no name is read for
  abbrev pub worked : Workload → Result PlainRules Refusal → Ending
  worked made (Err r) = refused files r
  worked made (Ok rules) = shown files (work_text setting.values rules made.file) Free

  -- a workload's rules are read from a store of its own
  abbrev pub with_workload : Workload → Ending
  with_workload made = worked made (rules_of reading setting.modules (work_files made) (work_source ∷ []) [])

  -- each command
  abbrev pub run : Command → Ending
  run (Scan flags sources target givens) = with_rules sources givens (scanned flags target)
  run (ScanImage flags image target givens) = after_read image (with_image flags image target givens (files image))
  run (Compile sources output givens) = with_rules sources givens (λ rules. written files output found.image (CompiledTo rules))
  run (Check sources givens) = with_rules sources givens (λ rules. shown files (check_line rules) Free)
  run (Work number size) = with_workload (workload_of number size)

  -- no name is given twice
  abbrev pub with_names : Command → Option (List ℕ) → Ending
  with_names c (Some name) = refused files (external_refusal name (codes "Twice"))
  with_names c None = run c

  -- the words read
  abbrev pub with_command : Option Command → Ending
  with_command None = refused files (refusal status.Usage bad_words)
  with_command (Some c) = with_names c (twice_given (givens_of c))

  -- the whole run
  abbrev pub ending_of : List (List ℕ) → Ending
  ending_of words = with_command (command_of words)

-- The claim holds of what was found: the image is one to which the rules may be compiled, the hits are those of such an image, or the report
-- and the hits are those of this image.
abbrev pub Holds : Setting → Found → Claim → Type 0
Holds setting found Free = Unit {0}
Holds setting found (CompiledTo rules) = IsCompiled setting.values found.image rules
Holds setting found (CompiledHits rules file) =
    IsCompiled setting.values found.image rules
    × ((scan : ImageScan (setting.values file) found.image file (own_values rules.externals)) × (found.hits ≡ hit_count scan.hits))
Holds setting found (ReportedBy image file values options target) =
    IsImageReport (setting.values file) image file values options target found.report found.hits

-- the outcome of the words and the files, by functions that read
pub record IsOutcome (setting : Setting) (reading : Reading) (words : List (List ℕ)) (files : Files) (o : Outcome) : Type 0 where
  pub found : Found
  pub walk : o ≡ (ending_of setting reading found files words).outcome
  pub holds : Holds setting found (ending_of setting reading found files words).claim

-- the outcome but for what is found: its status, what it reads and what it says of faults do not need it
pub record IsNearOutcome (setting : Setting) (reading : Reading) (words : List (List ℕ)) (files : Files) (o : Outcome) : Type 0 where
  pub found : Found
  pub walk : o ≡ (ending_of setting reading found files words).outcome
