-- When an image stands for rules: on every file it gives their report.
use Rattle.std.specs.Prelude.{◌≡◌, ℕ, ◌+◌, ◌*◌, ◌≤◌, ◌↔◌, List, length, map, All, FitsSigned}
use Rattle.std.specs.Int.{w64}
use Rattle.yr_base.specs.Bytes.{AreBytes}
use Rattle.yr_values.specs.Values.{Value, Undefined, Number, Flag, Text, kind_of}
use Rattle.yr_answer.specs.declared.options.ReportOptions.{ReportOptions}
use Rattle.yr_rules.specs.Rules.{PlainExternal, PlainRules}
use Rattle.yr_rules.specs.Weight.{weight_of}
use Rattle.yr_meaning.specs.Scan.{ModuleValues, scan_report}
use Rattle.yr_image.specs.declared.rows.NoteRow.{NoteRow}
use Rattle.yr_image.specs.Image.{Image}
use Rattle.yr_image.specs.Reading.{image_in}
use Rattle.yr_machine.specs.Names.{note_name}
use Rattle.yr_machine.specs.ImageRun.{value_of}
use Rattle.yr_machine.specs.Wellformed.{IsWellformed}
use Rattle.yr_preserves.specs.ImageReport.{IsImageReport}

-- the most bytes of a target
abbrev pub target_limit : ℕ
target_limit = 268435456

-- a list of bytes of which a target may consist
abbrev pub IsTarget : List ℕ → Type 0
IsTarget file = AreBytes file × (length file ≤ target_limit)

-- a value that a word can give: a number has 64 signed bits
abbrev pub IsGivenValue : Value → Type 0
IsGivenValue Undefined = ⊥
IsGivenValue (Number n) = FitsSigned w64 n
IsGivenValue (Flag b) = Unit {0}
IsGivenValue (Text t) = AreBytes t

-- values of the same kinds as those of the externals, in their order
pub record HaveKindsOf (externals : List PlainExternal) (values : List Value) : Type 0 where
  pub given : All IsGivenValue values
  pub kinds : map kind_of values ≡ map (λ e. kind_of e.value) externals

-- an external of an image, with its own value
abbrev pub external_in : Image → NoteRow → PlainExternal
external_in image row = record { name = note_name image row; value = value_of image row }

-- the externals of an image, in their order
abbrev pub externals_in : List ℕ → List PlainExternal
externals_in bytes = map (external_in (image_in bytes)) (image_in bytes).externals

-- the most bytes of an image for rules
abbrev pub most_image_bytes : PlainRules → ℕ
most_image_bytes rules = 64 * weight_of rules + 4096

-- The image is wellformed and not too long, has the externals of the rules, and gives their report on every target, with all values of
-- the same kinds, all options and every word for the target.
pub record PreservesReports (modules : List ℕ → ModuleValues) (bytes : List ℕ) (rules : PlainRules) : Type 0 where
  pub wellformed : IsWellformed bytes
  pub short : length bytes ≤ most_image_bytes rules
  pub externals : externals_in bytes ≡ rules.externals
  pub reports : (file : List ℕ) → IsTarget file → (values : List Value) → HaveKindsOf rules.externals values
      → (options : ReportOptions) (target text : List ℕ)
      → ((count : ℕ) × IsImageReport (modules file) bytes file values options target text count)
      ↔ (text ≡ scan_report (modules file) rules values file options target)
