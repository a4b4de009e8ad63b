-- An image that has been built of rules, table by table.
use Rattle.std.specs.Prelude.{◌≡◌, ℕ, ◌+◌, ◌*◌, ◌≤◌, List, length, map, take, drop, Some, slice_get, []}
use Rattle.yr_rules.specs.Rules.{PlainExternal, PlainRule, PlainRules}
use Rattle.yr_base.specs.declared.value.Kind.{Kind}
use Rattle.yr_rules.specs.Kinds.{kind_of}
use Rattle.yr_rules.specs.Fits.{Rows, Fits}
use Rattle.yr_rules.specs.Weight.{total, node_weight}
use Rattle.yr_draft.specs.Growing.{Grows}
use Rattle.yr_automaton.specs.Automaton.{IsAutomatonOf}
use Rattle.yr_image.specs.Image.{Image}
use Rattle.yr_image.specs.Encoding.{encoded_length}
use Rattle.yr_emission.specs.Parts.{rule_part}
use Rattle.yr_emission.specs.Standing.{Stands}
use Rattle.yr_splits.specs.Placed.{Placed}
use Rattle.yr_splits.specs.Standing.{atoms_of}
use Rattle.yr_splits.specs.Programs.{AreProgramRows}
use Rattle.yr_splits.specs.Filling.{HasStrings, rows_in}
use Rattle.yr_compiler.specs.declared.code_range.CodeRange.{CodeRange}
use Rattle.yr_compiler.specs.Notes.{SayNotes, external_note}
use Rattle.yr_compiler.specs.Rules.{SayRules}
use Rattle.yr_compiler.specs.Codes.{FollowCodes}
use Rattle.yr_preserves.specs.Preserves.{most_image_bytes}

-- the code of the condition stands in this range
pub record HasRuleCode (image : Image) (externals : List PlainExternal) (rule : PlainRule) (code : CodeRange) : Type 0 where
  pub first_list : ℕ
  pub inside : code.first + code.rows ≤ length image.code
  pub size : length (take code.rows (drop code.first image.code)) ≡ (rule_part externals rule.condition).size
  pub stands : Stands image (take code.rows (drop code.first image.code)) (rule_part externals rule.condition) 0 first_list

-- what a condition weighs
abbrev pub condition_weight : PlainRule → ℕ
condition_weight rule = node_weight rule.condition []

-- each table says its part of the rules
pub record IsBuilt (image : Image) (rules : PlainRules) : Type 0 where
  pub version : image.version ≡ 2
  pub placed : List Placed
  pub strings : HasStrings image placed rules.strings
  pub automaton : IsAutomatonOf (atoms_of placed) (rows_in image)
  pub externals : SayNotes image (map external_note rules.externals) image.externals
  pub codes : List CodeRange
  pub enough : length codes ≡ length rules.rules
  pub listed : SayRules image rules.rules codes
  pub follow : FollowCodes image codes
  pub code : (k : ℕ) (rule : PlainRule) (range : CodeRange) → slice_get rules.rules k ≡ Some rule → slice_get codes k ≡ Some range
      → HasRuleCode image rules.externals rule range
  pub programs : AreProgramRows image
  pub short : encoded_length image ≤ most_image_bytes rules

-- the code of rules is put into an image that had none
pub record PutsCodes (start image : Image) (externals : List PlainExternal) (rules : List PlainRule) (codes : List CodeRange) : Type 0 where
  pub others : image ≡ record start { sets = image.sets; programs = image.programs; moves = image.moves; lists = image.lists; code = image.code; pool = image.pool }
  pub grows : Grows start image
  pub programs : AreProgramRows start → AreProgramRows image
  pub count : length codes ≡ length rules
  pub follow : FollowCodes image codes
  pub code : (k : ℕ) (rule : PlainRule) (range : CodeRange) → slice_get rules k ≡ Some rule → slice_get codes k ≡ Some range
      → HasRuleCode image externals rule range
  pub cost : encoded_length image ≤ encoded_length start + 64 * total condition_weight rules

-- the condition has a kind, and fits what stands round it
pub record HasKind (externals : List PlainExternal) (rule : PlainRule) : Type 0 where
  pub kind : Kind
  pub bounds : Rows
  pub is : kind_of externals rule.condition [] ≡ Some kind
  pub fits : Fits bounds rule.condition []
