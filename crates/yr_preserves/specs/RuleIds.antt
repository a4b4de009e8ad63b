-- The ids of the table of fields and calls that rules name.
use Rattle.std.specs.Prelude.{All}
use Rattle.yr_rules.specs.Rules.{PlainRules}
use Rattle.yr_rules.specs.Ids.{HasIds}
use Rattle.yr_meaning.specs.Fitting.{ids_of}
use Rattle.yr_image.specs.ModuleTable.{field_row_of, call_row_of}

-- each field, call and number of entries in conditions has an id of the table
abbrev pub HaveIds : PlainRules → Type 0
HaveIds rules = All (λ rule. HasIds (ids_of field_row_of call_row_of) rule.condition) rules.rules
