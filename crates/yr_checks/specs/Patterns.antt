-- The checks on the texts, modifiers and patterns of strings and expressions.
use Rattle.std.specs.Prelude.{ℕ, Bool, true, false, [], ◌∷◌, nat_lt, Option, Some, None, Result, Ok, Err, codes}
use Rattle.std.specs.List.{list_any}
use Rattle.yr_pattern.specs.Sizes.{size_of}
use Rattle.yr_pattern.specs.Tree.{Tree}
use Rattle.yr_pattern.specs.Variants.{variant_size}
use Rattle.yr_syntax.specs.Declaration.{StringTree, BodyTree, Text, Hex, Regex, kind_of as string_kind}
use Rattle.yr_text.specs.declared.fault.ModifierFault.{ModifierFault}
use Rattle.yr_text.specs.declared.modifiers.Modifiers.{Modifiers}
use Rattle.yr_text.specs.Checked.{checked}
use Rattle.yr_rules.specs.Fits.{size_limit}
use Rattle.yr_checks.specs.declared.refusal.Code.TheVariants as code
use Rattle.yr_name_tables.specs.Names.{Name, with_sign}
use Rattle.yr_conditions.specs.Readers.{Readers, Expression, HexRefusal, Jump, RegexRefusal, Range, Mixed, modifiers_of, string_expression, expression_of, string_variants}
use Rattle.yr_conditions.specs.Uses as use'
use Rattle.yr_conditions.specs.Uses.{Use}
use Rattle.yr_checks.specs.Given.{Finding, finding, name_if, naming}

-- a text without a byte
abbrev pub is_empty_text : BodyTree → Bool
is_empty_text (Text []) = true
is_empty_text (Text (b ∷ bs)) = false
is_empty_text (Hex t) = false
is_empty_text (Regex r) = false

-- the name of a text string without a byte
abbrev pub empty_string : StringTree → Option Name
empty_string s = name_if (is_empty_text s.body) (with_sign s.name)

-- the modifiers have a fault
abbrev pub is_refused : Result Modifiers ModifierFault → Bool
is_refused (Ok m) = false
is_refused (Err fault) = true

-- the name of a string whose modifiers have a fault
abbrev pub bad_modifiers : StringTree → Option Name
bad_modifiers s = name_if (is_refused (checked s.modifiers (string_kind s.body))) (with_sign s.name)

-- why a text is no hex string
abbrev pub hex_finding : Name → Result Tree HexRefusal → Option Finding
hex_finding n (Ok tree) = None
hex_finding n (Err HexRefusal.NoReading) = Some (finding code.HexSyntax n)
hex_finding n (Err (Jump place)) = Some (record { code = code.HexJump; named = n; place = Some place })

-- why a text is no expression
abbrev pub regex_finding : Name → Result Expression RegexRefusal → Option Finding
regex_finding n (Ok e) = None
regex_finding n (Err RegexRefusal.NoReading) = Some (finding code.RegexSyntax n)
regex_finding n (Err (Range place)) = Some (record { code = code.RegexRange; named = n; place = Some place })
regex_finding n (Err Mixed) = Some (finding code.MixedGreed n)

-- above the greatest size of a pattern
abbrev pub is_large : ℕ → Bool
is_large size = nat_lt size_limit size

-- an expression whose pattern is too large
abbrev pub large_expression : Name → Result Expression RegexRefusal → Option Finding
large_expression n (Ok e) = naming code.PatternTooLarge (name_if (is_large (size_of e.pattern)) n)
large_expression n (Err refusal) = None

-- what a finding names that an expression of the condition has
abbrev pub matches_word : Name
matches_word = codes "matches"

module _ (readers : Readers) where
  -- why the string is no hex string, if it is one
  abbrev pub bad_hex : StringTree → Option Finding
  bad_hex s = of_body s.body
    where
      of_body : BodyTree → Option Finding
      of_body (Text t) = None
      of_body (Hex t) = hex_finding (with_sign s.name) (readers.hex t)
      of_body (Regex r) = None

  -- why the string is no expression, if it is one
  abbrev pub bad_regex : StringTree → Option Finding
  bad_regex s = of_body s.body
    where
      of_body : BodyTree → Option Finding
      of_body (Text t) = None
      of_body (Hex t) = None
      of_body (Regex r) = regex_finding (with_sign s.name) (string_expression readers r (modifiers_of s))

  -- the string, where a variant of it is too large
  abbrev pub large_string : StringTree → Option Finding
  large_string s = naming code.PatternTooLarge (name_if (list_any (λ v. is_large (variant_size v)) (string_variants readers s)) (with_sign s.name))

  -- why the expression of a `matches` is none
  abbrev pub bad_use : Use → Option Finding
  bad_use (use'.Expression r) = regex_finding matches_word (expression_of readers r)
  bad_use other = None

  -- the expression of a `matches`, where it is too large
  abbrev pub large_use : Use → Option Finding
  large_use (use'.Expression r) = large_expression matches_word (expression_of readers r)
  large_use other = None
