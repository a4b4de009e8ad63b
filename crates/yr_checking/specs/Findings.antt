-- What the code keeps of findings, as plain data.
use Rattle.std.specs.Prelude.{◌≡◌, false, [], ◌∷◌}
use Rattle.yr_name_tables.specs.Names.{Name, with_star}
use Rattle.yr_syntax.specs.Declaration.{StringTree, kind_of}
use Rattle.yr_syntax.specs.Forms.{IsShortText, StringHasForms}
use Rattle.yr_text.specs.Checked.{checked}
use Rattle.yr_checks.specs.Patterns.{is_empty_text, is_refused}
use Rattle.yr_conditions.specs.Uses as use'
use Rattle.yr_conditions.specs.Uses.{Use}
use Rattle.yr_checks.specs.Given.{Finding}
use Rattle.yr_checking.specs.declared.finding.Named.{Named}
use Rattle.yr_checking.specs.declared.finding.Named.TheVariants as named
use Rattle.yr_checking.specs.declared.finding.Finding.{Finding as FindingType}

abbrev pub named_of : Named → Name
named_of named.Nothing = []
named_of (named.Word w) = w.now
named_of (named.Token sign n wild) = sign ∷ with_star n.now wild

abbrev pub finding_of : FindingType → Finding
finding_of f = record { code = f.code; named = named_of f.named; place = f.place }

-- the expression of a use has places of 32 bits
abbrev pub HasShortText : Use → Type 0
HasShortText (use'.Expression r) = IsShortText r.text
HasShortText (use'.String sign n) = Unit {0}
HasShortText (use'.Nameless sign) = Unit {0}
HasShortText (use'.Member n wild) = Unit {0}
HasShortText use'.Everything = Unit {0}
HasShortText (use'.Earlier n wild) = Unit {0}
HasShortText (use'.Unknown w) = Unit {0}
HasShortText (use'.Loop round) = Unit {0}
HasShortText (use'.Listed items) = Unit {0}

-- a string with its forms, a text with a byte, and modifiers without a fault
pub record IsSoundString (s : StringTree) : Type 0 where
  pub forms : StringHasForms s
  pub text : is_empty_text s.body ≡ false
  pub modifiers : is_refused (checked s.modifiers (kind_of s.body)) ≡ false
