-- What `resolve` asks of its callers, what its answer is compared with, and what it promises of the ids of modules.
use Rattle.std.specs.Prelude.{◌≡◌, ◌≤◌, Bool, List, map, length, nat_eq, Option, Some, None, Contains, All}
use Rattle.std.specs.List.{list_any}
use Rattle.yr_syntax.specs.Forms.{HaveForms}
use Rattle.yr_values.specs.declared.names.ModuleEntry.TheVariants as row
use Rattle.yr_values.specs.declared.names.ModuleNames.{ModuleNames}
use Rattle.yr_values.specs.Names.{NamedRow, NamedModule, names_shown}
use Rattle.yr_rules.specs.declared.external.External.{External}
use Rattle.yr_rules.specs.Rules.{PlainExternal, PlainRules, external_of}
use Rattle.yr_rules.specs.Wellformed.{IsShortWord, AreDifferent, space_limit}
use Rattle.yr_rules.specs.Ids.{Ids, HasIds}
use Rattle.yr_checks.specs.declared.refusal.ResolveFault.{ResolveFault}
use Rattle.yr_checks.specs.declared.refusal.ResolveFault.TheVariants as fault
use Rattle.yr_checks.specs.Sources.{UnitTree}
use Rattle.yr_conditions.specs.Readers.{Readers}
use Rattle.yr_checks.specs.Given.{Given}
use Rattle.yr_checks.specs.Refusals.{PlainRefusal, refusal_of}

-- a unit in a namespace that is a word, whose declarations have their forms
abbrev pub IsUnit : UnitTree → Type 0
IsUnit u = IsShortWord u.space × HaveForms u.declarations

-- not too many units
abbrev pub AreUnits : List UnitTree → Type 0
AreUnits units = (length units ≤ space_limit) × All IsUnit units

-- externals with different names
abbrev pub AreExternals : List PlainExternal → Type 0
AreExternals externals = All (λ e. IsShortWord e.name) externals × AreDifferent (map (λ e. e.name) externals)

-- what the checks are made with, for readers that read by the definitions
abbrev pub given_by : Readers → ModuleNames → List External → Given
given_by readers names externals = record { readers = readers; modules = names_shown names; externals = map external_of externals }

-- the refusal that an error stands for
abbrev pub refusal_in : ResolveFault → Option PlainRefusal
refusal_in (fault.Refused r) = Some (refusal_of r)
refusal_in fault.NoMemory = None

-- a row with an index in its path
abbrev pub is_indexed : NamedRow → Bool
is_indexed r = list_any (nat_eq 91) r.path

-- a row of one of the modules
pub record IsRow (modules : List NamedModule) (r : NamedRow) : Type 0 where
  pub module_of : NamedModule
  pub there : Contains modules module_of
  pub own : Contains module_of.rows r

-- the ids of the modules' rows
abbrev pub row_ids : List NamedModule → Ids
row_ids modules = record {
  field = λ id kind indexed. (r : NamedRow) × IsRow modules r × (r.entry ≡ row.Field id kind) × (is_indexed r ≡ indexed);
  call = λ id kind. (r : NamedRow) × IsRow modules r × (r.entry ≡ row.Call id kind);
  entries = λ id. (r : NamedRow) × IsRow modules r × (r.entry ≡ row.Array id);
}

-- each id in the rules' conditions is that of a row, with its kind and its use
abbrev pub HaveRowIds : List NamedModule → PlainRules → Type 0
HaveRowIds modules rules = All (λ r. HasIds (row_ids modules) r.condition) rules.rules
