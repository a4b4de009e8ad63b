-- The values that words give to the externals of rules and of an image.
use Rattle.std.specs.Prelude.{ℕ, Bool, true, false, List, [], ◌∷◌, map, Option, Some, None, codes, if◌then◌else◌}
use Rattle.std.specs.Str.{bytes_eq}
use Rattle.yr_values.specs.Values.{Value, Number, Flag, Text}
use Rattle.yr_rules.specs.Rules.{PlainExternal}
use Rattle.yr_name_tables.specs.Names.{first, first_twice}
use Rattle.yr_words.specs.Values.{Given}
use Rattle.yr_outcome.specs.declared.status.Status.TheVariants as status
use Rattle.yr_outcome.specs.Texts.{external_text}
use Rattle.yr_outcome.specs.Front.{Refusal, refusal}

-- a refusal of the external of this name
abbrev pub external_refusal : (name why : List ℕ) → Refusal
external_refusal name why = refusal status.External (external_text name why)

-- the first name that stands again in a later word
abbrev pub twice_given : List Given → Option (List ℕ)
twice_given givens = first_twice (map (λ g. g.name) givens)

-- values of one kind
abbrev pub same_kind : Value → Value → Bool
same_kind (Number n) (Number m) = true
same_kind (Flag a) (Flag b) = true
same_kind (Text s) (Text t) = true
same_kind v w = false

-- the external of a name
abbrev pub external_named : List ℕ → List PlainExternal → Option PlainExternal
external_named name [] = None
external_named name (e ∷ es) = if bytes_eq e.name name then Some e else external_named name es

-- a word's name is not there, or its value has another kind there
abbrev pub misfit : Given → Option PlainExternal → Option Refusal
misfit g None = Some (external_refusal g.name (codes "Unknown"))
misfit g (Some e) = if same_kind e.value g.value then None else Some (external_refusal g.name (codes "Kind"))

-- the refusal of the first word that does not fit the externals of an image
abbrev pub first_misfit : List PlainExternal → List Given → Option Refusal
first_misfit externals givens = first (λ g. misfit g (external_named g.name externals)) givens

-- the value that words give to a name, else this one
abbrev pub given_value : List Given → (name : List ℕ) → Value → Value
given_value [] name own = own
given_value (g ∷ gs) name own = if bytes_eq g.name name then g.value else given_value gs name own

-- the values of externals: those of the words, and where they give none the externals' own
abbrev pub values_with : List Given → List PlainExternal → List Value
values_with givens externals = map (λ e. given_value givens e.name e.value) externals
