-- Small runs that the definitions are tried on.
use Rattle.std.specs.Prelude.{ℕ, ℤ, Option, true, false, List, [], ◌∷◌, codes, Some, None, Ok, Err, if◌then◌else◌}
use Rattle.std.specs.List.{list_any}
use Rattle.std.specs.Str.{bytes_eq}
use Rattle.yr_base.specs.Store.{Files}
use Rattle.yr_syntax.specs.Condition as tree
use Rattle.yr_syntax.specs.Declaration as declaration
use Rattle.yr_syntax.specs.Declaration.{Declaration}
use Rattle.yr_values.specs.Values.{Undefined, Number}
use Rattle.yr_meaning.specs.Scan.{ModuleValues}
use Rattle.yr_checks.specs.Examples as rule
use Rattle.yr_conditions.specs.Readers.{HexRefusal, RegexRefusal}
use Rattle.yr_rules.specs.Rules.{PlainExternal}
use Rattle.yr_words.specs.Values.{Given, given_of}
use Rattle.yr_outcome.specs.Front.{Reading, file_name}
use Rattle.yr_outcome.specs.Answers.{Setting}
use Rattle.yr_outcome.specs.Outcome.{Outcome, Found, ending_of}

-- no modules
abbrev pub no_values : List ℕ → ModuleValues
no_values file = record { fields = λ id index. Undefined; calls = λ id from size. Undefined }

abbrev pub bare : Setting
bare = record { modules = []; values = no_values }

-- nothing was found
abbrev pub nothing_found : Found
nothing_found = record { image = []; report = []; hits = 0 }

-- a reading by which each text has no tokens, and each rule file the declarations that stand here for its name
abbrev pub tokenless : (List ℕ → List Declaration) → Reading
tokenless declared = record {
  lexed = λ text. Ok [];
  unescaped = λ inside. inside;
  parsed = λ gathered. Ok (declared (file_name gathered.files 0));
  readers = record { hex = λ text. Err HexRefusal.NoReading; regex = λ text nocase dot_all. Err RegexRefusal.NoReading };
  verified = λ bytes. None;
}

-- `rule r { condition: true }`, in `p.yar` `global rule g { condition: false }`, and in `m.yar` `import "math"`
abbrev pub false_global : Declaration
false_global = declaration.Rule (record {
  name = codes "g";
  global = true;
  hidden = false;
  tags = [];
  meta = [];
  strings = [];
  condition = tree.Flag false;
  file = 0;
  line = 1;
})

abbrev pub small_rules : List ℕ → List Declaration
small_rules name =
    if bytes_eq name (codes "p.yar") then false_global ∷ []
    else if bytes_eq name (codes "m.yar") then rule.import_of (codes "math") ∷ []
    else rule.rule_with (codes "r") [] rule.yes ∷ []

-- there are the files `p.yar`, `q.yar`, `m.yar` and `t.bin`
abbrev pub small_files : Files
small_files name = if list_any (bytes_eq name) (codes "p.yar" ∷ codes "q.yar" ∷ codes "m.yar" ∷ codes "t.bin" ∷ []) then Some [] else None

-- a run over them
abbrev pub small_run : List (List ℕ) → Outcome
small_run words = (ending_of bare (tokenless small_rules) nothing_found small_files words).outcome

-- an external that is a number, and the value that a word gives
abbrev pub number : List ℕ → ℤ → PlainExternal
number name n = record { name = name; value = Number n }

abbrev pub given_in : Option Given → Given
given_in None = record { name = []; value = Undefined }
given_in (Some g) = g

abbrev pub given : List ℕ → Given
given word = given_in (given_of word)
