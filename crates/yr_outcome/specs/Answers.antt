-- What commands write: reports, and lines of numbers.
use Rattle.std.specs.Prelude.{ℕ, List, [], ◌++◌, length, map, sum_by, count_by, codes, if◌then◌else◌}
use Rattle.yr_values.specs.Names.{NamedModule}
use Rattle.yr_values.specs.Values.{Value}
use Rattle.yr_answer.specs.declared.options.ReportOptions.{ReportOptions}
use Rattle.yr_rules.specs.Rules.{PlainRules, PlainExternal}
use Rattle.yr_meaning.specs.Conditions.{Environment}
use Rattle.yr_meaning.specs.Scan.{ModuleValues, environment_of}
use Rattle.yr_meaning.specs.Truths.{truths_of}
use Rattle.yr_words.specs.Commands.{Flags}
use Rattle.yr_outcome.specs.Texts.{line, spaced}

-- What a run stands on beside files and words: the names of the modules, and the values that they have for each file.
pub record Setting : Type 0 where
  pub modules : List NamedModule
  pub values : List ℕ → ModuleValues

-- the options of a report that flags ask for
abbrev pub options_of : Flags → ReportOptions
options_of flags = record {
  strings = flags.strings;
  tags = flags.tags;
  meta = flags.meta;
  negate = flags.negate;
  count = flags.count;
  spaces = flags.spaces;
}

-- a word and a number
abbrev pub counted : List ℕ → ℕ → List ℕ
counted word n = line (word ++ spaced n)

-- the last line of a report where `--stats` asks for it
abbrev pub hits_line : Flags → ℕ → List ℕ
hits_line flags n = if flags.stats then counted (codes "hits:") n else []

-- `rules N, strings M`
abbrev pub check_line : PlainRules → List ℕ
check_line rules = line (codes "rules" ++ (spaced (length rules.rules) ++ (codes ", strings" ++ spaced (length rules.strings))))

-- the externals' own values
abbrev pub own_values : List PlainExternal → List Value
own_values externals = map (λ e. e.value) externals

-- how many rules there are, how many bytes the file has, how many rules hold, and how many matches all strings have
abbrev pub work_lines : PlainRules → List ℕ → Environment → List ℕ
work_lines rules file e =
    counted (codes "rules") (length rules.rules)
    ++ (counted (codes "bytes") (length file)
    ++ (counted (codes "satisfied") (count_by (λ truth. truth) (truths_of e rules.rules))
    ++ counted (codes "matches") (sum_by length e.lists)))

-- the lines of `work`
abbrev pub work_text : (List ℕ → ModuleValues) → PlainRules → List ℕ → List ℕ
work_text values rules file = work_lines rules file (environment_of (values file) rules (own_values rules.externals) file)
