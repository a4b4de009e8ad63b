-- From rule files to checked rules, or to the first refusal: all files are gathered in order, then all are parsed in order, then all are checked.
use Rattle.std.specs.Prelude.{ℕ, Bool, true, false, List, [], ◌∷◌, ◌++◌, map, slice_get, Option, Some, None, Result, Ok, Err, codes, if◌then◌else◌}
use Rattle.yr_base.specs.Store.{Files}
use Rattle.yr_lexer.specs.declared.token.Token.{Token}
use Rattle.yr_lexer.specs.declared.source.FileToken.{FileToken}
use Rattle.yr_lexer.specs.declared.fault.LexFault.{LexFault}
use Rattle.yr_lexer.specs.Sources.{File, Gathered}
use Rattle.yr_lexer.specs.Includes.{Walk, WalkFault, Lex, Read, Path, Cycle, Depth, TextTooLong, walk_of, IsLexing, IsUnescaping}
use Rattle.yr_syntax.specs.Declaration.{Declaration}
use Rattle.yr_parser.specs.Parsing.{GrammarFault, Syntax, TooDeep, IsParsed}
use Rattle.yr_values.specs.Names.{NamedModule}
use Rattle.yr_rules.specs.Rules.{PlainExternal, PlainRules}
use Rattle.yr_checks.specs.declared.refusal.Code.TheVariants as code
use Rattle.yr_checks.specs.declared.refusal.Code.{Code}
use Rattle.yr_conditions.specs.Readers.{Readers}
use Rattle.yr_conditions.specs.Readers as readers
use Rattle.yr_checks.specs.Sources.{UnitTree, PlacedRule, rules_in, items_of}
use Rattle.yr_checks.specs.Given as checks
use Rattle.yr_checks.specs.Refusals.{PlainRefusal, resolved}
use Rattle.yr_image.specs.declared.fault.ImageFault.{ImageFault}
use Rattle.yr_machine.specs.Wellformed.{IsAnswer}
use Rattle.yr_words.specs.Values.{Given}
use Rattle.yr_words.specs.Commands.{Source}
use Rattle.yr_outcome.specs.declared.status.Status.{Status}
use Rattle.yr_outcome.specs.declared.status.Status.TheVariants as status
use Rattle.yr_outcome.specs.Texts.{line, at_line, gather_text, code_name, finding_text}

-- a status other than Done, and what is said
pub record Refusal : Type 0 where
  pub status : Status
  pub said : List ℕ

-- a refusal with this status and text
abbrev pub refusal : Status → List ℕ → Refusal
refusal s text = record { status = s; said = text }

-- the first fault of an image, or none
abbrev pub IsVerified : List ℕ → Option ImageFault → Type 0
IsVerified = IsAnswer

-- functions that read texts, tokens, expressions and images
pub record Reading : Type 0 where
  pub lexed : List ℕ → Result (List Token) LexFault
  pub unescaped : List ℕ → List ℕ
  pub parsed : Gathered → Result (List Declaration) GrammarFault
  pub readers : Readers
  pub verified : List ℕ → Option ImageFault

-- each answers what the definitions say
pub record IsReading (r : Reading) : Type 0 where
  pub lexes : IsLexing r.lexed
  pub unescapes : IsUnescaping r.unescaped
  pub parses : (g : Gathered) → IsParsed g (r.parsed g)
  pub reads : readers.Read r.readers
  pub verifies : (bytes : List ℕ) → IsVerified bytes (r.verified bytes)

-- what a rule file contributes: its namespace, its gathered tokens
pub record GatheredUnit : Type 0 where
  pub space : List ℕ
  pub gathered : Gathered

-- what one gives before what the rest gives, or the first refusal
abbrev pub with_first : {A E : Type 0} → Result A E → Result (List A) E → Result (List A) E
with_first (Err e) rest = Err e
with_first (Ok x) (Err e) = Err e
with_first (Ok x) (Ok xs) = Ok (x ∷ xs)

-- what each of them gives, or the first refusal
abbrev pub each_ok : {A B E : Type 0} → (A → Result B E) → List A → Result (List B) E
each_ok f [] = Ok []
each_ok f (x ∷ xs) = with_first (f x) (each_ok f xs)

-- a failed read has its own status
abbrev pub gather_refusal : WalkFault → Refusal
gather_refusal (Read name) = refusal status.ReadFault (gather_text (Read name))
gather_refusal (Lex file why) = refusal status.Rules (gather_text (Lex file why))
gather_refusal (Path file n) = refusal status.Rules (gather_text (Path file n))
gather_refusal (Cycle file n name) = refusal status.Rules (gather_text (Cycle file n name))
gather_refusal (Depth file n name) = refusal status.Rules (gather_text (Depth file n name))
gather_refusal (TextTooLong name) = refusal status.Rules (gather_text (TextTooLong name))

-- the name of a file, none past the last
abbrev pub name_in : Option File → List ℕ
name_in None = []
name_in (Some f) = f.name

-- the name of the file of a number
abbrev pub file_name : List File → ℕ → List ℕ
file_name files k = name_in (slice_get files k)

-- a fault of the grammar, at its file and line
abbrev pub grammar_refusal : List File → GrammarFault → Refusal
grammar_refusal files (Syntax file n) = refusal status.Rules (at_line (file_name files file) n (codes "Syntax"))
grammar_refusal files (TooDeep file n) = refusal status.Rules (at_line (file_name files file) n (codes "TooDeep"))

-- the files of a unit, none past the last
abbrev pub files_in : Option GatheredUnit → List File
files_in None = []
files_in (Some u) = u.gathered.files

-- the files of the unit of a number
abbrev pub files_of : List GatheredUnit → ℕ → List File
files_of units k = files_in (slice_get units k)

-- the name of a rule, none past the last
abbrev pub name_of : Option PlacedRule → List ℕ
name_of None = []
name_of (Some p) = p.rule.name

-- the name of the rule of a number in source order
abbrev pub rule_name : List UnitTree → ℕ → List ℕ
rule_name trees k = name_of (slice_get (rules_in (items_of trees)) k)

-- an import has its module named; the weight past the last rule has no place; each other finding has its rule
abbrev pub check_text : (file : List ℕ) → List UnitTree → PlainRefusal → Option ℕ → List ℕ
check_text file trees r (Some k) = at_line file r.line (finding_text r.code (rule_name trees k) r.named r.place)
check_text file trees r None = without_rule r.code
  where
    without_rule : Code → List ℕ
    without_rule code.UnknownModule = at_line file r.line (codes "UnknownModule " ++ r.named)
    without_rule c = line (code_name c)

-- what a check finds, at its file and line
abbrev pub check_refusal : List GatheredUnit → List UnitTree → PlainRefusal → Refusal
check_refusal units trees r = refusal status.Rules (check_text (file_name (files_of units r.unit) r.file) trees r r.rule)

-- what a word gives, as an external
abbrev pub external_of : Given → PlainExternal
external_of g = record { name = g.name; value = g.value }

-- `modules` are the modules' names, in the order in which they are looked for.
module _ (reading : Reading) (modules : List NamedModule) where
  -- the walk over a rule file and its includes
  abbrev pub source_walk : Files → Source → Walk
  source_walk files source = walk_of reading.lexed reading.unescaped files source.file

  -- a walk that gathered its tokens, as a unit of this namespace
  abbrev pub gathered_unit : List ℕ → Walk → Result GatheredUnit WalkFault
  gathered_unit space walk = by_answer walk.answer
    where
      by_answer : Result (List FileToken) WalkFault → Result GatheredUnit WalkFault
      by_answer (Ok tokens) = Ok (record { space = space; gathered = record { files = walk.after.files; tokens = tokens } })
      by_answer (Err why) = Err why

  -- the gathered rule files, or the first fault
  abbrev pub gathered_units : Files → List Source → Result (List GatheredUnit) WalkFault
  gathered_units files sources = each_ok (λ s. gathered_unit s.space (source_walk files s)) sources

  -- there is no refusal
  abbrev pub is_ok : {A E : Type 0} → Result A E → Bool
  is_ok (Ok x) = true
  is_ok (Err e) = false

  -- the names that are read for rule files, in order, up to and with the first file that cannot be gathered
  abbrev pub names_read : Files → List Source → List (List ℕ)
  names_read files [] = []
  names_read files (s ∷ ss) =
      (source_walk files s).after.reads ++ (if is_ok (source_walk files s).answer then names_read files ss else [])

  -- a unit with its declarations
  abbrev pub unit_tree : GatheredUnit → Result (List Declaration) GrammarFault → Result UnitTree Refusal
  unit_tree u (Ok declarations) = Ok (record { space = u.space; declarations = declarations })
  unit_tree u (Err fault) = Err (grammar_refusal u.gathered.files fault)

  -- the declarations of each unit, or the first fault of the grammar
  abbrev pub unit_trees : List GatheredUnit → Result (List UnitTree) Refusal
  unit_trees units = each_ok (λ u. unit_tree u (reading.parsed u.gathered)) units

  -- what the checks are made with
  abbrev pub given_for : List Given → checks.Given
  given_for givens = record { readers = reading.readers; modules = modules; externals = map external_of givens }

  -- the checked rules, or what a check finds
  abbrev pub with_checks : List GatheredUnit → List UnitTree → Result PlainRules PlainRefusal → Result PlainRules Refusal
  with_checks units trees (Ok rules) = Ok rules
  with_checks units trees (Err r) = Err (check_refusal units trees r)

  -- the checks on what was parsed
  abbrev pub with_trees : List Given → List GatheredUnit → Result (List UnitTree) Refusal → Result PlainRules Refusal
  with_trees givens units (Err r) = Err r
  with_trees givens units (Ok trees) = with_checks units trees (resolved (given_for givens) trees)

  -- the grammar and the checks on what was gathered
  abbrev pub with_units : List Given → Result (List GatheredUnit) WalkFault → Result PlainRules Refusal
  with_units givens (Err why) = Err (gather_refusal why)
  with_units givens (Ok units) = with_trees givens units (unit_trees units)

  -- the rules of these files with these externals, or the first refusal
  abbrev pub rules_of : Files → List Source → List Given → Result PlainRules Refusal
  rules_of files sources givens = with_units givens (gathered_units files sources)
