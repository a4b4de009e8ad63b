-- What the steps from rule files to checked rules answer.
use Rattle.std.specs.Prelude.{◌≡◌, ℕ, List, ◌++◌, Option, Result, Ok, Err, map, string_bytes}
use Rattle.yr_base.specs.Store.{Files}
use Rattle.yr_base.specs.Trace.{Entry}
use Rattle.yr_base.specs.Notes.{NotesAll, NotesSome, NotesFailure}
use Rattle.yr_lexer.specs.declared.fault.GatherFault.{GatherFault}
use Rattle.yr_lexer.specs.declared.fault.GatherFault.TheVariants as fault
use Rattle.yr_lexer.specs.Includes.{WalkFault, Lex, Path, Cycle, Depth, TextTooLong}
use Rattle.yr_syntax.specs.Declaration.{Declaration}
use Rattle.yr_parser.specs.declared.fault.ParseFault.{ParseFault}
use Rattle.yr_parser.specs.declared.fault.ParseFault.TheVariants as parse_fault
use Rattle.yr_parser.specs.Parsing.{GrammarFault, Syntax, TooDeep}
use Rattle.yr_values.specs.Names.{NamedModule}
use Rattle.yr_rules.specs.Rules.{PlainRules}
use Rattle.yr_words.specs.Commands.{Source}
use Rattle.yr_outcome.specs.declared.answer.Answer.{Answer}
use Rattle.yr_outcome.specs.declared.answer.Answer.TheVariants as answer
use Rattle.yr_outcome.specs.declared.status.Status.TheVariants as status
use Rattle.yr_lexer.specs.Sources.{File}
use Rattle.yr_outcome.specs.Texts.{gather_text}
use Rattle.yr_outcome.specs.Steps.{IsRefusalOf}
use Rattle.yr_outcome.specs.Front.{Refusal, refusal, Reading, GatheredUnit, gathered_units, names_read, grammar_refusal}
use Rattle.yr_front.specs.declared.unit.SourceUnit.{SourceUnit}

-- a gathered rule file
abbrev pub unit_shown : SourceUnit → GatheredUnit
unit_shown u = record { space = u.space.now; gathered = u.tokens }

-- these before what a list gives
abbrev pub behind : {A E : Type 0} → List A → Result (List A) E → Result (List A) E
behind xs (Ok ys) = Ok (xs ++ ys)
behind xs (Err e) = Err e

module _ (reading : Reading) (modules : List NamedModule) (files : Files) (sources : List Source) where
  -- gathering ends with this fault, and all its reads were noted
  abbrev pub IsUngathered : WalkFault → Option (List Entry) → Option (List Entry) → Type 0
  IsUngathered why old new =
      (gathered_units reading modules files sources ≡ Err why) × NotesAll old new (names_read reading modules files sources)

  -- A refusal is the fault of gathering. At a failed read the reads up to that one were noted, and at want of memory some of them.
  abbrev pub FitsUngathered : GatherFault → Option (List Entry) → Option (List Entry) → Type 0
  FitsUngathered (fault.Lex file why) old new = IsUngathered (Lex (string_bytes file) why) old new
  FitsUngathered (fault.Read name) old new = NotesFailure old new (names_read reading modules files sources) (string_bytes name)
  FitsUngathered (fault.Path file n) old new = IsUngathered (Path (string_bytes file) n) old new
  FitsUngathered (fault.Cycle file n name) old new = IsUngathered (Cycle (string_bytes file) n (string_bytes name)) old new
  FitsUngathered (fault.Depth file n name) old new = IsUngathered (Depth (string_bytes file) n (string_bytes name)) old new
  FitsUngathered (fault.TextTooLong name) old new = IsUngathered (TextTooLong (string_bytes name)) old new
  FitsUngathered fault.NoMemory old new = NotesSome old new (names_read reading modules files sources)

  -- all files were gathered, and all reads were noted
  pub record AreGathered (units : List GatheredUnit) (old new : Option (List Entry)) : Type 0 where
    pub gathered : gathered_units reading modules files sources ≡ Ok units
    pub noted : NotesAll old new (names_read reading modules files sources)

  -- so far these units were gathered, and these rule files are left
  pub record SoFar (rest : List Source) (units : List GatheredUnit) (old now : Option (List Entry)) : Type 0 where
    pub done : List (List ℕ)
    pub gathered : gathered_units reading modules files sources ≡ behind units (gathered_units reading modules files rest)
    pub names : names_read reading modules files sources ≡ done ++ names_read reading modules files rest
    pub noted : NotesAll old now done

-- the grammar's answer, where it is a refusal; want of memory says nothing
abbrev pub FitsParseFault : Result (List Declaration) GrammarFault → ParseFault → Type 0
FitsParseFault parsed (parse_fault.Syntax number file n) = parsed ≡ Err (Syntax file n)
FitsParseFault parsed (parse_fault.TooDeep number file n) = parsed ≡ Err (TooDeep file n)
FitsParseFault parsed parse_fault.NoMemory = Unit {0}

-- the refusal of rules that this is, unless there was no memory
abbrev pub RefusesAs : {A : Type 0} → Result A Refusal → Answer → Type 0
RefusesAs r (answer.Refused s text) = (s ≡ status.Rules) × (r ≡ Err (refusal status.Rules text.items))
RefusesAs r answer.NoMemory = Unit {0}
RefusesAs r a = ⊥

-- the answer that stands for a fault of gathering
abbrev pub IsUngatheredAnswer : GatherFault → Answer → Type 0
IsUngatheredAnswer (fault.Lex file why) a = IsRefusalOf status.Rules (gather_text (Lex (string_bytes file) why)) a
IsUngatheredAnswer (fault.Read name) a = a ≡ answer.UnreadFile name
IsUngatheredAnswer (fault.Path file n) a = IsRefusalOf status.Rules (gather_text (Path (string_bytes file) n)) a
IsUngatheredAnswer (fault.Cycle file n name) a = IsRefusalOf status.Rules (gather_text (Cycle (string_bytes file) n (string_bytes name))) a
IsUngatheredAnswer (fault.Depth file n name) a = IsRefusalOf status.Rules (gather_text (Depth (string_bytes file) n (string_bytes name))) a
IsUngatheredAnswer (fault.TextTooLong name) a = IsRefusalOf status.Rules (gather_text (TextTooLong (string_bytes name))) a
IsUngatheredAnswer fault.NoMemory a = a ≡ answer.NoMemory

-- the answer that stands for a fault of the grammar, where these files were gathered
abbrev pub IsGrammarAnswer : List File → ParseFault → Answer → Type 0
IsGrammarAnswer files (parse_fault.Syntax number file n) a = IsRefusalOf status.Rules (grammar_refusal files (Syntax file n)).said a
IsGrammarAnswer files (parse_fault.TooDeep number file n) a = IsRefusalOf status.Rules (grammar_refusal files (TooDeep file n)).said a
IsGrammarAnswer files parse_fault.NoMemory a = a ≡ answer.NoMemory

-- a refusal is what the rules are refused for
abbrev pub RefusedBy : Result PlainRules Refusal → Answer → Type 0
RefusedBy r (answer.Refused s text) = r ≡ Err (refusal s text.items)
RefusedBy r a = Unit {0}

-- a refusal of rules, or want of memory
abbrev pub IsRulesAnswer : Answer → Type 0
IsRulesAnswer (answer.Refused s text) = s ≡ status.Rules
IsRulesAnswer answer.NoMemory = Unit {0}
IsRulesAnswer a = ⊥
