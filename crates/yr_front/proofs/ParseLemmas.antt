-- The grammar's answer to gathered tokens is the one that was read.
use Rattle.std.proofs.Common.{◌≡◌, ℕ, List, Result, Ok, Err, ap}
use Rattle.yr_lexer.specs.Sources.{Gathered}
use Rattle.yr_syntax.specs.Declaration.{Declaration}
use Rattle.yr_parser.specs.declared.fault.ParseFault.{ParseFault}
use Rattle.yr_parser.specs.declared.fault.ParseFault.TheVariants as parse_fault
use Rattle.yr_parser.specs.Answers.{Explains}
use Rattle.yr_parser.specs.Declarations.{Spells}
use Rattle.yr_parser.specs.Parsing.{GrammarFault, Syntax, TooDeep, IsParsed}
use Rattle.yr_parser.specs.Refusals.{OneAnswer, IsSyntax, NestsTooDeep}
use Rattle.yr_parser.specs.Spelling.{places_of, terminals_of}
use Rattle.yr_outcome.specs.declared.answer.Answer.{Answer}
use Rattle.yr_outcome.specs.declared.answer.Answer.TheVariants as answer
use Rattle.yr_outcome.specs.declared.status.Status.TheVariants as status
use Rattle.yr_outcome.specs.Front.{Refusal, refusal}
use Rattle.yr_front.specs.Units.{FitsParseFault, RefusesAs}

module _ (g : Gathered) (one : OneAnswer (places_of g) (terminals_of g)) where
  pub parsed-ok : (r : Result (List Declaration) GrammarFault) (ds : List Declaration) → IsParsed g r → Spells (places_of g) (terminals_of g) ds → r ≡ Ok ds
  parsed-ok (Ok es) ds is h = ap Ok (one.one_reading es ds is h)
  parsed-ok (Err (Syntax f l)) ds is h = absurd (one.no_syntax ds is.0 f l h is.1)
  parsed-ok (Err (TooDeep f l)) ds is h = absurd (one.no_deep ds is.0 f l h is.1)

  parsed-syntax : (r : Result (List Declaration) GrammarFault) (n f l : ℕ) → IsParsed g r → IsSyntax (places_of g) (terminals_of g) n f l → r ≡ Err (Syntax f l)
  parsed-syntax (Ok es) n f l is h = absurd (one.no_syntax es n f l is h)
  parsed-syntax (Err (Syntax e k)) n f l is h =
      let same = one.one_syntax is.0 e k n f l is.1 h in
      λ i. Err (Syntax (same.1 i) (same.2 i))
  parsed-syntax (Err (TooDeep e k)) n f l is h = absurd (one.syntax_or_deep n f l is.0 e k h is.1)

  parsed-deep : (r : Result (List Declaration) GrammarFault) (n f l : ℕ) → IsParsed g r → NestsTooDeep (places_of g) (terminals_of g) n f l → r ≡ Err (TooDeep f l)
  parsed-deep (Ok es) n f l is h = absurd (one.no_deep es n f l is h)
  parsed-deep (Err (Syntax e k)) n f l is h = absurd (one.syntax_or_deep is.0 e k n f l is.1 h)
  parsed-deep (Err (TooDeep e k)) n f l is h =
      let same = one.one_deep is.0 e k n f l is.1 h in
      λ i. Err (TooDeep (same.1 i) (same.2 i))

  pub parsed-fault : (r : Result (List Declaration) GrammarFault) (why : ParseFault) → IsParsed g r → Explains (places_of g) (terminals_of g) why → FitsParseFault r why
  parsed-fault r (parse_fault.Syntax n f l) is h = parsed-syntax r n f l is h
  parsed-fault r (parse_fault.TooDeep n f l) is h = parsed-deep r n f l is h
  parsed-fault r parse_fault.NoMemory is h = tt

-- what is refused for one is refused for all
pub refuses-all : {A B : Type 0} (one : Result A Refusal) (all : Result B Refusal) (a : Answer) → ((e : Refusal) → one ≡ Err e → all ≡ Err e) → RefusesAs one a → RefusesAs all a
refuses-all one all (answer.Refused s text) f h = (h.0, f (refusal status.Rules text.items) h.1)
refuses-all one all answer.NoMemory f h = tt
refuses-all one all answer.Done f h = absurd h
refuses-all one all (answer.Unread name) f h = absurd h
refuses-all one all (answer.UnreadFile name) f h = absurd h
refuses-all one all (answer.Unwritten output) f h = absurd h
