-- Each list of terminals has an answer: declarations are read from the front, as long as there are some.
use Rattle.std.proofs.Common.{◌≡◌, ℕ, ◌+◌, ◌≤◌, ◌<◌, zero, suc, Bool, true, false, List, [], ◌∷◌, ◌++◌, length, Option, Some, None, Result, Ok, Err, refl, arith}
use Rattle.yr_syntax.specs.Declaration.{Declaration}
use Rattle.yr_parser.specs.Terminals.{Terminals}
use Rattle.yr_parser.specs.Depth.{deep_from}
use Rattle.yr_parser.specs.Declarations.{Places, ReadsDeclarations, end}
use Rattle.yr_parser.specs.Ruling.{read_declaration}
use Rattle.yr_parser.specs.Parsing.{GrammarFault, Syntax, TooDeep, IsAnswer}
use Rattle.yr_parser.proofs.Deep.{test-false, test-true}
use Rattle.yr_parser.proofs.RuleComplete.{declaration-shorter}
use Rattle.yr_parser.proofs.Whole.{one-more, declaration-found, declaration-none, not-empty}

module _ (places : Places) (k : Terminals) where
  -- the terminals have an answer
  abbrev Answered : Type 0
  Answered = (answer : Result (List Declaration) GrammarFault) × IsAnswer places k answer

  too-deep : (rest : Terminals) (ds : List Declaration) → ReadsDeclarations places k ds rest → 0 < length rest → deep_from 0 0 rest ≡ true → Answered
  too-deep rest ds r some deep = (
    Err (TooDeep (places.file (length rest)) (places.line (length rest))),
    (
      length ds + 1,
      record {
        declarations = ds;
        rest = rest;
        before = r;
        counted = refl;
        in_file = refl;
        on_line = refl;
        some = not-empty rest some;
        deep = test-true rest deep;
      },
    ),
  )

  no-reading : (rest : Terminals) (ds : List Declaration) → ReadsDeclarations places k ds rest → 0 < length rest → deep_from 0 0 rest ≡ false → read_declaration places 65 rest ≡ None → Answered
  no-reading rest ds r some shallow e = (
    Err (Syntax (places.file (length rest)) (places.line (length rest))),
    (
      length ds + 1,
      record {
        declarations = ds;
        rest = rest;
        before = r;
        counted = refl;
        in_file = refl;
        on_line = refl;
        some = not-empty rest some;
        shallow = test-false rest shallow;
        none = declaration-none places rest e shallow;
      },
    ),
  )

  -- after the declarations read so far
  answered-from : (n : ℕ) (rest : Terminals) (ds : List Declaration) → length rest ≤ n → ReadsDeclarations places k ds rest → Answered
  answered-from n [] ds h r = (Ok ds, r)
  answered-from zero (t ∷ ts) ds h r = absurd (omega arith)
  answered-from (suc n) (t ∷ ts) ds h r = by-depth (λ d more short reads. answered-from n more (ds ++ d ∷ []) short reads) (deep_from 0 0 (t ∷ ts)) refl
    where
      by-reading : ((d : Declaration) (more : Terminals) → length more ≤ n → ReadsDeclarations places k (ds ++ d ∷ []) more → Answered)
          → deep_from 0 0 (t ∷ ts) ≡ false → (o : Option (Declaration × Terminals)) → read_declaration places 65 (t ∷ ts) ≡ o → Answered
      by-reading next shallow None e = no-reading (t ∷ ts) ds r (omega arith) shallow e
      by-reading next shallow (Some (d, more)) e =
          let one = declaration-found places (t ∷ ts) more d e in
          let short = declaration-shorter places one in
          next d more (omega arith) (one-more places r (test-false (t ∷ ts) shallow) one)

      by-depth : ((d : Declaration) (more : Terminals) → length more ≤ n → ReadsDeclarations places k (ds ++ d ∷ []) more → Answered)
          → (b : Bool) → deep_from 0 0 (t ∷ ts) ≡ b → Answered
      by-depth next true e = too-deep (t ∷ ts) ds r (omega arith) e
      by-depth next false e = by-reading next e (read_declaration places 65 (t ∷ ts)) refl

  pub answered : Answered
  answered = answered-from (length k) k [] (omega arith) end
