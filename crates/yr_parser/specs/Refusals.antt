-- The refusals of the grammar, each with its cause.
use Rattle.std.specs.Prelude.{◌≡◌, ◌≢◌, ℕ, ◌+◌, List, [], length}
use Rattle.yr_syntax.specs.Declaration.{Declaration}
use Rattle.yr_parser.specs.Terminals.{Terminals}
use Rattle.yr_parser.specs.Depth.{IsTooDeep}
use Rattle.yr_parser.specs.Declarations.{Places, OneDeclaration, ReadsDeclarations}

-- after so many declarations less one there are terminals, with the first at this place, which nest not too deep, and no front of them is a declaration
pub record IsSyntax (places : Places) (k : Terminals) (number file line : ℕ) : Type 0 where
  pub declarations : List Declaration
  pub rest : Terminals
  pub before : ReadsDeclarations places k declarations rest
  pub counted : number ≡ length declarations + 1
  pub in_file : file ≡ places.file (length rest)
  pub on_line : line ≡ places.line (length rest)
  pub some : rest ≢ []
  pub shallow : ¬ IsTooDeep rest
  pub none : (d : Declaration) (more : Terminals) → OneDeclaration places rest d more → ⊥

-- after so many declarations less one there are terminals, with the first at this place, and they nest too deep
pub record NestsTooDeep (places : Places) (k : Terminals) (number file line : ℕ) : Type 0 where
  pub declarations : List Declaration
  pub rest : Terminals
  pub before : ReadsDeclarations places k declarations rest
  pub counted : number ≡ length declarations + 1
  pub in_file : file ≡ places.file (length rest)
  pub on_line : line ≡ places.line (length rest)
  pub some : rest ≢ []
  pub deep : IsTooDeep rest

-- the terminals have one answer
pub record OneAnswer (places : Places) (k : Terminals) : Type 0 where
  pub one_reading : (ds ds' : List Declaration) → ReadsDeclarations places k ds [] → ReadsDeclarations places k ds' [] → ds ≡ ds'
  pub no_syntax : (ds : List Declaration) (n f l : ℕ) → ReadsDeclarations places k ds [] → IsSyntax places k n f l → ⊥
  pub no_deep : (ds : List Declaration) (n f l : ℕ) → ReadsDeclarations places k ds [] → NestsTooDeep places k n f l → ⊥
  pub syntax_or_deep : (n f l n' f' l' : ℕ) → IsSyntax places k n f l → NestsTooDeep places k n' f' l' → ⊥
  pub one_syntax : (n f l n' f' l' : ℕ) → IsSyntax places k n f l → IsSyntax places k n' f' l' → (n ≡ n') × (f ≡ f') × (l ≡ l')
  pub one_deep : (n f l n' f' l' : ℕ) → NestsTooDeep places k n f l → NestsTooDeep places k n' f' l' → (n ≡ n') × (f ≡ f') × (l ≡ l')
