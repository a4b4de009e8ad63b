-- What a function that reads a declaration ensures.
use Rattle.std.proofs.Common.{◌≡◌, ℕ, ◌+◌, ◌<◌, Bool, true, false, List, [], ◌∷◌, ◌++◌, map, length, suc, Result, Ok, Err, refl, sym, ap, subst, ◌∙◌}
use Rattle.std.specs.Prelude.{IfOk, IsErrOf}
use Rattle.yr_syntax.specs.declared.declaration.Decl.{Decl}
use Rattle.yr_syntax.specs.Declaration.{Declaration, declaration_of}
use Rattle.yr_parser.specs.declared.fault.Fault.{Fault}
use Rattle.yr_parser.specs.declared.fault.Fault.TheVariants as fault
use Rattle.yr_parser.specs.Terminals.{Terminals}
use Rattle.yr_parser.specs.Input.{Gives}
use Rattle.yr_parser.specs.Depth.{deep_from}
use Rattle.yr_parser.specs.Declarations.{Places, OneDeclaration, import, a_rule, ReadsDeclarations}
use Rattle.yr_parser.specs.Ruling.{read_declaration}
use Rattle.yr_parser.specs.Refusals.{IsSyntax, NestsTooDeep}
use Rattle.yr_parser.specs.Answers.{is_import}
use Rattle.yr_parser.proofs.Deep.{test-false, test-true}
use Rattle.yr_parser.proofs.RuleComplete.{declaration-shorter}
use Rattle.yr_parser.proofs.Whole.{one-more, declaration-found, declaration-none, import-deep, not-empty}

pub Gives-found : (places : Places) (res : Result Decl Fault) (k new : Terminals) → Gives declaration_of (read_declaration places 65 k) res new
    → IfOk res (λ d. OneDeclaration places k (declaration_of d) new)
Gives-found places (Ok d) k new g = declaration-found places k new (declaration_of d) g
Gives-found places (Err e) k new g = tt

pub Gives-none : (places : Places) (res : Result Decl Fault) (k new : Terminals) → Gives declaration_of (read_declaration places 65 k) res new → IsErrOf res fault.Syntax
    → deep_from 0 0 k ≡ false → (d : Declaration) (rest : Terminals) → OneDeclaration places k d rest → ⊥
Gives-none places (Ok x) k new g is shallow = cc
Gives-none places (Err fault.NoMemory) k new g is shallow = cc
Gives-none places (Err fault.Syntax) k new g is shallow = declaration-none places k g shallow

-- after an import the test says the same
import-clear : {places : Places} {k rest : Terminals} {d : Declaration} → OneDeclaration places k d rest → is_import d ≡ true → deep_from 0 0 k ≡ false → deep_from 0 0 rest ≡ false
import-clear {rest = rest} (import {t = t}) i e = sym (import-deep t rest) ∙ e
import-clear (a_rule r) i e = absurd cc

pub clear-after : (places : Places) (k rest : Terminals) (d : Declaration) (b : Bool) → OneDeclaration places k d rest → b ≡ is_import d → deep_from 0 0 k ≡ false
    → b ≡ true → deep_from 0 0 rest ≡ false
clear-after places k rest d b r e f h = import-clear r (sym e ∙ h) f

map-one : (ds : List Decl) (d : Decl) → map declaration_of (ds ++ d ∷ []) ≡ map declaration_of ds ++ declaration_of d ∷ []
map-one [] d = refl
map-one (x ∷ ds) d = ap (λ ys. declaration_of x ∷ ys) (map-one ds d)

map-many : (ds : List Decl) → length (map declaration_of ds) ≡ length ds
map-many [] = refl
map-many (x ∷ ds) = ap suc (map-many ds)

pub reads-one : (places : Places) (k more rest : Terminals) (ds after : List Decl) (d : Decl) → ReadsDeclarations places k (map declaration_of ds) more → deep_from 0 0 more ≡ false
    → OneDeclaration places more (declaration_of d) rest → after ≡ ds ++ d ∷ [] → ReadsDeclarations places k (map declaration_of after) rest
reads-one places k more rest ds after d r e o same =
    subst (λ (xs : List Declaration). ReadsDeclarations places k xs rest) (sym (map-one ds d) ∙ sym (ap (map declaration_of) same))
    (one-more places r (test-false more e) o)

pub smaller : (places : Places) (more rest : Terminals) (d : Declaration) → OneDeclaration places more d rest → length rest < length more
smaller places more rest d o = declaration-shorter places o

pub is-deep : (places : Places) (k rest : Terminals) (ds : List Decl) (n f l left : ℕ) → ReadsDeclarations places k (map declaration_of ds) rest → n ≡ length ds → left ≡ length rest → 0 < left
    → f ≡ places.file left → l ≡ places.line left → deep_from 0 0 rest ≡ true → NestsTooDeep places k (n + 1) f l
is-deep places k rest ds n f l left r e h some p q deep = record {
  declarations = map declaration_of ds;
  rest = rest;
  before = r;
  counted = ap (λ i. i + 1) (e ∙ sym (map-many ds));
  in_file = p ∙ ap places.file h;
  on_line = q ∙ ap places.line h;
  some = not-empty rest (subst (λ (i : ℕ). 0 < i) h some);
  deep = test-true rest deep;
}

pub is-syntax : (places : Places) (k rest : Terminals) (ds : List Decl) (n f l left : ℕ) → ReadsDeclarations places k (map declaration_of ds) rest → n ≡ length ds → left ≡ length rest → 0 < left
    → f ≡ places.file left → l ≡ places.line left → deep_from 0 0 rest ≡ false → ((d : Declaration) (more : Terminals) → OneDeclaration places rest d more → ⊥) → IsSyntax places k (n + 1) f l
is-syntax places k rest ds n f l left r e h some p q deep none = record {
  declarations = map declaration_of ds;
  rest = rest;
  before = r;
  counted = ap (λ i. i + 1) (e ∙ sym (map-many ds));
  in_file = p ∙ ap places.file h;
  on_line = q ∙ ap places.line h;
  some = not-empty rest (subst (λ (i : ℕ). 0 < i) h some);
  shallow = test-false rest deep;
  none = none;
}
