-- Declarations one after another: there is one reading, and the answers exclude one another.
use Rattle.std.proofs.Common.{◌≡◌, ◌≢◌, ℕ, ◌+◌, ◌<◌, false, List, [], ◌∷◌, ◌++◌, length, Some, None, refl, sym, ap, subst, ◌∙◌, arith}
use Rattle.yr_syntax.specs.Declaration.{Declaration}
use Rattle.yr_parser.specs.declared.sign.Sign.TheVariants as sign
use Rattle.yr_parser.specs.Terminals.{Terminals, Text, Sign}
use Rattle.yr_parser.specs.Depth.{IsTooDeep, deep_from}
use Rattle.yr_parser.specs.Declarations.{Places, OneDeclaration, ReadsDeclarations, end, declaration_then}
use Rattle.yr_parser.specs.Ruling.{read_declaration}
use Rattle.yr_parser.specs.Refusals.{IsSyntax, NestsTooDeep, OneAnswer}
use Rattle.yr_parser.proofs.Outcomes.{some_is}
use Rattle.yr_parser.proofs.Deep.{Shallow-always, deep-shallow}
use Rattle.yr_parser.proofs.RuleSound.{declaration-sound}
use Rattle.yr_parser.proofs.RuleComplete.{declaration-complete, declaration-shorter}

module _ (places : Places) where
  -- a declaration has one reading
  declaration-one : (k : Terminals) (x y : Declaration × Terminals) → OneDeclaration places k x.0 x.1 → OneDeclaration places k y.0 y.1 → x ≡ y
  declaration-one k x y r r' =
      let s = Shallow-always k (length k) 0 (omega arith) in
      some_is x y (sym (declaration-complete places r (length k) s) ∙ declaration-complete places r' (length k) s)

  nothing-here : (d : Declaration) (rest : Terminals) → OneDeclaration places [] d rest → ⊥
  nothing-here d rest h = let short = declaration-shorter places h in absurd (omega arith)

  pub one-more : {k more rest : Terminals} {ds : List Declaration} {d : Declaration} → ReadsDeclarations places k ds more → ¬ IsTooDeep more → OneDeclaration places more d rest
      → ReadsDeclarations places k (ds ++ d ∷ []) rest
  one-more end n r = declaration_then n r end
  one-more (declaration_then n' r' rs) n r = declaration_then n' r' (one-more rs n r)

  -- no declaration goes on from here
  abbrev Stops : Terminals → Type 0
  Stops k = (d : Declaration) (more : Terminals) → ¬ IsTooDeep k → OneDeclaration places k d more → ⊥

  abbrev Whole : Type 0
  Whole = List Declaration × Terminals

  all-one : {k a : Terminals} {ds : List Declaration} → ReadsDeclarations places k ds a → (b : Terminals) (ds' : List Declaration) → Stops a → Stops b → ReadsDeclarations places k ds' b
      → ◌≡◌ {A = Whole} (ds, a) (ds', b)
  all-one end b ds' stop stop' end = refl
  all-one end b ds' stop stop' (declaration_then n r rs) = absurd (stop _ _ n r)
  all-one (declaration_then n r rs) b ds' stop stop' end = absurd (stop' _ _ n r)
  all-one {a = a} (declaration_then {k = k} {more = more} {d = x} {ds = xs} n r rs) b ds' stop stop' (declaration_then {more = more'} {d = x'} {ds = xs'} n' r' rs') =
      let same = declaration-one k (x, more) (x', more') r r' in
      let rest = all-one rs b xs' stop stop' (subst (λ (y : Declaration × Terminals). ReadsDeclarations places y.1 xs' b) (sym same) rs') in
      ap (λ (y : Declaration × Terminals). (y.0 ∷ xs, a)) same ∙ ap (λ (w : Whole). (x' ∷ w.0, w.1)) rest

  nothing : Stops []
  nothing d more n h = nothing-here d more h

  module _ (k : Terminals) where
    stops-syntax : (n f l : ℕ) (s : IsSyntax places k n f l) → Stops s.rest
    stops-syntax n f l s d more h r = s.none d more r

    stops-deep : (n f l : ℕ) (s : NestsTooDeep places k n f l) → Stops s.rest
    stops-deep n f l s d more h r = h s.deep

    same-syntax : (n f l n' f' l' : ℕ) (s : IsSyntax places k n f l) (s' : IsSyntax places k n' f' l') → ◌≡◌ {A = Whole} (s.declarations, s.rest) (s'.declarations, s'.rest)
    same-syntax n f l n' f' l' s s' = all-one s.before s'.rest s'.declarations (stops-syntax n f l s) (stops-syntax n' f' l' s') s'.before

    same-deep : (n f l n' f' l' : ℕ) (s : NestsTooDeep places k n f l) (s' : NestsTooDeep places k n' f' l') → ◌≡◌ {A = Whole} (s.declarations, s.rest) (s'.declarations, s'.rest)
    same-deep n f l n' f' l' s s' = all-one s.before s'.rest s'.declarations (stops-deep n f l s) (stops-deep n' f' l' s') s'.before

    pub has_one_answer : OneAnswer places k
    has_one_answer = record {
      one_reading = λ ds ds' r r'. ap (λ (w : Whole). w.0) (all-one r [] ds' nothing nothing r');
      no_syntax = λ ds n f l r s. s.some (sym (ap (λ (w : Whole). w.1) (all-one r s.rest s.declarations nothing (stops-syntax n f l s) s.before)));
      no_deep = λ ds n f l r s. s.some (sym (ap (λ (w : Whole). w.1) (all-one r s.rest s.declarations nothing (stops-deep n f l s) s.before)));
      syntax_or_deep = λ n f l n' f' l' s s'.
          s.shallow (subst IsTooDeep (sym (ap (λ (w : Whole). w.1) (all-one s.before s'.rest s'.declarations (stops-syntax n f l s) (stops-deep n' f' l' s') s'.before))) s'.deep);
      one_syntax = λ n f l n' f' l' s s'.
          let e = same-syntax n f l n' f' l' s s' in (
            s.counted ∙ ap (λ (w : Whole). length w.0 + 1) e ∙ sym s'.counted,
            s.in_file ∙ ap (λ (w : Whole). places.file (length w.1)) e ∙ sym s'.in_file,
            s.on_line ∙ ap (λ (w : Whole). places.line (length w.1)) e ∙ sym s'.on_line,
          );
      one_deep = λ n f l n' f' l' s s'.
          let e = same-deep n f l n' f' l' s s' in (
            s.counted ∙ ap (λ (w : Whole). length w.0 + 1) e ∙ sym s'.counted,
            s.in_file ∙ ap (λ (w : Whole). places.file (length w.1)) e ∙ sym s'.in_file,
            s.on_line ∙ ap (λ (w : Whole). places.line (length w.1)) e ∙ sym s'.on_line,
          );
    }

  -- ---- what a reading function says of a declaration

  pub declaration-found : (k rest : Terminals) (d : Declaration) → read_declaration places 65 k ≡ Some (d, rest) → OneDeclaration places k d rest
  declaration-found k rest d e = declaration-sound places 65 k (d, rest) e

  pub declaration-none : (k : Terminals) → read_declaration places 65 k ≡ None → deep_from 0 0 k ≡ false → (d : Declaration) (more : Terminals) → OneDeclaration places k d more → ⊥
  declaration-none k e shallow d more r = let read = declaration-complete places r 64 (deep-shallow k 0 0 shallow) in cc

-- an import leaves the test as it is
pub import-deep : (t : List ℕ) (k : Terminals) → deep_from 0 0 (Sign sign.Import ∷ Text t ∷ k) ≡ deep_from 0 0 k
unfolding deep_from
import-deep t k = refl

pub not-empty : (k : Terminals) → 0 < length k → k ≢ []
not-empty [] h e = absurd (omega arith)
not-empty (t ∷ k) h e = cc
