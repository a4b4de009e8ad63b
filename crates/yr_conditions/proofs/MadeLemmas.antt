-- Parts that are there, and runs of prefix operators.
use Rattle.std.proofs.Common.{◌≡◌, ℕ, zero, suc, ◌<◌, Bool, List, [], ◌∷◌, ◌++◌, length, map, sym, ap, ◌∙◌, arith, Some, None, Option}
use Rattle.std.specs.Option.{option_map}
use Rattle.yr_syntax.specs.declared.operator.PrefixOp.{PrefixOp}
use Rattle.yr_syntax.specs.Condition as tree
use Rattle.yr_syntax.specs.Condition.{Condition}
use Rattle.yr_values.specs.Values.{kind_of}
use Rattle.yr_rules.specs.declared.external.External.{External}
use Rattle.yr_rules.specs.declared.external.ExternalValue.{ExternalValue}
use Rattle.yr_rules.specs.declared.external.ExternalValue.TheVariants as given
use Rattle.yr_rules.specs.Kinds.{external_kind}
use Rattle.yr_rules.specs.NodeTree.{NodeTree, Prefix}
use Rattle.yr_rules.specs.Rules.{external_of, external_value}
use Rattle.yr_conditions.specs.Meanings.{Around, Scope}
use Rattle.yr_conditions.specs.Nodes.{of_two}
use Rattle.yr_conditions.specs.Readers.{Readers}
use Rattle.yr_conditions.specs.Shapes.{shape_of}
use Rattle.yr_conditions.specs.NodeViews.{wrapped}
use Rattle.yr_conditions.proofs.PartLemmas.{wrapped-last, wrapped-more}

pub two-there : {A B C : Type 0} (f : A → B → C) (a : A) (b : B) (oa : Option A) (ob : Option B) → oa ≡ Some a → ob ≡ Some b → Some (f a b) ≡ of_two f oa ob
two-there f a b oa ob e g = sym (ap (λ x. of_two f x ob) e ∙ ap (option_map (f a)) g)

-- each external has a kind
pub external-there : (xs : List External) (k : ℕ) → k < length xs → external_kind (map external_of xs) k ≡ None → ⊥
external-there [] k h e = absurd (omega (arith, h))
external-there (x ∷ xs) zero h e = by x.value e
  where
    by : (v : ExternalValue) → kind_of (external_value v) ≡ None → ⊥
    by (given.Number n) f = absurd cc
    by (given.Flag b) f = absurd cc
    by (given.Text t) f = absurd cc
external-there (x ∷ xs) (suc k) h e = external-there xs k (omega (arith, h)) e

pub prefix-step : (start op : PrefixOp) (ops new : List PrefixOp) (a b d : Condition) → b ≡ tree.Prefix op d → new ≡ ops ++ op ∷ []
    → ((exact : Bool) (readers : Readers) (around : Around) (scopes : List Scope) → option_map (Prefix start) (shape_of exact readers around a scopes) ≡ option_map (wrapped ops) (shape_of exact readers around b scopes))
    → (exact : Bool) (readers : Readers) (around : Around) (scopes : List Scope) → option_map (Prefix start) (shape_of exact readers around a scopes) ≡ option_map (wrapped new) (shape_of exact readers around d scopes)
prefix-step start op ops new a b d is more so exact readers around scopes =
    let s = λ (x : Condition). shape_of exact readers around x scopes in
    so exact readers around scopes
    ∙ ap (λ (x : Condition). option_map (wrapped ops) (s x)) is
    ∙ sym (wrapped-more ops op (s d))
    ∙ ap (λ (l : List PrefixOp). option_map (wrapped l) (s d)) (sym more)

pub wrap-step : (ops rest : List PrefixOp) (op : PrefixOp) (inner whole end : NodeTree) → ops ≡ rest ++ op ∷ [] → inner ≡ whole → wrapped ops whole ≡ end → wrapped rest (Prefix op inner) ≡ end
wrap-step ops rest op inner whole end split same so = sym (wrapped-last rest op inner) ∙ ap (λ (l : List PrefixOp). wrapped l inner) (sym split) ∙ ap (wrapped ops) same ∙ so
