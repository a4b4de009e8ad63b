-- Parts of conditions, one after another.
use Rattle.std.proofs.Common.{◌≡◌, ◌≤◌, Bool, List, [], ◌∷◌, ◌++◌, refl, sym, ap, ◌∙◌, arith, Some, None, Option}
use Rattle.std.specs.Option.{option_map}
use Rattle.yr_syntax.specs.declared.operator.Infix.{Infix}
use Rattle.yr_syntax.specs.declared.operator.PrefixOp.{PrefixOp}
use Rattle.yr_syntax.specs.Condition.{OneStep, Name, Index, Call, steps_of}
use Rattle.yr_syntax.specs.Forms.{StepsHaveForms}
use Rattle.yr_syntax.specs.Height.{steps_height}
use Rattle.yr_rules.specs.NodeTree.{NodeTree, NodeLinks, NodeItems, OneLink, Prefix, link, no_link, item, no_item, links_of, items_of}
use Rattle.yr_conditions.specs.Meanings.{Around, Scope, Meaning}
use Rattle.yr_conditions.specs.Paths.{step_meaning}
use Rattle.yr_conditions.specs.Nodes.{of_two, items_node}
use Rattle.yr_conditions.specs.Readers.{Readers}
use Rattle.yr_conditions.specs.Shapes.{steps_shape}
use Rattle.yr_conditions.specs.Steps.{OneHasForms, one_height, one_written}
use Rattle.yr_conditions.specs.NodeViews.{linked, listed, wrapped}

pub linked-last : (ls : List OneLink) (l : OneLink) (t : NodeLinks) → linked (ls ++ l ∷ []) t ≡ linked ls (link l.op l.operand t)
linked-last [] l t = refl
linked-last (k ∷ ls) l t = ap (link k.op k.operand) (linked-last ls l t)

pub linked-end : (ls : List OneLink) → linked ls no_link ≡ links_of ls
linked-end [] = refl
linked-end (k ∷ ls) = ap (link k.op k.operand) (linked-end ls)

pub listed-last : (ns : List NodeTree) (n : NodeTree) (t : NodeItems) → listed (ns ++ n ∷ []) t ≡ listed ns (item n t)
listed-last [] n t = refl
listed-last (m ∷ ns) n t = ap (item m) (listed-last ns n t)

pub listed-end : (ns : List NodeTree) → listed ns no_item ≡ items_of ns
listed-end [] = refl
listed-end (m ∷ ns) = ap (item m) (listed-end ns)

pub wrapped-last : (ops : List PrefixOp) (op : PrefixOp) (n : NodeTree) → wrapped (ops ++ op ∷ []) n ≡ wrapped ops (Prefix op n)
wrapped-last [] op n = refl
wrapped-last (o ∷ ops) op n = ap (Prefix o) (wrapped-last ops op n)

pub wrapped-more : (ops : List PrefixOp) (op : PrefixOp) (o : Option NodeTree) → option_map (wrapped (ops ++ op ∷ [])) o ≡ option_map (wrapped ops) (option_map (Prefix op) o)
wrapped-more ops op None = refl
wrapped-more ops op (Some n) = ap Some (wrapped-last ops op n)

-- a link that is there goes behind those before
pub links-more : (ls : List OneLink) (op : Infix) (n : NodeTree) (o : Option NodeTree) (rest : Option NodeLinks) → o ≡ Some n
    → option_map (linked ls) (of_two (link op) o rest) ≡ option_map (linked (ls ++ record { op = op; operand = n } ∷ [])) rest
links-more ls op n o rest e = ap (λ x. option_map (linked ls) (of_two (link op) x rest)) e ∙ by rest
  where
    by : (r : Option NodeLinks) → option_map (linked ls) (option_map (link op n) r) ≡ option_map (linked (ls ++ record { op = op; operand = n } ∷ [])) r
    by None = refl
    by (Some t) = ap Some (sym (linked-last ls (record { op = op; operand = n }) t))

pub links-none : (ls : List OneLink) (op : Infix) (o : Option NodeTree) (rest : Option NodeLinks) → o ≡ None → option_map (linked ls) (of_two (link op) o rest) ≡ None
links-none ls op o rest e = ap (λ x. option_map (linked ls) (of_two (link op) x rest)) e

pub items-more : (ns : List NodeTree) (n : NodeTree) (o : Option NodeTree) (rest : List (Option NodeTree)) → o ≡ Some n
    → option_map (listed ns) (items_node (o ∷ rest)) ≡ option_map (listed (ns ++ n ∷ [])) (items_node rest)
items-more ns n o rest e = ap (λ x. option_map (listed ns) (of_two item x (items_node rest))) e ∙ by (items_node rest)
  where
    by : (r : Option NodeItems) → option_map (listed ns) (option_map (item n) r) ≡ option_map (listed (ns ++ n ∷ [])) r
    by None = refl
    by (Some t) = ap Some (sym (listed-last ns n t))

pub items-none : (ns : List NodeTree) (o : Option NodeTree) (rest : List (Option NodeTree)) → o ≡ None → option_map (listed ns) (items_node (o ∷ rest)) ≡ None
items-none ns o rest e = ap (λ x. option_map (listed ns) (of_two item x (items_node rest))) e

pub steps-shape : (exact : Bool) (readers : Readers) (around : Around) (s : OneStep) (ss : List OneStep) (m : Meaning) (written : List (Option NodeTree)) (scopes : List Scope)
    → steps_shape exact readers around (steps_of (s ∷ ss)) m written scopes
    ≡ steps_shape exact readers around (steps_of ss) (step_meaning s m) (one_written exact readers around s written scopes) scopes
steps-shape exact readers around (Name w) ss m written scopes = refl
steps-shape exact readers around (Index c) ss m written scopes = refl
steps-shape exact readers around (Call cs) ss m written scopes = refl

pub step-low : (s : OneStep) (ss : List OneStep) → one_height s ≤ steps_height (steps_of (s ∷ ss))
step-low (Name w) ss = omega arith
step-low (Index c) ss = omega arith
step-low (Call cs) ss = omega arith

pub rest-low : (s : OneStep) (ss : List OneStep) → steps_height (steps_of ss) ≤ steps_height (steps_of (s ∷ ss))
rest-low (Name w) ss = omega arith
rest-low (Index c) ss = omega arith
rest-low (Call cs) ss = omega arith

pub step-forms : (s : OneStep) (ss : List OneStep) → StepsHaveForms (steps_of (s ∷ ss)) → OneHasForms s × StepsHaveForms (steps_of ss)
step-forms (Name w) ss f = (tt, f.1)
step-forms (Index c) ss f = (f.0, f.1)
step-forms (Call cs) ss f = (f.0, f.1)
