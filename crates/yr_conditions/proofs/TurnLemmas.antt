-- One turn of each loop of the walk: what is left loses its first element, and what is made gets one more.
use Rattle.std.proofs.Common.{◌≡◌, ℕ, suc, ◌+◌, ◌<◌, ◌≤◌, Bool, List, [], ◌∷◌, ◌++◌, length, get_or, drop, map, sym, ap, subst, ◌∙◌, arith, Some, None, Option, append_assoc}
use Rattle.std.proofs.Math.Seq.{drop-cons}
use Rattle.std.specs.Option.{option_map}
use Rattle.std.proofs.lemmas.List.{map-append}
use Rattle.yr_syntax.specs.declared.condition.Cond.{Cond}
use Rattle.yr_syntax.specs.declared.condition.Link.{Link}
use Rattle.yr_syntax.specs.declared.condition.PathStep.{PathStep}
use Rattle.yr_syntax.specs.declared.operator.Infix.{Infix}
use Rattle.yr_syntax.specs.Condition as tree
use Rattle.yr_syntax.specs.Forms.{HasForms, LinksHaveForms, ItemsHaveForms, StepsHaveForms, height_limit}
use Rattle.yr_syntax.specs.Height.{height, links_height, items_height, steps_height}
use Rattle.yr_syntax.proofs.CallerLemmas as caller
use Rattle.yr_rules.specs.declared.node.Node.{Node}
use Rattle.yr_rules.specs.declared.node.NodeLink.{NodeLink}
use Rattle.yr_rules.specs.NodeTree.{NodeTree, NodeLinks, NodeItems, OneLink, tree_of, link_of, links_of, items_of}
use Rattle.yr_rules.proofs.CallerLemmas.{link_of-same}
use Rattle.yr_conditions.specs.Meanings.{Around, Scope, Meaning}
use Rattle.yr_conditions.specs.Paths.{step_meaning}
use Rattle.yr_conditions.specs.Nodes.{items_node}
use Rattle.yr_conditions.specs.Readers.{Readers}
use Rattle.yr_conditions.specs.Shapes.{shape_of, links_shape, each_shape, steps_shape}
use Rattle.yr_conditions.specs.Steps.{OneHasForms, one_height, one_written}
use Rattle.yr_conditions.specs.NodeViews.{linked, listed, written_of}
use Rattle.yr_conditions.proofs.PartLemmas.{linked-end, listed-end, links-more, links-none, items-more, items-none, steps-shape, step-low, rest-low, step-forms}

-- what is left begins with the element that the turn takes
pub split : {A : Type 0} (xs : List A) (i : ℕ) (x : A) → i < length xs → x ≡ get_or xs i x → drop i xs ≡ x ∷ drop (i + 1) xs
split xs i x within is =
    let next : suc i ≡ i + 1 = omega arith in
    drop-cons xs i x within ∙ ap (λ y. y ∷ drop (suc i) xs) (sym is) ∙ ap (λ (k : ℕ). x ∷ drop k xs) next

-- operators: forms, height, and what is made
abbrev LinksTree : List Link → tree.Links
LinksTree ls = tree.links_of (map tree.link_of ls)

pub link-forms : (d rest : List Link) (k : Link) → d ≡ k ∷ rest → LinksHaveForms (tree.links_of (map tree.link_of d))
    → HasForms (tree.tree_of k.operand) × LinksHaveForms (tree.links_of (map tree.link_of rest))
link-forms d rest k e f =
    let g : HasForms (tree.link_of k).operand × LinksHaveForms (LinksTree rest) = subst (λ (x : List Link). LinksHaveForms (LinksTree x)) e f in
    (subst (λ (x : tree.OneLink). HasForms x.operand) (caller.link_of-same k) g.0, g.1)

pub link-low : (d rest : List Link) (k : Link) (n : ℕ) → d ≡ k ∷ rest → links_height (tree.links_of (map tree.link_of d)) + n ≤ height_limit
    → (height (tree.tree_of k.operand) + n ≤ height_limit) × (links_height (tree.links_of (map tree.link_of rest)) + n ≤ height_limit)
link-low d rest k n e l =
    let g : links_height (LinksTree (k ∷ rest)) + n ≤ height_limit = subst (λ (x : List Link). links_height (LinksTree x) + n ≤ height_limit) e l in
    let h : height (tree.link_of k).operand ≡ height (tree.tree_of k.operand) = ap (λ (x : tree.OneLink). height x.operand) (caller.link_of-same k) in
    (omega (arith, g, h), omega (arith, g))

module _ (exact : Bool) (readers : Readers) (around : Around) where
  link-shape : (d rest : List Link) (k : Link) (scopes : List Scope) → d ≡ k ∷ rest
      → links_shape exact readers around (tree.links_of (map tree.link_of d)) scopes
      ≡ links_shape exact readers around (tree.link k.op (tree.tree_of k.operand) (tree.links_of (map tree.link_of rest))) scopes
  link-shape d rest k scopes e =
      ap (λ (x : List Link). links_shape exact readers around (tree.links_of (map tree.link_of x)) scopes) e
      ∙ ap (λ (x : tree.OneLink). links_shape exact readers around (tree.link x.op x.operand (tree.links_of (map tree.link_of rest))) scopes) (caller.link_of-same k)

  pub link-turn : (d rest : List Link) (k : Link) (scopes : List Scope) (all new : List NodeLink) (made : NodeLink) (whole : Option NodeLinks)
      → d ≡ k ∷ rest → new ≡ all ++ made ∷ [] → made.op ≡ k.op → Some (tree_of made.operand) ≡ shape_of exact readers around (tree.tree_of k.operand) scopes
      → option_map (linked (map link_of all)) (links_shape exact readers around (tree.links_of (map tree.link_of d)) scopes) ≡ whole
      → option_map (linked (map link_of new)) (links_shape exact readers around (tree.links_of (map tree.link_of rest)) scopes) ≡ whole
  link-turn d rest k scopes all new made whole e more op is so =
      let r = links_shape exact readers around (tree.links_of (map tree.link_of rest)) scopes in
      let one : link_of made ≡ record { op = k.op; operand = tree_of made.operand } =
      link_of-same made ∙ ap (λ (x : Infix). record { op = x; operand = tree_of made.operand }) op in
      let ends : map link_of new ≡ map link_of all ++ record { op = k.op; operand = tree_of made.operand } ∷ [] =
      ap (map link_of) more ∙ map-append link_of all (made ∷ []) ∙ ap (λ (x : OneLink). map link_of all ++ x ∷ []) one in
      ap (λ (l : List OneLink). option_map (linked l) r) ends
      ∙ sym (links-more (map link_of all) k.op (tree_of made.operand) (shape_of exact readers around (tree.tree_of k.operand) scopes) r (sym is))
      ∙ sym (ap (option_map (linked (map link_of all))) (link-shape d rest k scopes e))
      ∙ so

  pub link-stop : (d rest : List Link) (k : Link) (scopes : List Scope) (all : List NodeLink) (whole : Option NodeLinks)
      → d ≡ k ∷ rest → None ≡ shape_of exact readers around (tree.tree_of k.operand) scopes
      → option_map (linked (map link_of all)) (links_shape exact readers around (tree.links_of (map tree.link_of d)) scopes) ≡ whole → None ≡ whole
  link-stop d rest k scopes all whole e is so =
      let r = links_shape exact readers around (tree.links_of (map tree.link_of rest)) scopes in
      sym (links-none (map link_of all) k.op (shape_of exact readers around (tree.tree_of k.operand) scopes) r (sym is))
      ∙ sym (ap (option_map (linked (map link_of all))) (link-shape d rest k scopes e))
      ∙ so

  pub link-end : (d : List Link) (scopes : List Scope) (all : List NodeLink) (whole : Option NodeLinks)
      → d ≡ [] → option_map (linked (map link_of all)) (links_shape exact readers around (tree.links_of (map tree.link_of d)) scopes) ≡ whole
      → Some (links_of (map link_of all)) ≡ whole
  link-end d scopes all whole e so =
      ap Some (sym (linked-end (map link_of all)))
      ∙ sym (ap (λ (x : List Link). option_map (linked (map link_of all)) (links_shape exact readers around (tree.links_of (map tree.link_of x)) scopes)) e)
      ∙ so

-- items
pub item-forms : (d rest : List Cond) (k : Cond) → d ≡ k ∷ rest → ItemsHaveForms (tree.items_of (map tree.tree_of d)) → HasForms (tree.tree_of k) × ItemsHaveForms (tree.items_of (map tree.tree_of rest))
item-forms d rest k e f = subst (λ (x : List Cond). ItemsHaveForms (tree.items_of (map tree.tree_of x))) e f

pub item-low : (d rest : List Cond) (k : Cond) (n : ℕ) → d ≡ k ∷ rest → items_height (tree.items_of (map tree.tree_of d)) + n ≤ height_limit
    → (height (tree.tree_of k) + n ≤ height_limit) × (items_height (tree.items_of (map tree.tree_of rest)) + n ≤ height_limit)
item-low d rest k n e l =
    let g : items_height (tree.items_of (map tree.tree_of (k ∷ rest))) + n ≤ height_limit = subst (λ (x : List Cond). items_height (tree.items_of (map tree.tree_of x)) + n ≤ height_limit) e l in
    (omega (arith, g), omega (arith, g))

module _ (exact : Bool) (readers : Readers) (around : Around) where
  item-shape : (d rest : List Cond) (k : Cond) (scopes : List Scope) → d ≡ k ∷ rest
      → each_shape exact readers around (tree.items_of (map tree.tree_of d)) scopes
      ≡ shape_of exact readers around (tree.tree_of k) scopes ∷ each_shape exact readers around (tree.items_of (map tree.tree_of rest)) scopes
  item-shape d rest k scopes e = ap (λ (x : List Cond). each_shape exact readers around (tree.items_of (map tree.tree_of x)) scopes) e

  pub item-turn : (d rest : List Cond) (k : Cond) (scopes : List Scope) (all new : List Node) (made : Node) (whole : Option NodeItems)
      → d ≡ k ∷ rest → new ≡ all ++ made ∷ [] → Some (tree_of made) ≡ shape_of exact readers around (tree.tree_of k) scopes
      → option_map (listed (map tree_of all)) (items_node (each_shape exact readers around (tree.items_of (map tree.tree_of d)) scopes)) ≡ whole
      → option_map (listed (map tree_of new)) (items_node (each_shape exact readers around (tree.items_of (map tree.tree_of rest)) scopes)) ≡ whole
  item-turn d rest k scopes all new made whole e more is so =
      let r = each_shape exact readers around (tree.items_of (map tree.tree_of rest)) scopes in
      let ends : map tree_of new ≡ map tree_of all ++ tree_of made ∷ [] = ap (map tree_of) more ∙ map-append tree_of all (made ∷ []) in
      ap (λ (l : List NodeTree). option_map (listed l) (items_node r)) ends
      ∙ sym (items-more (map tree_of all) (tree_of made) (shape_of exact readers around (tree.tree_of k) scopes) r (sym is))
      ∙ sym (ap (λ (x : List (Option NodeTree)). option_map (listed (map tree_of all)) (items_node x)) (item-shape d rest k scopes e))
      ∙ so

  pub item-stop : (d rest : List Cond) (k : Cond) (scopes : List Scope) (all : List Node) (whole : Option NodeItems)
      → d ≡ k ∷ rest → None ≡ shape_of exact readers around (tree.tree_of k) scopes
      → option_map (listed (map tree_of all)) (items_node (each_shape exact readers around (tree.items_of (map tree.tree_of d)) scopes)) ≡ whole → None ≡ whole
  item-stop d rest k scopes all whole e is so =
      let r = each_shape exact readers around (tree.items_of (map tree.tree_of rest)) scopes in
      sym (items-none (map tree_of all) (shape_of exact readers around (tree.tree_of k) scopes) r (sym is))
      ∙ sym (ap (λ (x : List (Option NodeTree)). option_map (listed (map tree_of all)) (items_node x)) (item-shape d rest k scopes e))
      ∙ so

  pub item-end : (d : List Cond) (scopes : List Scope) (all : List Node) (whole : Option NodeItems)
      → d ≡ [] → option_map (listed (map tree_of all)) (items_node (each_shape exact readers around (tree.items_of (map tree.tree_of d)) scopes)) ≡ whole
      → Some (items_of (map tree_of all)) ≡ whole
  item-end d scopes all whole e so =
      ap Some (sym (listed-end (map tree_of all)))
      ∙ sym (ap (λ (x : List Cond). option_map (listed (map tree_of all)) (items_node (each_shape exact readers around (tree.items_of (map tree.tree_of x)) scopes))) e)
      ∙ so

  -- arguments, each as it is made
  pub each-turn : (d rest : List Cond) (k : Cond) (scopes : List Scope) (all new : List (Option Node)) (made : Option Node) (whole : List (Option NodeTree))
      → d ≡ k ∷ rest → new ≡ all ++ made ∷ [] → option_map tree_of made ≡ shape_of exact readers around (tree.tree_of k) scopes
      → written_of all ++ each_shape exact readers around (tree.items_of (map tree.tree_of d)) scopes ≡ whole
      → written_of new ++ each_shape exact readers around (tree.items_of (map tree.tree_of rest)) scopes ≡ whole
  each-turn d rest k scopes all new made whole e more is so =
      let r = each_shape exact readers around (tree.items_of (map tree.tree_of rest)) scopes in
      ap (λ (l : List (Option NodeTree)). l ++ r) (ap written_of more ∙ map-append (option_map tree_of) all (made ∷ []))
      ∙ append_assoc (written_of all) (option_map tree_of made ∷ []) r
      ∙ ap (λ (x : Option NodeTree). written_of all ++ x ∷ r) is
      ∙ sym (ap (λ (x : List (Option NodeTree)). written_of all ++ x) (item-shape d rest k scopes e))
      ∙ so

-- parts of a path
pub step-turn-forms : (d rest : List PathStep) (s : PathStep) → d ≡ s ∷ rest → StepsHaveForms (tree.steps_of (map tree.step_of d))
    → OneHasForms (tree.step_of s) × StepsHaveForms (tree.steps_of (map tree.step_of rest))
step-turn-forms d rest s e f =
    step-forms (tree.step_of s) (map tree.step_of rest) (subst (λ (x : List PathStep). StepsHaveForms (tree.steps_of (map tree.step_of x))) e f)

pub step-turn-low : (d rest : List PathStep) (s : PathStep) (n : ℕ) → d ≡ s ∷ rest → steps_height (tree.steps_of (map tree.step_of d)) + n ≤ height_limit
    → (one_height (tree.step_of s) + n ≤ height_limit) × (steps_height (tree.steps_of (map tree.step_of rest)) + n ≤ height_limit)
step-turn-low d rest s n e l =
    let g : steps_height (tree.steps_of (map tree.step_of (s ∷ rest))) + n ≤ height_limit = subst (λ (x : List PathStep). steps_height (tree.steps_of (map tree.step_of x)) + n ≤ height_limit) e l in
    let a = step-low (tree.step_of s) (map tree.step_of rest) in let b = rest-low (tree.step_of s) (map tree.step_of rest) in
    (omega (arith, g, a), omega (arith, g, b))

module _ (exact : Bool) (readers : Readers) (around : Around) where
  pub step-turn : (d rest : List PathStep) (s : PathStep) (scopes : List Scope) (m new : Meaning) (written more : List (Option NodeTree)) (whole : Option NodeTree)
      → d ≡ s ∷ rest → new ≡ step_meaning (tree.step_of s) m → more ≡ one_written exact readers around (tree.step_of s) written scopes
      → steps_shape exact readers around (tree.steps_of (map tree.step_of d)) m written scopes ≡ whole
      → steps_shape exact readers around (tree.steps_of (map tree.step_of rest)) new more scopes ≡ whole
  step-turn d rest s scopes m new written more whole e means last so =
      let r = tree.steps_of (map tree.step_of rest) in
      ap (λ (x : Meaning). steps_shape exact readers around r x more scopes) means
      ∙ ap (λ (x : List (Option NodeTree)). steps_shape exact readers around r (step_meaning (tree.step_of s) m) x scopes) last
      ∙ sym (steps-shape exact readers around (tree.step_of s) (map tree.step_of rest) m written scopes)
      ∙ sym (ap (λ (x : List PathStep). steps_shape exact readers around (tree.steps_of (map tree.step_of x)) m written scopes) e)
      ∙ so

  pub step-end : (d : List PathStep) (scopes : List Scope) (m : Meaning) (written : List (Option NodeTree)) (whole : Option NodeTree)
      → d ≡ [] → steps_shape exact readers around (tree.steps_of (map tree.step_of d)) m written scopes ≡ whole
      → steps_shape exact readers around tree.no_step m written scopes ≡ whole
  step-end d scopes m written whole e so =
      sym (ap (λ (x : List PathStep). steps_shape exact readers around (tree.steps_of (map tree.step_of x)) m written scopes) e) ∙ so
