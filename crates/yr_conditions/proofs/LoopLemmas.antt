-- Conditions behind loops, as the code puts them together.
use Rattle.std.proofs.Common.{◌≡◌, Bool, List, ◌∷◌, ap, ◌∙◌, Option}
use Rattle.yr_rules.specs.NodeTree.{NodeTree, NodeAsked, NodeDomain, NodeSet, ForOf, ForIn}
use Rattle.yr_syntax.specs.Condition as tree
use Rattle.yr_syntax.specs.Condition.{Condition, Asked, Domain, SetTree}
use Rattle.yr_name_tables.specs.Names.{Name}
use Rattle.yr_conditions.specs.Meanings.{Around, Scope, Members, opened}
use Rattle.yr_conditions.specs.Nodes.{of_two, of_three, set_node}
use Rattle.yr_conditions.specs.Readers.{Readers}
use Rattle.yr_conditions.specs.Shapes.{kept_set, shape_of, asked_shape, domain_shape}

module _ (exact : Bool) (readers : Readers) (around : Around) where
  -- a loop over members: its quantifier, its set, and its body inside
  pub for-of-made : (asked : Asked) (set : SetTree) (body : Condition) (scopes now inner : List Scope) (oa : Option NodeAsked) (s : NodeSet) (ob : Option NodeTree)
      → oa ≡ asked_shape exact readers around asked scopes → now ≡ scopes → s ≡ kept_set exact (set_node around set) → inner ≡ Members ∷ now → ob ≡ shape_of exact readers around body inner
      → of_two (λ q b. ForOf q s b) oa ob ≡ shape_of exact readers around (tree.ForOf asked set body) scopes
  for-of-made asked set body scopes now inner oa s ob ha hn hs hi hb =
      let kept = kept_set exact (set_node around set) in
      ap (λ (x : NodeSet). of_two (λ q b. ForOf q x b) oa ob) hs
      ∙ ap (λ x. of_two (λ q b. ForOf q kept b) x ob) ha
      ∙ ap (of_two (λ q b. ForOf q kept b) (asked_shape exact readers around asked scopes)) (hb ∙ ap (shape_of exact readers around body) (hi ∙ ap (λ (x : List Scope). Members ∷ x) hn))

  -- a loop by a variable: its quantifier, what it goes over, and its body inside
  pub for-in-made : (asked : Asked) (name : Name) (domain : Domain) (body : Condition) (scopes now then inner : List Scope) (own : Scope)
      (oa : Option NodeAsked) (od : Option NodeDomain) (ob : Option NodeTree)
      → oa ≡ asked_shape exact readers around asked scopes → now ≡ scopes → od ≡ domain_shape exact readers around domain now → then ≡ now
      → own ≡ opened around name domain then → inner ≡ own ∷ then → ob ≡ shape_of exact readers around body inner
      → of_three (λ q d b. ForIn q name d b) oa od ob ≡ shape_of exact readers around (tree.ForIn asked name domain body) scopes
  for-in-made asked name domain body scopes now then inner own oa od ob ha hn hd ht ho hi hb =
      let f = λ (q : NodeAsked) (d : NodeDomain) (b : NodeTree). ForIn q name d b in
      ap (λ x. of_three f x od ob) ha
      ∙ ap (λ x. of_three f (asked_shape exact readers around asked scopes) x ob) (hd ∙ ap (domain_shape exact readers around domain) hn)
      ∙ ap (of_three f (asked_shape exact readers around asked scopes) (domain_shape exact readers around domain scopes))
      (hb ∙ ap (shape_of exact readers around body) (hi ∙ ap (λ (x : Scope). x ∷ then) ho ∙ ap (λ (x : List Scope). opened around name domain x ∷ x) (ht ∙ hn)))
