-- A checked condition is no higher than the condition that it stands for.
use Rattle.std.proofs.Common.{◌≡◌, ℕ, ◌+◌, ◌≤◌, max, List, [], ◌∷◌, ap, arith, Some, Option}
use Rattle.yr_syntax.specs.Condition as tree
use Rattle.yr_syntax.specs.Condition.{Condition, Links, Steps, Items, Where, Asked, Domain}
use Rattle.yr_syntax.specs.Forms.{Each}
use Rattle.yr_syntax.specs.Height as tree_height
use Rattle.yr_rules.specs.NodeTree as node
use Rattle.yr_rules.specs.NodeTree.{NodeTree, NodeLinks, NodeItems, NodeWhere, NodeAsked, NodeDomain}
use Rattle.yr_rules.specs.Height.{height, links_height, items_height, where_height, asked_height, domain_height}
use Rattle.yr_conditions.specs.Readers.{Readers, expression_of}
use Rattle.yr_conditions.specs.Meanings as meaning
use Rattle.yr_conditions.specs.Meanings.{Around, Scope, Meaning, Index, meaning_of, path_meaning, then_name, then_index, then_call, count_of, opened}
use Rattle.yr_conditions.specs.Nodes.{set_node, string_ref, regex_node, value_node, entries_node, items_node, node_of, links_node, path_node, steps_node, each_node, place_node, asked_node, domain_node}
use Rattle.yr_checks.proofs.FitLemmas.{some-inj, map-some, two-some, three-some}

-- what is written last is no higher than this
abbrev AreLow : ℕ → List (Option NodeTree) → Type 0
AreLow h written = Each (λ o. (n : NodeTree) → o ≡ Some n → height n ≤ h) written

value-low : (m : Meaning) (written : List (Option NodeTree)) (h : ℕ) (n : NodeTree) → AreLow h written → value_node m written ≡ Some n → height n ≤ h + 1
value-low meaning.Unknown written h n w e = absurd cc
value-low meaning.Wrong written h n w e = absurd cc
value-low (meaning.Module m) written h n w e = absurd cc
value-low (meaning.Array m path count) written h n w e = absurd cc
value-low (meaning.Entry m path i) written h n w e = absurd cc
value-low (meaning.Function id kind) written h n w e = absurd cc
value-low (meaning.Constant k) written h n w e = let s = ap height (some-inj e) in omega arith
value-low (meaning.Field id kind meaning.NoIndex) written h n w e = let s = ap height (some-inj e) in omega arith
value-low (meaning.Field id kind (meaning.OfLoop k)) written h n w e = let s = ap height (some-inj e) in omega arith
value-low (meaning.Field id kind meaning.Written) [] h n w e = absurd cc
value-low (meaning.Field id kind meaning.Written) (o ∷ rest) h n w e =
    let s = map-some (node.FieldAt id kind) o n e in let a = w.0 s.0 s.1 in let b = ap height s.2 in omega arith
value-low (meaning.Result id kind) [] h n w e = absurd cc
value-low (meaning.Result id kind) (a ∷ []) h n w e = absurd cc
value-low (meaning.Result id kind) (a ∷ b ∷ []) h n w e =
    let s = two-some (node.Call id kind) a b n e in let x = w.0 s.0 s.2 in let y = w.1.0 s.1 s.3 in let z = ap height s.4 in omega arith
value-low (meaning.Result id kind) (a ∷ b ∷ c ∷ rest) h n w e = absurd cc
value-low (meaning.Variable k) written h n w e = let s = ap height (some-inj e) in omega arith
value-low (meaning.External k) written h n w e = let s = ap height (some-inj e) in omega arith
value-low (meaning.RuleTruth k) written h n w e = let s = ap height (some-inj e) in omega arith

entries-low : (m : Meaning) (d : NodeDomain) → entries_node m ≡ Some d → domain_height d ≤ 0
entries-low (meaning.Array m path count) d e = let s = ap domain_height (some-inj e) in omega arith
entries-low meaning.Unknown d e = absurd cc
entries-low meaning.Wrong d e = absurd cc
entries-low (meaning.Module m) d e = absurd cc
entries-low (meaning.Entry m path i) d e = absurd cc
entries-low (meaning.Function id kind) d e = absurd cc
entries-low (meaning.Constant n) d e = absurd cc
entries-low (meaning.Field id kind i) d e = absurd cc
entries-low (meaning.Result id kind) d e = absurd cc
entries-low (meaning.Variable k) d e = absurd cc
entries-low (meaning.External k) d e = absurd cc
entries-low (meaning.RuleTruth k) d e = absurd cc

module _ (readers : Readers) (around : Around) where
  mutual
    low : (c : Condition) (scopes : List Scope) (n : NodeTree) → node_of readers around c scopes ≡ Some n → height n ≤ tree_height.height c
    low (tree.Number k) scopes n e = let s = ap height (some-inj e) in omega arith
    low (tree.Text t) scopes n e = let s = ap height (some-inj e) in omega arith
    low (tree.Flag b) scopes n e = let s = ap height (some-inj e) in omega arith
    low tree.FileSize scopes n e = let s = ap height (some-inj e) in omega arith
    low (tree.Path steps) scopes n e = path-low steps scopes n e
    low (tree.Found name place) scopes n e =
        let s = two-some node.Found (string_ref around name scopes) (place_node readers around place scopes) n e in
        let a = place-low place scopes s.1 s.3 in let b = ap height s.4 in omega arith
    low (tree.Count name) scopes n e = let s = map-some node.Count (string_ref around name scopes) n e in let b = ap height s.2 in omega arith
    low (tree.CountIn name from to) scopes n e =
        let s = three-some node.CountIn (string_ref around name scopes) (node_of readers around from scopes) (node_of readers around to scopes) n e in
        let a = low from scopes s.1 s.4 in let b = low to scopes s.2 s.5 in let c = ap height s.6 in omega arith
    low (tree.Offset name) scopes n e = let s = map-some node.Offset (string_ref around name scopes) n e in let b = ap height s.2 in omega arith
    low (tree.OffsetAt name index) scopes n e =
        let s = two-some node.OffsetAt (string_ref around name scopes) (node_of readers around index scopes) n e in
        let a = low index scopes s.1 s.3 in let b = ap height s.4 in omega arith
    low (tree.Length name) scopes n e = let s = map-some node.Length (string_ref around name scopes) n e in let b = ap height s.2 in omega arith
    low (tree.LengthAt name index) scopes n e =
        let s = two-some node.LengthAt (string_ref around name scopes) (node_of readers around index scopes) n e in
        let a = low index scopes s.1 s.3 in let b = ap height s.4 in omega arith
    low (tree.Read reader at) scopes n e =
        let s = map-some (node.Read reader) (node_of readers around at scopes) n e in let a = low at scopes s.0 s.1 in let b = ap height s.2 in omega arith
    low (tree.Prefix op inner) scopes n e =
        let s = map-some (node.Prefix op) (node_of readers around inner scopes) n e in let a = low inner scopes s.0 s.1 in let b = ap height s.2 in omega arith
    low (tree.Chain first rest) scopes n e =
        let s = two-some node.Chain (node_of readers around first scopes) (links_node readers around rest scopes) n e in
        let a = low first scopes s.0 s.2 in let b = links-low rest scopes s.1 s.3 in let c = ap height s.4 in omega arith
    low (tree.Matches text regex) scopes n e =
        let s = two-some node.Matches (node_of readers around text scopes) (regex_node (expression_of readers regex)) n e in
        let a = low text scopes s.0 s.2 in let b = ap height s.4 in omega arith
    low (tree.Of asked set place) scopes n e =
        let s = two-some (λ q p. node.Of q (set_node around set) p) (asked_node readers around asked scopes) (place_node readers around place scopes) n e in
        let a = asked-low asked scopes s.0 s.2 in let b = place-low place scopes s.1 s.3 in let c = ap height s.4 in omega arith
    low (tree.ForOf asked set body) scopes n e =
        let s = two-some (λ q b. node.ForOf q (set_node around set) b) (asked_node readers around asked scopes) (node_of readers around body (meaning.Members ∷ scopes)) n e in
        let a = asked-low asked scopes s.0 s.2 in let b = low body (meaning.Members ∷ scopes) s.1 s.3 in let c = ap height s.4 in omega arith
    low (tree.ForIn asked name domain body) scopes n e =
        let inner = opened around name domain scopes ∷ scopes in
        let s = three-some (λ q d b. node.ForIn q name d b) (asked_node readers around asked scopes) (domain_node readers around domain scopes) (node_of readers around body inner) n e in
        let a = asked-low asked scopes s.0 s.3 in let b = domain-low domain scopes s.1 s.4 in let c = low body inner s.2 s.5 in let d = ap height s.6 in omega arith

    links-low : (ls : Links) (scopes : List Scope) (ns : NodeLinks) → links_node readers around ls scopes ≡ Some ns → links_height ns ≤ tree_height.links_height ls
    links-low tree.no_link scopes ns e = let s = ap links_height (some-inj e) in omega arith
    links-low (tree.link op operand rest) scopes ns e =
        let s = two-some (node.link op) (node_of readers around operand scopes) (links_node readers around rest scopes) ns e in
        let a = low operand scopes s.0 s.2 in let b = links-low rest scopes s.1 s.3 in let c = ap links_height s.4 in omega arith

    path-low : (ss : Steps) (scopes : List Scope) (n : NodeTree) → path_node readers around ss scopes ≡ Some n → height n ≤ tree_height.steps_height ss + 1
    path-low tree.no_step scopes n e = absurd cc
    path-low (tree.index_step index rest) scopes n e = absurd cc
    path-low (tree.call_step arguments rest) scopes n e = absurd cc
    path-low (tree.name_step w rest) scopes n e = let a = steps-low rest (meaning_of around w scopes) [] 0 scopes n tt e in omega arith

    steps-low : (ss : Steps) (m : Meaning) (written : List (Option NodeTree)) (h : ℕ) (scopes : List Scope) (n : NodeTree) → AreLow h written
        → steps_node readers around ss m written scopes ≡ Some n → height n ≤ max h (tree_height.steps_height ss) + 1
    steps-low tree.no_step m written h scopes n w e = let a = value-low m written h n w e in omega arith
    steps-low (tree.name_step word rest) m written h scopes n w e = steps-low rest (then_name m word) written h scopes n w e
    steps-low (tree.index_step index rest) m written h scopes n w e =
        let a = steps-low rest (then_index m) (node_of readers around index scopes ∷ []) (tree_height.height index) scopes n ((λ x g. low index scopes x g), tt) e in omega arith
    steps-low (tree.call_step arguments rest) m written h scopes n w e =
        let a = steps-low rest (then_call m (count_of arguments)) (each_node readers around arguments scopes) (tree_height.items_height arguments) scopes n (each-low arguments scopes (tree_height.items_height arguments) (omega arith)) e in
        omega arith

    each-low : (items : Items) (scopes : List Scope) (h : ℕ) → tree_height.items_height items ≤ h → AreLow h (each_node readers around items scopes)
    each-low tree.no_item scopes h t = tt
    each-low (tree.item c rest) scopes h t = ((λ x g. let a = low c scopes x g in omega arith), each-low rest scopes h (omega arith))

    items-low : (items : Items) (scopes : List Scope) (ns : NodeItems) → items_node (each_node readers around items scopes) ≡ Some ns → items_height ns ≤ tree_height.items_height items
    items-low tree.no_item scopes ns e = let s = ap items_height (some-inj e) in omega arith
    items-low (tree.item c rest) scopes ns e =
        let s = two-some node.item (node_of readers around c scopes) (items_node (each_node readers around rest scopes)) ns e in
        let a = low c scopes s.0 s.2 in let b = items-low rest scopes s.1 s.3 in let d = ap items_height s.4 in omega arith

    place-low : (p : Where) (scopes : List Scope) (w : NodeWhere) → place_node readers around p scopes ≡ Some w → where_height w ≤ tree_height.where_height p
    place-low tree.Anywhere scopes w e = let s = ap where_height (some-inj e) in omega arith
    place-low (tree.At at) scopes w e =
        let s = map-some node.At (node_of readers around at scopes) w e in let a = low at scopes s.0 s.1 in let b = ap where_height s.2 in omega arith
    place-low (tree.Within from to) scopes w e =
        let s = two-some node.Within (node_of readers around from scopes) (node_of readers around to scopes) w e in
        let a = low from scopes s.0 s.2 in let b = low to scopes s.1 s.3 in let c = ap where_height s.4 in omega arith

    asked-low : (a : Asked) (scopes : List Scope) (q : NodeAsked) → asked_node readers around a scopes ≡ Some q → asked_height q ≤ tree_height.asked_height a
    asked-low tree.All scopes q e = let s = ap asked_height (some-inj e) in omega arith
    asked-low tree.Any scopes q e = let s = ap asked_height (some-inj e) in omega arith
    asked-low tree.Nil scopes q e = let s = ap asked_height (some-inj e) in omega arith
    asked-low (tree.AtLeast c) scopes q e =
        let s = map-some node.AtLeast (node_of readers around c scopes) q e in let a = low c scopes s.0 s.1 in let b = ap asked_height s.2 in omega arith
    asked-low (tree.Percent c) scopes q e =
        let s = map-some node.Percent (node_of readers around c scopes) q e in let a = low c scopes s.0 s.1 in let b = ap asked_height s.2 in omega arith

    domain-low : (o : Domain) (scopes : List Scope) (d : NodeDomain) → domain_node readers around o scopes ≡ Some d → domain_height d ≤ tree_height.domain_height o
    domain-low (tree.OverRange from to) scopes d e =
        let s = two-some node.OverRange (node_of readers around from scopes) (node_of readers around to scopes) d e in
        let a = low from scopes s.0 s.2 in let b = low to scopes s.1 s.3 in let c = ap domain_height s.4 in omega arith
    domain-low (tree.OverList items) scopes d e =
        let s = map-some node.OverList (items_node (each_node readers around items scopes)) d e in
        let a = items-low items scopes s.0 s.1 in let b = ap domain_height s.2 in omega arith
    domain-low (tree.OverPath steps) scopes d e = let a = entries-low (path_meaning around steps scopes) d e in omega arith

pub made-low : (readers : Readers) (around : Around) (c : Condition) (n : NodeTree) → node_of readers around c [] ≡ Some n → height n ≤ tree_height.height c
made-low readers around c n e = low readers around c [] n e
