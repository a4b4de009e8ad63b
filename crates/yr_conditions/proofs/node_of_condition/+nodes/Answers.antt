use Rattle.std.proofs.Common.{◌≡◌, ◌<◌, ◌≤◌, ◌+◌, ◌∷◌, length, map, drop, Some, refl, sym, ap, ◌∙◌, subst, arith, List}
use Rattle.std.specs.Prelude.{IfOk, option_map}
use Rattle.std.proofs.Math.ListN.{drop_of_length-le}
use Rattle.yr_rules.specs.NodeTree.{ForIn, boxed, tree_of, asked_of, domain_of, link_of, links_of, items_of, set_of}
use Rattle.yr_syntax.specs.Condition as tree
use Rattle.yr_syntax.specs.Condition.{Condition}
use Rattle.yr_syntax.specs.Forms.{height_limit}
use Rattle.yr_syntax.specs.Height.{links_height, items_height}
use Rattle.yr_syntax.proofs.CallerLemmas.{tree_of-ForOf, tree_of-ForIn}
use Rattle.yr_conditions.specs.Around.{around_of}
use Rattle.yr_conditions.specs.Meanings.{Scope, opened}
use Rattle.yr_conditions.specs.UseViews.{scope_of}
use Rattle.yr_conditions.specs.Fixed.{the_readers}
use Rattle.yr_conditions.specs.Nodes.{of_three, items_node}
use Rattle.yr_conditions.specs.Shapes.{shape_of, links_shape, each_shape}
use Rattle.yr_conditions.specs.NodeViews.{linked, listed}
use Rattle.yr_conditions.proofs.LoopLemmas.{for-of-made, for-in-made}
use Rattle.yr_conditions.proofs.TurnLemmas.{split, link-forms, link-low, link-turn, link-end, item-forms, item-low, item-turn, item-end}
use Rattle.yr_conditions.proofs.node_of_condition.+nodes.Goals as goal

pub items-loop-item-preserved : goal.items-loop-item-preserved
items-loop-item-preserved t c =
    let exact = c.args.exact in let around = around_of c.args.around.now in
    let xs = c.args.all.now in let i = c.loop-item.item-index in let k = c.item-item.result in
    let left = drop i xs in let rest = drop (i + 1) xs in
    let s = c.loop-item.scopes in let all = c.loop-item.made.items in let new = c.push.new.self.items in
    let within : i < length xs = omega arith in
    let e : left ≡ k ∷ rest = split xs i k within c.item-item.is in
    let v = c.loop-item.invariant in
    let same : c.node.new.scopes ≡ s = c.in_ok-one.ensures.scopes in
    let made : Some (tree_of c.in-Some.one) ≡ shape_of exact the_readers around (tree.tree_of k) s = sym (ap (option_map tree_of) c.in-Some.is) ∙ c.in_ok-one.ensures.node in
    let whole = items_node (each_shape exact the_readers around (tree.items_of (map tree.tree_of xs)) s) in
    record {
      scopes = same ∙ v.scopes;
      forms = (item-forms left rest k e v.forms).1;
      low = subst (λ (x : List Scope). items_height (tree.items_of (map tree.tree_of rest)) + length x ≤ height_limit) (sym same) (item-low left rest k (length s) e v.low).1;
      whole =
          subst (λ (x : List Scope). option_map (listed (map tree_of new)) (items_node (each_shape exact the_readers around (tree.items_of (map tree.tree_of rest)) x)) ≡ items_node (each_shape exact the_readers around (tree.items_of (map tree.tree_of xs)) x))
          (sym same) (item-turn exact the_readers around left rest k s all new c.in-Some.one whole e c.in_ok-push.ensures.items made v.whole);
    }

pub items-returns-clause-node : goal.items-returns-clause-node
items-returns-clause-node t c =
    let exact = c.args.exact in let around = around_of c.args.around.now in
    let xs = c.args.all.now in let i = c.loop-item.item-index in
    let s = c.loop-item.scopes in let all = c.loop-item.made.items in
    let over : length xs ≤ i = omega arith in
    let v = c.loop-item.invariant in
    subst (λ (x : List Scope). Some (items_of (map tree_of all)) ≡ items_node (each_shape exact the_readers around (tree.items_of (map tree.tree_of xs)) x)) v.scopes
    (item-end exact the_readers around (drop i xs) s all (items_node (each_shape exact the_readers around (tree.items_of (map tree.tree_of xs)) s)) (drop_of_length-le xs over) v.whole)

pub links-loop-link-preserved : goal.links-loop-link-preserved
links-loop-link-preserved t c =
    let exact = c.args.exact in let around = around_of c.args.around.now in
    let xs = c.args.rest.now in let i = c.loop-link.link-index in let k = c.link-item.result in
    let left = drop i xs in let rest = drop (i + 1) xs in
    let s = c.loop-link.scopes in let all = c.loop-link.all.items in let new = c.push.new.self.items in
    let within : i < length xs = omega arith in
    let e : left ≡ k ∷ rest = split xs i k within c.link-item.is in
    let v = c.loop-link.invariant in
    let same : c.node.new.scopes ≡ s = c.in_ok-operand.ensures.scopes in
    let made : Some (tree_of c.in-Some.operand) ≡ shape_of exact the_readers around (tree.tree_of k.operand) s = sym (ap (option_map tree_of) c.in-Some.is) ∙ c.in_ok-operand.ensures.node in
    let whole = links_shape exact the_readers around (tree.links_of (map tree.link_of xs)) s in
    record {
      scopes = same ∙ v.scopes;
      forms = (link-forms left rest k e v.forms).1;
      low = subst (λ (x : List Scope). links_height (tree.links_of (map tree.link_of rest)) + length x ≤ height_limit) (sym same) (link-low left rest k (length s) e v.low).1;
      whole =
          subst (λ (x : List Scope). option_map (linked (map link_of new)) (links_shape exact the_readers around (tree.links_of (map tree.link_of rest)) x) ≡ links_shape exact the_readers around (tree.links_of (map tree.link_of xs)) x)
          (sym same) (link-turn exact the_readers around left rest k s all new (record { op = k.op; operand = c.in-Some.operand }) whole e c.in_ok-push.ensures.items refl made v.whole);
    }

pub links-returns-clause-node : goal.links-returns-clause-node
links-returns-clause-node t c =
    let exact = c.args.exact in let around = around_of c.args.around.now in
    let xs = c.args.rest.now in let i = c.loop-link.link-index in
    let s = c.loop-link.scopes in let all = c.loop-link.all.items in
    let over : length xs ≤ i = omega arith in
    let v = c.loop-link.invariant in
    subst (λ (x : List Scope). Some (links_of (map link_of all)) ≡ links_shape exact the_readers around (tree.links_of (map tree.link_of xs)) x) v.scopes
    (link-end exact the_readers around (drop i xs) s all (links_shape exact the_readers around (tree.links_of (map tree.link_of xs)) s) (drop_of_length-le xs over) v.whole)

pub node_by_form-returns-in_ok-body-in-ForOf-clause-node : goal.node_by_form-returns-in_ok-body-in-ForOf-clause-node
node_by_form-returns-in_ok-body-in-ForOf-clause-node t c =
    let exact = c.args.exact in let around = around_of c.args.around.now in let s0 = c.args.scopes.now in
    let q = c.in-ForOf.quant in let set = c.in-ForOf.set in let body = tree.tree_of c.in-ForOf.body.value in
    let inner = c.enter.new.self in
    let e = ap tree.tree_of c.in-ForOf.is ∙ tree_of-ForOf q set c.in-ForOf.body in
    let made =
    for-of-made exact the_readers around (tree.asked_of q) (tree.set_of set) body s0 c.node_asked-in-ForOf.new.scopes inner (option_map asked_of c.in_ok-asked-in-ForOf.asked)
    (set_of c.in_ok-set-in-ForOf.set) (option_map tree_of (boxed c.in_ok-body-in-ForOf.body)) c.in_ok-asked-in-ForOf.ensures.node c.in_ok-asked-in-ForOf.ensures.scopes c.in_ok-set-in-ForOf.ensures
    c.in_ok-enter-in-ForOf.ensures (c.in_ok-body-in-ForOf.ensures.node ∙ ap (λ x. shape_of exact the_readers around (tree.tree_of x) inner) c.deref-in-ForOf.ensures) in
    c.for_of.ensures ∙ made ∙ sym (ap (λ (x : Condition). shape_of exact the_readers around x s0) e)

pub node_by_form-returns-in_ok-body-in-ForIn-clause-node : goal.node_by_form-returns-in_ok-body-in-ForIn-clause-node
node_by_form-returns-in_ok-body-in-ForIn-clause-node t c =
    let exact = c.args.exact in let around = around_of c.args.around.now in let s0 = c.args.scopes.now in
    let q = c.in-ForIn.quant in let name = c.in-ForIn.name.items in let domain = tree.domain_of c.in-ForIn.over in let body = tree.tree_of c.in-ForIn.body.value in
    let now = c.node_asked-in-ForIn.new.scopes in let then = c.node_over.new.scopes in let inner = c.enter-in-ForIn.new.self in
    let oa = option_map asked_of c.in_ok-asked-in-ForIn.asked in let od = option_map domain_of c.in_ok-domain-in-ForIn.domain in let ob = option_map tree_of (boxed c.in_ok-body-in-ForIn.body) in
    let own = scope_of c.opened-inner.result in
    let e = ap tree.tree_of c.in-ForIn.is ∙ tree_of-ForIn q c.in-ForIn.name c.in-ForIn.over c.in-ForIn.body in
    let opens : own ≡ opened around name domain then = c.opened-inner.ensures ∙ ap (λ w. opened around w domain then) c.deref-in-ForIn.ensures.value in
    let made =
    for-in-made exact the_readers around (tree.asked_of q) name domain body s0 now then inner own oa od ob c.in_ok-asked-in-ForIn.ensures.node c.in_ok-asked-in-ForIn.ensures.scopes
    c.in_ok-domain-in-ForIn.ensures.node c.in_ok-domain-in-ForIn.ensures.scopes opens c.in_ok-enter-in-ForIn.ensures
    (c.in_ok-body-in-ForIn.ensures.node ∙ ap (λ x. shape_of exact the_readers around (tree.tree_of x) inner) c.deref-in-ForIn-2.ensures) in
    let result = subst (λ w. IfOk c.for_in.result (λ n. option_map tree_of n ≡ of_three (λ q d b. ForIn q w d b) oa od ob)) c.deref-in-ForIn-3.ensures.value c.for_in.ensures in
    subst (λ x. IfOk c.for_in.result (λ n. option_map tree_of n ≡ x)) (made ∙ sym (ap (λ (x : Condition). shape_of exact the_readers around x s0) e)) result
