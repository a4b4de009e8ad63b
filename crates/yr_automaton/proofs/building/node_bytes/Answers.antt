use Rattle.std.proofs.Common.{◌≡◌, ◌≢◌, ◌<◌, ◌+◌, ◌-◌, ◌⊎◌, inl, inr, ◌∷◌, [], ◌++◌, ℕ, length, length-append, arith, refl, rules, sym, ap, subst, ◌∙◌, get_or}
use Rattle.yr_rows.specs.declared.nodes.NodeRow.{NodeRow}
use Rattle.yr_rows.specs.Nodes.{nodes_of, Each}
use Rattle.yr_automaton.specs.Keys.{IsKeyedNode, IsLongestIn}
use Rattle.yr_automaton.proofs.ListLemmas.{each_push}
use Rattle.yr_automaton.proofs.BuildLemmas.{node_links}
use Rattle.yr_automaton.proofs.building.node_bytes.Goals as goal
use Rattle.yr_automaton.proofs.building.node_bytes.Goals.{then-key-eq0, else-key-eq0}

pub overflow_cast-row-in-loop-n : goal.overflow_cast-row-in-loop-n
overflow_cast-row-in-loop-n c =
    let s = c.requires.short c.loop-n.n c.loop-n-test.true in
    let d = c.depth_of.ensures.is s.0 s.1 s.3 in
    let small : c.depth_of.result < 4294967296 = omega (arith, d, s.2) in
    search (rules, small)

pub loop-n-preserved : goal.loop-n-preserved
loop-n-preserved c =
    let keys = c.args.keys.now in
    let edges = c.args.edges.now in
    let outputs = c.args.outputs.now in
    let n = c.loop-n.n in
    let k = get_or keys n 0 in
    let f = c.if-key-eq0.failure in
    let row : NodeRow = record {
      first_edge = get_or edges n 0;
      edges = get_or edges (n + 1) 0 - get_or edges n 0;
      failure = f;
      depth = c.depth_of.result;
      first_output = get_or outputs n 0;
      outputs = get_or outputs (n + 1) 0 - get_or outputs n 0;
    } in
    let cases : ((k ≡ 0) × (f ≡ 0)) ⊎ ((k ≢ 0) × (f < length keys) × (get_or keys f 0 < k) × IsLongestIn keys k f) = elim c.if-key-eq0.branch [
      | then-key-eq0 w ↦ inl (w.if-key-eq0.true, w.failure-is)
      | else-key-eq0 w ↦
          let e = w.failure_of-failure.ensures in
          let P : ℕ → Type 0 = λ i. (i < length keys) × (get_or keys i 0 < k) × IsLongestIn keys k i in
          let p : P w.failure_of-failure.result = (e.inside, e.less, e.is) in
          let q = subst P (sym w.failure-is) p in
          inr (w.if-key-eq0.false, q.0, q.1, q.2)
    ] in
    let links = node_links keys c.requires.keys n f c.loop-n-test.true cases in
    let here : IsKeyedNode keys edges outputs n row = record {
      first_edge = refl;
      edges = refl;
      first_output = refl;
      outputs = refl;
      depth = λ r bytes e. c.depth_of.ensures.is r bytes e;
      root = links.0;
      below = links.1;
      fails = links.2;
    } in
    let added : nodes_of c.put_node.new.bytes.items ≡ nodes_of c.loop-n.bytes.items ++ row ∷ [] = c.in_ok-put_node.ensures.row in
    record {
      whole = c.in_ok-put_node.ensures.whole;
      count = ap length added ∙ length-append (nodes_of c.loop-n.bytes.items) (row ∷ []) ∙ ap (λ i. i + 1) c.loop-n.invariant.count;
      each = subst (Each (IsKeyedNode keys edges outputs)) (sym added) (each_push (IsKeyedNode keys edges outputs) (nodes_of c.loop-n.bytes.items) row n (sym c.loop-n.invariant.count) c.loop-n.invariant.each here);
    }
