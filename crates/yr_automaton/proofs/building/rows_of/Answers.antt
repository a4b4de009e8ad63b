use Rattle.std.proofs.Common.{◌≡◌, ◌<◌, ◌≤◌, ℕ, length, map, sym, subst, get_or, Contains, ◌∙◌}
use Rattle.yr_rows.specs.Nodes.{nodes_of, edges_of, Each}
use Rattle.yr_automaton.specs.Atoms.{words_of}
use Rattle.yr_automaton.specs.Automaton.{IsAutomatonOf}
use Rattle.yr_automaton.specs.Keys.{AreRuns, IsKeyedNode}
use Rattle.yr_automaton.proofs.PrepareLemmas.{parents_known, homes_sorted, homes_known, short}
use Rattle.yr_automaton.proofs.MadeLemmas.{made}
use Rattle.yr_automaton.proofs.building.rows_of.Goals as goal

pub runs-requires-clause-known : goal.runs-requires-clause-known
runs-requires-clause-known c =
    subst (λ l. (k : ℕ) → k < length l → Contains c.args.keys.now (get_or l k 0)) (sym c.deref.ensures.value)
    (parents_known c.args.atoms.now c.args.keys.now c.args.numbered.now c.requires.prepared c.in_ok-parents.parents.items c.in_ok-parents.ensures.count c.in_ok-parents.ensures.each)

pub runs-requires-2-clause-sorted : goal.runs-requires-2-clause-sorted
runs-requires-2-clause-sorted c =
    let homes : c.deref-2.result.now ≡ map (λ (q : ℕ × ℕ). q.0) c.args.numbered.now = c.deref-2.ensures.value ∙ c.in_ok-homes.ensures in
    subst (λ l. (i j : ℕ) → i ≤ j → j < length l → get_or l i 0 ≤ get_or l j 0) (sym homes) (homes_sorted c.args.atoms.now c.args.keys.now c.args.numbered.now c.requires.prepared)

pub runs-requires-2-clause-known : goal.runs-requires-2-clause-known
runs-requires-2-clause-known c =
    let homes : c.deref-2.result.now ≡ map (λ (q : ℕ × ℕ). q.0) c.args.numbered.now = c.deref-2.ensures.value ∙ c.in_ok-homes.ensures in
    subst (λ l. (k : ℕ) → k < length l → Contains c.args.keys.now (get_or l k 0)) (sym homes) (homes_known c.args.atoms.now c.args.keys.now c.args.numbered.now c.requires.prepared)

pub node_bytes-requires-clause-short : goal.node_bytes-requires-clause-short
node_bytes-requires-clause-short c = short c.args.atoms.now c.args.keys.now c.args.numbered.now c.requires.prepared

pub returns : goal.returns
returns c =
    let keys = c.args.keys.now in
    let numbered = c.args.numbered.now in
    let edge_starts = c.in_ok-edge_starts.edge_starts.items in
    let output_starts = c.in_ok-output_starts.output_starts.items in
    let nodes = nodes_of c.in_ok-nodes.nodes.items in
    let edges = edges_of c.in_ok-edges.edges.items in
    let homes : c.deref-2.result.now ≡ map (λ (q : ℕ × ℕ). q.0) numbered = c.deref-2.ensures.value ∙ c.in_ok-homes.ensures in
    let edge_runs : AreRuns keys c.in_ok-parents.parents.items edge_starts = subst (λ l. AreRuns keys l edge_starts) c.deref.ensures.value c.in_ok-edge_starts.ensures in
    let output_runs : AreRuns keys (map (λ (q : ℕ × ℕ). q.0) numbered) output_starts = subst (λ l. AreRuns keys l output_starts) homes c.in_ok-output_starts.ensures in
    let each_node : Each (IsKeyedNode keys edge_starts output_starts) nodes =
    subst (λ l. Each (IsKeyedNode keys l output_starts) nodes) c.deref-3.ensures.value (subst (λ l. Each (IsKeyedNode keys c.deref-3.result.now l) nodes) c.deref-4.ensures.value c.in_ok-nodes.ensures.each) in
    subst (λ l. IsAutomatonOf (words_of c.args.atoms.now) (record { nodes = nodes; edges = edges; outputs = l })) (sym c.in_ok-outputs.ensures.outputs)
    (made c.args.atoms.now keys numbered c.in_ok-parents.parents.items edge_starts output_starts nodes edges c.requires.prepared
    c.in_ok-parents.ensures.count c.in_ok-parents.ensures.each c.in_ok-edges.ensures.count c.in_ok-edges.ensures.each c.in_ok-nodes.ensures.count each_node edge_runs output_runs)
