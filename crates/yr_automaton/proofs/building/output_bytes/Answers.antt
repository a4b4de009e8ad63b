use Rattle.std.proofs.Common.{ℕ, List, ◌++◌, ◌∷◌, [], map, take, get_or, arith, ap, sym, ◌∙◌}
use Rattle.std.proofs.lemmas.List.{take_more}
use Rattle.yr_automaton.proofs.PrepareLemmas.{length_map, map_at}
use Rattle.yr_automaton.proofs.building.output_bytes.Goals as goal

pub loop-atom-preserved : goal.loop-atom-preserved
loop-atom-preserved c =
    let numbered = c.args.numbered.now in
    let numbers : List ℕ = map (λ (p : ℕ × ℕ). p.1) numbered in
    let i = c.loop-atom.atom-index in
    let more = take_more numbers i 0 (omega (arith, c.loop-atom-test.true, length_map (λ (p : ℕ × ℕ). p.1) numbered)) in
    record {
      whole = c.in_ok-put_output.ensures.whole;
      outputs = c.in_ok-put_output.ensures.row ∙ ap (λ l. l ++ (get_or numbered i (0, 0)).1 ∷ []) c.loop-atom.invariant.outputs
          ∙ ap (λ x. take i numbers ++ x ∷ []) (sym (map_at (λ (p : ℕ × ℕ). p.1) numbered i (0, 0))) ∙ sym more;
    }
