use Rattle.std.proofs.Common.{◌≡◌, ◌+◌, ◌-◌, ◌<◌, ℕ, List, refl, length, map, get_or, ap, ◌∙◌, subst, arith}
use Rattle.std.proofs.lemmas.List.{length-map}
use Rattle.yr_pattern.specs.Tree.{Tree, tree_of}
use Rattle.yr_pattern.specs.declared.pattern.Pattern.{Pattern}
use Rattle.yr_atoms.proofs.PlaceLemmas.{Placed, placed_kept, placed_new, placed_same, member_at}
use Rattle.yr_atoms.proofs.pattern.rarest_run_in.Goals.{then-is_better, else-is_better}
use Rattle.yr_atoms.proofs.pattern.rarest_run_in.Goals as goal

pub loop-done-preserved : goal.loop-done-preserved
loop-done-preserved c =
    let ms : List Pattern = c.args.members.now in
    let ts : List Tree = map tree_of ms in
    let l = c.loop-done in
    let i : ℕ = length ms - (l.done + 1) in
    let p : Pattern = c.index-members-i.result in
    let next : ℕ = c.run_from-run.result in
    let long = length-map ms tree_of in
    let lt : i < length ms = omega (arith, c.loop-done-test.true) in
    let lt' : i < length ts = omega (arith, lt, long) in
    let before : length ms - l.done ≡ i + 1 = omega (arith, c.loop-done-test.true) in
    let P : ℕ → Type 0 = λ k. Placed ts k l.run l.at l.n in
    let so_far : Placed ts (i + 1) l.run l.at l.n = subst P before l.invariant.placed in
    let here : length ms - 1 - l.done ≡ i = omega arith in
    let cons = member_at tree_of ms i p lt (c.index-members-i.is ∙ ap (λ k. get_or ms k p) here) in
    let placed : Placed ts i next c.if-is_better.at c.if-is_better.n = elim c.if-is_better.branch [
      | then-is_better w ↦
          placed_same ts i next i next c.if-is_better.at c.if-is_better.n (w.at-is ∙ here) w.n-is
          (placed_new ts i (tree_of p) l.run l.at l.n next lt' cons (c.run_from-run.ensures (tree_of p) c.byte_if_one-byte.ensures) so_far (c.is_better.ensures.better w.if-is_better.true))
      | else-is_better w ↦
          placed_same ts i next l.at l.n c.if-is_better.at c.if-is_better.n w.at-is w.n-is
          (placed_kept ts i (tree_of p) l.run l.at l.n next lt' cons (c.run_from-run.ensures (tree_of p) c.byte_if_one-byte.ensures) so_far (c.is_better.ensures.worse w.if-is_better.false))
    ] in
    record { placed = subst (λ k. Placed ts k next c.if-is_better.at c.if-is_better.n) (omega arith) placed; room = refl }
