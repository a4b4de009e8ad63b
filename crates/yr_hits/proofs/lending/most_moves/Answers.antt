use Rattle.std.proofs.Common.{◌≡◌, ◌≤◌, inl, inr, sym, subst, arith}
use Rattle.yr_machine.specs.Budget.{moves_count}
use Rattle.yr_image.specs.Views.{shown_bytes, image_of}
use Rattle.yr_machine.proofs.CallerLemmas.{has_sections}
use Rattle.yr_hits.proofs.SectionLemmas.{program_rows, moves_at, no_moves}
use Rattle.yr_hits.proofs.LendingLemmas.{above_max, below_or_at}
use Rattle.yr_hits.proofs.lending.most_moves.Goals as goal

pub program-requires : goal.program-requires
program-requires c =
    let bytes = shown_bytes c.args.view.now in
    let rows = program_rows bytes (has_sections bytes c.requires) in
    omega (arith, rows)

pub returns : goal.returns
returns c = λ k.
    let bytes = shown_bytes c.args.view.now in
    let rows = program_rows bytes (has_sections bytes c.requires) in
    elim (below_or_at k c.loop-k.k) [
      | inl lt ↦ c.loop-k.invariant k lt
      | inr le ↦ omega (arith, no_moves (image_of c.args.view.now) k (omega (arith, rows, le)))
    ]

pub loop-k-preserved : goal.loop-k-preserved
loop-k-preserved c = λ k h.
    let most = above_max c.loop-k.most c.program.result.moves in
    elim (below_or_at k c.loop-k.k) [
      | inl lt ↦ omega (arith, c.loop-k.invariant k lt, most.0, c.max-most.ensures)
      | inr le ↦
          let here : k ≡ c.loop-k.k = omega (arith, h, le) in
          let size = moves_at (image_of c.args.view.now) c.loop-k.k c.program.result c.program.ensures in
          subst (λ n. moves_count (image_of c.args.view.now) n ≤ c.max-most.result) (sym here) (omega (arith, size, most.1, c.max-most.ensures))
    ]
