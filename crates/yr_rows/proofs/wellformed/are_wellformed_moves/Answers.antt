use Rattle.std.proofs.Common.{◌≡◌, ◌<◌, ◌+◌, ◌⊎◌, inl, inr, ℕ, get_or, length, refl, sym, ap, ◌∙◌, subst, arith, true≢false}
use Rattle.std.proofs.lemmas.Option.{get_or_from_slice_get}
use Rattle.yr_rows.specs.Moves.{IsWellformedMove, moves_in, sets_in}
use Rattle.yr_rows.specs.declared.moves.MoveRow.{MoveRow}
use Rattle.yr_rows.proofs.MoveLemmas.{wellformed_at}
use Rattle.yr_rows.proofs.wellformed.are_wellformed_moves.Goals as goal
use Rattle.yr_rows.proofs.wellformed.are_wellformed_moves.Goals.{then-count-eq0-via-then-count-eq0, then-count-eq0-via-else-count-eq0+then-count-gt-MOST_MOVES}

pub returns-then-count-eq0 : goal.returns-then-count-eq0
returns-then-count-eq0 c = (
  λ e. absurd (true≢false (sym e)),
  λ w. absurd
      (elim c.then-count-eq0.branch [
        | then-count-eq0-via-then-count-eq0 v ↦ omega (arith, w.0, v.if-count-eq0.true, c.count_moves-count.ensures)
        | then-count-eq0-via-else-count-eq0+then-count-gt-MOST_MOVES v ↦ omega (arith, w.1, v.if-count-gt-MOST_MOVES.true, c.count_moves-count.ensures)
      ]),
)

-- the same row beside equal counts
counted : (row : MoveRow) (n n' k k' : ℕ) → n ≡ n' → k ≡ k' → IsWellformedMove n k row → IsWellformedMove n' k' row
counted row n n' k k' p q good =
    let P : ℕ → Type 0 = λ a. IsWellformedMove a k row in let Q : ℕ → Type 0 = λ b. IsWellformedMove n' b row in subst Q q (subst P p good)

earlier : (q k : ℕ) → q < k + 1 → (q < k) ⊎ (q ≡ k)
earlier q k lt = grind arith

pub at-requires : goal.at-requires
at-requires c = omega (arith, c.loop-m-test.true, c.count_moves-count.ensures)

pub returns-then-not-is_wellformed_move : goal.returns-then-not-is_wellformed_move
returns-then-not-is_wellformed_move c = (
  λ e. absurd (true≢false (sym e)),
  λ w.
      let moves = moves_in c.args.moves.now in
      let sets = sets_in c.args.sets.now in
      let good = wellformed_at moves sets c.loop-m.m c.at.result w c.at.ensures in
      let told =
      counted c.at.result (length moves) c.count_moves-count.result (length sets) c.count_sets-set_count.result (sym c.count_moves-count.ensures) (sym c.count_sets-set_count.ensures) good
      in
      sym c.if-not-is_wellformed_move.true ∙ c.is_wellformed_move.ensures.1 told,
)

pub loop-m-preserved : goal.loop-m-preserved
loop-m-preserved c = λ k d lt.
    let moves = moves_in c.args.moves.now in
    let sets = sets_in c.args.sets.now in
    let here = counted c.at.result c.count_moves-count.result (length moves) c.count_sets-set_count.result (length sets) c.count_moves-count.ensures c.count_sets-set_count.ensures
    (c.is_wellformed_move.ensures.0 c.if-not-is_wellformed_move.false)
    in
    let W : MoveRow → Type 0 = IsWellformedMove (length moves) (length sets) in
    elim (earlier k c.loop-m.m lt) [
      | inl less ↦ c.loop-m.invariant k d less
      | inr same ↦ subst W (sym (ap (λ q. get_or moves q d) same ∙ get_or_from_slice_get moves c.loop-m.m c.at.result d c.at.ensures)) here
    ]

pub returns : goal.returns
returns c = (
  λ e. (
    omega (arith, c.if-count-eq0.false, c.count_moves-count.ensures),
    omega (arith, c.if-count-gt-MOST_MOVES.false, c.count_moves-count.ensures),
    λ k d lt. c.loop-m.invariant k d (omega (arith, lt, c.count_moves-count.ensures, c.loop-m-test.false)),
  ),
  λ w. refl,
)
