use Rattle.std.proofs.Common.{◌≡◌, ◌∷◌, [], ◌++◌, Some, slice_get, sym, ap, ◌∙◌}
use Rattle.yr_rows.specs.Moves.{moves_in}
use Rattle.yr_draft.specs.Growing.{move_behind, moves_behind}
use Rattle.yr_draft.proofs.FillingLemmas.{get_map, pushed}
use Rattle.yr_draft.proofs.filling.add_moves.Goals as goal

pub loop-m-preserved : goal.loop-m-preserved
loop-m-preserved c =
    let sets = c.args.sets in
    let moves = moves_in c.args.moves.now in
    let row = c.at.result in
    let at : slice_get moves c.loop-m.m ≡ Some row = ap (slice_get moves) (sym c.in_ok-place.ensures) ∙ c.at.ensures in
    c.in_ok-push.ensures.items
    ∙ ap (λ r. c.loop-m.into.items ++ r ∷ []) c.in_ok-move_behind.ensures
    ∙ pushed c.args.into.now.items (moves_behind sets moves) c.loop-m.into.items c.loop-m.m (move_behind sets row)
    (get_map (move_behind sets) moves c.loop-m.m row at) c.loop-m.invariant
