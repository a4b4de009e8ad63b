use Rattle.std.proofs.Common.{◌≡◌, ◌+◌, ◌-◌, ◌<◌, ℕ, length, sym, ap, subst, arith}
use Rattle.yr_rows.specs.Moves.{AreWellformedMoves}
use Rattle.yr_walks.specs.Carried.{Shown, AreBelow}
use Rattle.yr_walks.specs.EndWalks.{Walk, Kept, AreBeyond, AreHere, HasRoom, IsBestEnd}
use Rattle.yr_walks.proofs.EndLemmas.{best_here, best_beyond, moved_beyond, moved_here, midway_next}
use Rattle.yr_walks.proofs.end_walk.EndWalk.fall.Goals as goal
use Rattle.yr_walks.proofs.end_walk.EndWalk.fall.Goals.{then-len-eq0, else-len-eq0}

pub bring-requires-clause-wellformed : goal.bring-requires-clause-wellformed
bring-requires-clause-wellformed g c = let G : Walk → Type 0 = λ x. AreWellformedMoves x.moves x.sets in subst G (sym c.step_down.ensures) c.requires.midway.wellformed

pub look-requires-clause-wellformed : goal.look-requires-clause-wellformed
look-requires-clause-wellformed g c = let G : Walk → Type 0 = λ x. AreWellformedMoves x.moves x.sets in subst G (sym c.step_down.ensures) c.requires.midway.wellformed

pub bring-requires-clause-below : goal.bring-requires-clause-below
bring-requires-clause-below g c =
    let B : Walk → Type 0 = λ x. AreBelow (length x.moves) c.args.beyond.now.items × AreBelow (length x.moves) c.args.here.now.items in subst B (sym c.step_down.ensures) c.requires.midway.below

pub bring-requires-clause-beyond : goal.bring-requires-clause-beyond
bring-requires-clause-beyond g c =
    let w = c.args.self.now in
    let B : Walk → Type 0 = λ x. x.place < length x.file → AreBeyond x (x.place + 1) c.args.beyond.now.items in
    subst B (sym c.step_down.ensures) (λ lt.
    let same : w.place ≡ w.place - 1 + 1 = omega (arith, c.requires.more) in
    let P : ℕ → Type 0 = λ p. AreBeyond w p c.args.beyond.now.items in
    moved_beyond w (w.place - 1) (w.place - 1 + 1) c.args.beyond.now.items (subst P same (c.requires.midway.beyond (omega (arith, lt, c.requires.more)))))

pub bring-requires-clause-here : goal.bring-requires-clause-here
bring-requires-clause-here g c =
    let w = c.args.self.now in
    let B : Walk → Type 0 = λ x. x.place < length x.file → AreHere x (x.place + 1) c.args.here.now.items in
    subst B (sym c.step_down.ensures) (λ lt.
    let same : w.place ≡ w.place - 1 + 1 = omega (arith, c.requires.more) in
    let P : ℕ → Type 0 = λ p. AreHere w p c.args.here.now.items in
    moved_here w (w.place - 1) (w.place - 1 + 1) c.args.here.now.items (subst P same (c.requires.midway.here (omega (arith, lt, c.requires.more)))))

pub returns-clause-end : goal.returns-clause-end
returns-clause-end g c =
    let w = c.step_down.new.self in
    let F : Shown → Type 0 = λ s. AreBeyond w w.place s.items in
    let far = subst F (sym c.swap.ensures.x_after) c.bring.ensures.beyond in
    let best : IsBestEnd w w.place w.place c.better.result =
    best_here w w.place c.swap.new.x.items c.look.new.here.items far c.look.ensures.here c.end-behind.result c.end.result c.end-behind.ensures c.end.ensures c.better.result c.better.ensures
    in
    let I : Walk → Type 0 = λ x. IsBestEnd x w.place w.place c.better.result in subst I c.step_down.ensures best

pub returns-clause-beyond : goal.returns-clause-beyond
returns-clause-beyond g c =
    let w = c.step_down.new.self in
    let F : Shown → Type 0 = λ s. AreBeyond w w.place s.items in
    let far = subst F (sym c.swap.ensures.x_after) c.bring.ensures.beyond in
    let best : IsBestEnd w w.place (w.place + 1) c.end-behind.result =
    best_beyond w w.place c.swap.new.x.items c.look.new.here.items far c.look.ensures.here c.end-behind.result c.end.result c.end-behind.ensures c.end.ensures
    in
    let I : Walk → Type 0 = λ x. IsBestEnd x w.place (w.place + 1) c.end-behind.result in subst I c.step_down.ensures best

pub returns-clause-midway : goal.returns-clause-midway
returns-clause-midway g c =
    let w = c.step_down.new.self in
    let old : Kept = record { beyond = c.args.beyond.now; here = c.args.here.now } in
    let new : Kept = record { beyond = c.swap.new.x; here = c.look.new.here } in
    let F : Shown → Type 0 = λ s. AreBeyond w w.place s.items in
    let B : Shown → Type 0 = λ s. AreBelow (length w.moves) s.items in
    let same : length w.moves ≡ length c.args.self.now.moves = ap (λ (x : Walk). length x.moves) c.step_down.ensures in
    let swapped : c.swap.new.x.room ≡ c.bring.new.onwards.room = ap (λ (s : Shown). s.room) c.swap.ensures.x_after in
    let room : HasRoom (length w.moves + 1) new = (
      omega (arith, same, swapped, c.requires.midway.room.0, c.requires.room, c.bring.ensures.room),
      omega (arith, same, c.requires.midway.room.1, c.look.ensures.room),
    ) in
    midway_next c.args.self.now w old new c.requires.midway c.requires.more c.step_down.ensures room (subst B (sym c.swap.ensures.x_after) c.bring.ensures.below) c.look.ensures.below
    (subst F (sym c.swap.ensures.x_after) c.bring.ensures.beyond) c.look.ensures.here

pub returns-clause-most_cost : goal.returns-clause-most_cost
returns-clause-most_cost g c =
    let w = c.step_down.new.self in
    let same : length w.moves ≡ length c.args.self.now.moves = ap (λ (x : Walk). length x.moves) c.step_down.ensures in
    let few = c.len.ensures.few (length w.moves) c.bring.ensures.below in
    let few_here = c.len-2.ensures.few (length w.moves) c.look.ensures.below in
    let some : 0 < length c.args.self.now.moves = c.requires.midway.wellformed.0 in
    elim c.if-len-eq0.branch [
      | then-len-eq0 v ↦ omega (arith, v.steps-is, v.tick.ensures, v.if-len-eq0.true, c.len.ensures.len, c.len-2.ensures.len, c.bring.ensures.cost, c.look.ensures.cost, same, some)
      | else-len-eq0 v ↦ omega (arith, v.steps-is, few, few_here, c.len.ensures.len, c.len-2.ensures.len, c.bring.ensures.cost, c.look.ensures.cost, same)
    ]
