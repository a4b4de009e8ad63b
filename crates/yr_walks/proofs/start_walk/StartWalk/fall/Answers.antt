use Rattle.std.proofs.Common.{◌≡◌, ◌+◌, ◌-◌, ◌≤◌, ◌∷◌, ℕ, None, Some, [], length, sym, ap, subst, arith}
use Rattle.std.specs.Prelude.{slice_get, ◌↔◌}
use Rattle.yr_rows.specs.Moves.{AreWellformedMoves}
use Rattle.yr_walks.specs.Carried.{Shown, Holds, AreBelow, Falls}
use Rattle.yr_walks.specs.StartWalks.{Walk, Kept, AreOwn, AreShut, IsBestOf, IsBetter, IsMidway, IsReadyFor, Merges, StartsAt, only_with}
use Rattle.yr_walks.proofs.StartLemmas.{best_start, carried_next, midway_next}
use Rattle.yr_walks.proofs.start_walk.StartWalk.fall.Goals as goal
use Rattle.yr_walks.proofs.start_walk.StartWalk.fall.Goals.{then-len-lt2, else-len-lt2}

pub bring-requires-clause-wellformed : goal.bring-requires-clause-wellformed
bring-requires-clause-wellformed g c = let G : Walk → Type 0 = λ x. AreWellformedMoves x.moves x.sets in subst G (sym c.step_down.ensures) c.requires.ready.wellformed

pub bring-requires-clause-place : goal.bring-requires-clause-place
bring-requires-clause-place g c = let P : Walk → Type 0 = λ x. x.place ≤ length x.file in subst P (sym c.step_down.ensures) (omega (arith, c.requires.ready.place, c.requires.more))

pub bring-requires-clause-below : goal.bring-requires-clause-below
bring-requires-clause-below g c =
    let B : Walk → Type 0 = λ x. AreBelow (length x.moves + 1) c.args.carried.now.items × AreBelow (length x.moves + 1) c.args.own.now.items in subst B (sym c.step_down.ensures) c.requires.ready.below

pub bring-requires-clause-falls : goal.bring-requires-clause-falls
bring-requires-clause-falls g c = let F : Walk → Type 0 = λ x. Falls x.greedy c.args.carried.now.items in subst F (sym c.step_down.ensures) c.requires.ready.falls

pub bring-requires-clause-alike : goal.bring-requires-clause-alike
bring-requires-clause-alike g c = c.requires.ready.alike

pub bring-requires-clause-room : goal.bring-requires-clause-room
bring-requires-clause-room g c = omega (arith, c.requires.ready.room.0, c.requires.room, ap (λ (x : Walk). length x.moves) c.step_down.ensures)

pub begin-requires-clause-wellformed : goal.begin-requires-clause-wellformed
begin-requires-clause-wellformed g c = let G : Walk → Type 0 = λ x. AreWellformedMoves x.moves x.sets in subst G (sym c.step_down.ensures) c.requires.ready.wellformed

pub begin-requires-clause-place : goal.begin-requires-clause-place
begin-requires-clause-place g c = let P : Walk → Type 0 = λ x. x.place ≤ length x.file in subst P (sym c.step_down.ensures) (omega (arith, c.requires.ready.place, c.requires.more))

pub begin-requires-clause-room : goal.begin-requires-clause-room
begin-requires-clause-room g c = omega (arith, c.requires.ready.room.1, ap (λ (x : Walk). length x.moves) c.step_down.ensures)

pub answer-requires-clause-wellformed : goal.answer-requires-clause-wellformed
answer-requires-clause-wellformed g c = let G : Walk → Type 0 = λ x. AreWellformedMoves x.moves x.sets in subst G (sym c.step_down.ensures) c.requires.ready.wellformed

pub answer-requires-clause-room : goal.answer-requires-clause-room
answer-requires-clause-room g c =
    let same = ap (λ (x : Walk). length x.moves) c.step_down.ensures in
    let swapped : c.swap.new.x.room ≡ c.bring.new.onwards.room = ap (λ (s : Shown). s.room) c.swap.ensures.x_after in
    (omega (arith, c.requires.ready.room.0, c.requires.room, same, swapped, c.bring.ensures.room), omega (arith, c.requires.ready.room.1, same, c.begin.ensures.room))

pub returns-clause-ready : goal.returns-clause-ready
returns-clause-ready g c =
    let w = c.step_down.new.self in
    let is = c.step_down.ensures in
    let G : Walk → Type 0 = λ x. AreWellformedMoves x.moves x.sets in
    let P : Walk → Type 0 = λ x. x.place ≤ length x.file + 1 in
    let same = ap (λ (x : Walk). length x.moves) is in
    let place : c.args.self.now.place - 1 ≤ length c.args.self.now.file + 1 = omega (arith, c.requires.ready.place) in
    let on = c.bring.new.onwards in
    let own = c.begin.new.own in
    let R : Shown → Type 0 = λ s. IsReadyFor w (record { carried = s; own = own }) in
    subst R (sym c.swap.ensures.x_after) (record {
      wellformed = subst G (sym is) c.requires.ready.wellformed;
      place = subst P (sym is) place;
      room = (omega (arith, c.requires.ready.room.0, c.requires.room, same, c.bring.ensures.room), omega (arith, c.requires.ready.room.1, same, c.begin.ensures.room));
      below = (c.bring.ensures.below, c.begin.ensures.below);
      falls = c.bring.ensures.falls;
      alike = c.begin.ensures.alike;
      shut = (c.bring.ensures.shut, c.begin.ensures.shut);
    })

pub returns-clause-start : goal.returns-clause-start
returns-clause-start g c = λ told midway.
    let w0 = c.args.self.now in
    let w = c.step_down.new.self in
    let is = c.step_down.ensures in
    let i = w0.place - 1 in
    let v : Walk = record w0 { place = i } in
    let old : Kept = record { carried = c.args.carried.now; own = c.args.own.now } in
    let place : w0.place ≡ i + 1 = omega (arith, c.requires.more) in
    let on = c.bring.new.onwards.items in
    let own = c.begin.new.own.items in
    let P : Walk → Type 0 = λ x. slice_get x.file x.place ≡ None → on ≡ [] in
    let M : Walk → Type 0 = λ x. (b : ℕ) → slice_get x.file x.place ≡ Some b → Merges x.moves x.sets x.file x.place b x.greedy c.args.carried.now.items c.args.own.now.items on in
    let carried = carried_next w0 told old i place c.requires.ready midway on (subst P is c.bring.ensures.past) (subst M is c.bring.ensures.merges) in
    let O : Walk → Type 0 = λ x. AreOwn x c.args.near x.place own in
    let S : Walk → Type 0 = λ x. AreShut x on in
    let T : Walk → Type 0 = λ x. AreShut x own in
    let r = c.answer.ensures in
    let F : Shown → Type 0 = λ s. (j : ℕ) → (r.0 ≡ Some j) ↔ Holds s.items (length w.moves) j in
    let F' : Walk → Type 0 = λ x. (j : ℕ) → (r.0 ≡ Some j) ↔ Holds on (length x.moves) j in
    let A' : Walk → Type 0 = λ x. (j : ℕ) → (r.1 ≡ Some j) ↔ Holds own (length x.moves) j in
    let B : Walk → Type 0 = λ x. IsBetter x.greedy r.0 (only_with r.1 c.args.far) c.answer.result in
    let best = best_start v told c.requires.ready.wellformed i c.args.near c.args.far on own carried (subst O is c.begin.ensures.own) (subst S is c.bring.ensures.shut) (subst T is c.begin.ensures.shut)
    c.requires.far r.0 r.1 c.answer.result (subst F' is (subst F c.swap.ensures.x_after r.2)) (subst A' is r.3) (subst B is r.4) in
    let same : i ≡ w.place = sym (ap (λ (x : Walk). x.place) is) in
    let I : ℕ → Type 0 = λ p. IsBestOf w0.greedy (StartsAt w0 told c.args.far p) c.answer.result in subst I same best

pub returns-clause-midway : goal.returns-clause-midway
returns-clause-midway g c = λ told midway.
    let w0 = c.args.self.now in
    let is = c.step_down.ensures in
    let i = w0.place - 1 in
    let old : Kept = record { carried = c.args.carried.now; own = c.args.own.now } in
    let new : Kept = record { carried = c.bring.new.onwards; own = c.begin.new.own } in
    let place : w0.place ≡ i + 1 = omega (arith, c.requires.more) in
    let on = c.bring.new.onwards.items in
    let own = c.begin.new.own.items in
    let P : Walk → Type 0 = λ x. slice_get x.file x.place ≡ None → on ≡ [] in
    let M : Walk → Type 0 = λ x. (b : ℕ) → slice_get x.file x.place ≡ Some b → Merges x.moves x.sets x.file x.place b x.greedy c.args.carried.now.items c.args.own.now.items on in
    let carried = carried_next w0 told old i place c.requires.ready midway on (subst P is c.bring.ensures.past) (subst M is c.bring.ensures.merges) in
    let O : Walk → Type 0 = λ x. AreOwn x c.args.near x.place own in
    let next = midway_next w0 told old i place c.requires.ready midway new c.args.near c.args.far carried (subst O is c.begin.ensures.own) (omega (arith, c.requires.ready.place, c.requires.more)) in
    let N : Walk → Type 0 = λ x. IsMidway x (record { at = x.place; near = c.args.near; far = c.args.far } ∷ told) new in
    let K : Shown → Type 0 = λ s.
    IsMidway c.step_down.new.self (record { at = c.step_down.new.self.place; near = c.args.near; far = c.args.far } ∷ told) (record { carried = s; own = c.begin.new.own })
    in
    subst K (sym c.swap.ensures.x_after) (subst N (sym is) next)

pub returns-clause-most_cost : goal.returns-clause-most_cost
returns-clause-most_cost g c =
    let w = c.step_down.new.self in
    let same : length w.moves ≡ length c.args.self.now.moves = ap (λ (x : Walk). length x.moves) c.step_down.ensures in
    let few = c.len.ensures.few (length w.moves + 1) c.bring.ensures.below in
    let few_own = c.len-2.ensures.few (length w.moves + 1) c.begin.ensures.below in
    elim c.if-len-lt2.branch [
      | then-len-lt2 v ↦ omega (arith, v.steps-is, v.tick.ensures, v.if-len-lt2.true, c.len.ensures.len, c.len-2.ensures.len, c.bring.ensures.cost, c.begin.ensures.cost, same)
      | else-len-lt2 v ↦ omega (arith, v.steps-is, few, few_own, c.len.ensures.len, c.len-2.ensures.len, c.bring.ensures.cost, c.begin.ensures.cost, same)
    ]
