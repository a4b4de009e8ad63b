use Rattle.std.proofs.Common.{◌≡◌, ℕ, Bool, true, IsTrue, None, length, sym, ◌∙◌, subst, arith}
use Rattle.yr_base.specs.Places.{has_right_border}
use Rattle.yr_rows.specs.Moves.{AreWellformedMoves}
use Rattle.yr_moves.specs.Programs.{moves_of, sets_of}
use Rattle.yr_walks.specs.declared.end_walk.EndWalk.TheInside.{Inside}
use Rattle.yr_walks.specs.Carried.{AreBelow}
use Rattle.yr_walks.specs.Spreads.{AreClosed, CameFrom, Spreads, HasFloor, bound}
use Rattle.yr_walks.specs.EndWalks.{Walk, AreHere}
use Rattle.yr_walks.proofs.HoldLemmas.{nothing_held}
use Rattle.yr_walks.proofs.SpreadLemmas.{carried_below}
use Rattle.yr_walks.proofs.EndLemmas.{looked, joined_floor}
use Rattle.yr_walks.proofs.end_walk.EndWalk.look.Goals as goal

-- what a walk's fields show
abbrev walk_of : Inside → Walk
walk_of w = record { moves = moves_of w.rows; sets = sets_of w.rows; file = w.file.now; greedy = w.greedy; border = w.border; place = w.place }

pub join-requires-clause-wellformed : goal.join-requires-clause-wellformed
join-requires-clause-wellformed g c = let G : Walk → Type 0 = λ x. AreWellformedMoves x.moves x.sets in subst G (sym c.self.view_is) c.requires.wellformed

pub close-requires-clause-wellformed : goal.close-requires-clause-wellformed
close-requires-clause-wellformed g c = let G : Walk → Type 0 = λ x. AreWellformedMoves x.moves x.sets in subst G (sym c.self.view_is) c.requires.wellformed

pub close-requires-clause-below : goal.close-requires-clause-below
close-requires-clause-below g c =
    let w = c.self.inside in
    let G : Walk → Type 0 = λ x. AreWellformedMoves x.moves x.sets in
    carried_below w.edges.now.back (moves_of w.rows) (sets_of w.rows) w.file.now w.place None c.len-accepted.result w.place c.clear.new.self.items c.join.new.list.items
    (subst G (sym c.self.view_is) c.requires.wellformed) c.join.ensures.spreads (λ m j h. absurd (nothing_held c.clear.new.self.items m j c.clear.ensures.items h))

pub returns-then-has_right_border-clause-here : goal.returns-then-has_right_border-clause-here
returns-then-has_right_border-clause-here g c =
    let i = c.self.inside in
    let w = walk_of i in
    let G : Walk → Type 0 = λ x. AreWellformedMoves x.moves x.sets in
    let good = subst G (sym c.self.view_is) c.requires.wellformed in
    let before = c.clear.new.self.items in
    let mid = c.join.new.list.items in
    let new = c.close.new.list.items in
    let back : i.edges.now.back ≡ true = c.self.invariant.0 in
    let S : Bool → Type 0 = λ b. Spreads b w.moves w.sets w.file w.place None c.len-accepted.result w.place before mid in
    let N : ℕ → Type 0 = λ n. Spreads true w.moves w.sets w.file w.place None n w.place before mid in
    let spreads = subst N c.len-accepted.ensures (subst S back c.join.ensures.spreads) in
    let F : Bool → Type 0 = λ b. CameFrom b w.moves w.sets w.file w.place mid new in
    let came = subst F back c.close.ensures.came in
    let A : Bool → Type 0 = λ b. AreClosed b w.moves w.sets w.file w.place w.greedy (length new) new in
    let floor : HasFloor w.greedy w.place mid = joined_floor w w.place before mid c.clear.ensures.items spreads in
    let closed = subst A back (c.close.ensures.closed w.greedy floor (λ q d y lt e j. absurd (omega (arith, lt)))) in
    let fits : IsTrue (has_right_border w.border w.file w.place) = sym c.has_right_border.ensures ∙ c.if-has_right_border.true in
    let H : Walk → Type 0 = λ x. AreHere x x.place new in
    subst H c.self.view_is (looked w w.place good before mid new c.clear.ensures.items fits spreads c.close.ensures.grows came closed)

pub returns-then-has_right_border-clause-below : goal.returns-then-has_right_border-clause-below
returns-then-has_right_border-clause-below g c =
    let i = c.self.inside in
    let B : Bool → Type 0 = λ b. AreBelow (bound b (length (moves_of i.rows))) c.close.new.list.items in
    let W : Walk → Type 0 = λ x. AreBelow (length x.moves) c.close.new.list.items in
    subst W c.self.view_is (subst B c.self.invariant.0 c.close.ensures.below)
