use Rattle.std.proofs.Common.{◌+◌, Bool, false, None, Some, length, sym, subst, arith}
use Rattle.yr_rows.specs.Moves.{AreWellformedMoves}
use Rattle.yr_moves.specs.Programs.{moves_of, sets_of}
use Rattle.yr_walks.specs.Carried.{AreBelow}
use Rattle.yr_walks.specs.Spreads.{AreClosed, CameFrom, Spreads, bound}
use Rattle.yr_walks.proofs.SpreadLemmas.{stays_join}
use Rattle.yr_walks.specs.declared.start_walk.StartWalk.TheInside.{Inside}
use Rattle.yr_walks.specs.StartWalks.{Walk, AreOwn, AreShut}
use Rattle.yr_walks.proofs.OpenLemmas.{mid_below, mid_long, mid_ends, mid_floor, mid_closed, new_from, new_first, new_alike}
use Rattle.yr_walks.proofs.StartLemmas.{own_opened}
use Rattle.yr_walks.proofs.start_walk.StartWalk.open.Goals as goal

-- what a walk's fields show
abbrev walk_of : Inside → Walk
walk_of w = record { moves = moves_of w.rows; sets = sets_of w.rows; file = w.file.now; greedy = w.greedy; place = w.place }

pub join-requires-clause-wellformed : goal.join-requires-clause-wellformed
join-requires-clause-wellformed g c = let G : Walk → Type 0 = λ x. AreWellformedMoves x.moves x.sets in subst G (sym c.self.view_is) c.requires.wellformed

pub close-requires-clause-wellformed : goal.close-requires-clause-wellformed
close-requires-clause-wellformed g c = let G : Walk → Type 0 = λ x. AreWellformedMoves x.moves x.sets in subst G (sym c.self.view_is) c.requires.wellformed

pub close-requires-clause-below : goal.close-requires-clause-below
close-requires-clause-below g c =
    let i = c.self.inside in
    let w = walk_of i in
    let G : Walk → Type 0 = λ x. AreWellformedMoves x.moves x.sets in
    let S : Bool → Type 0 = λ b. Spreads b w.moves w.sets w.file w.place None 0 c.args.end c.add.new.self.items c.join.new.list.items in
    let B : Bool → Type 0 = λ b. AreBelow (bound b (length w.moves)) c.join.new.list.items in
    subst B (sym c.self.invariant.0)
    (mid_below c.args.end c.args.own.now c.add.new.self c.requires.empty c.add.ensures w.moves w.sets w.file w.place (subst G (sym c.self.view_is) c.requires.wellformed) c.join.new.list.items
    (subst S c.self.invariant.0 c.join.ensures.spreads))

pub close-requires-clause-from : goal.close-requires-clause-from
close-requires-clause-from g c =
    let w = walk_of c.self.inside in
    let G : Walk → Type 0 = λ x. AreWellformedMoves x.moves x.sets in
    let S : Bool → Type 0 = λ b. Spreads b w.moves w.sets w.file w.place None 0 c.args.end c.add.new.self.items c.join.new.list.items in
    mid_long c.args.end c.args.own.now c.add.new.self c.requires.empty c.add.ensures w.moves w.sets w.file w.place (subst G (sym c.self.view_is) c.requires.wellformed) c.join.new.list.items
    (subst S c.self.invariant.0 c.join.ensures.spreads)

pub close-requires-clause-end : goal.close-requires-clause-end
close-requires-clause-end g c =
    let w = walk_of c.self.inside in
    let G : Walk → Type 0 = λ x. AreWellformedMoves x.moves x.sets in
    let S : Bool → Type 0 = λ b. Spreads b w.moves w.sets w.file w.place None 0 c.args.end c.add.new.self.items c.join.new.list.items in
    mid_ends c.args.end c.args.own.now c.add.new.self c.requires.empty c.add.ensures w.moves w.sets w.file w.place (subst G (sym c.self.view_is) c.requires.wellformed) c.join.new.list.items
    (subst S c.self.invariant.0 c.join.ensures.spreads)

pub returns-clause-own : goal.returns-clause-own
returns-clause-own g c =
    let w = walk_of c.self.inside in
    let G : Walk → Type 0 = λ x. AreWellformedMoves x.moves x.sets in
    let good = subst G (sym c.self.view_is) c.requires.wellformed in
    let mid = c.join.new.list.items in
    let new = c.close.new.list.items in
    let S : Bool → Type 0 = λ b. Spreads b w.moves w.sets w.file w.place None 0 c.args.end c.add.new.self.items mid in
    let F : Bool → Type 0 = λ b. CameFrom b w.moves w.sets w.file w.place mid new in
    let s = subst S c.self.invariant.0 c.join.ensures.spreads in
    let came = subst F c.self.invariant.0 c.close.ensures.came in
    let joins = stays_join false w.moves w.sets w.file w.place in
    let O : Walk → Type 0 = λ x. AreOwn x (Some c.args.end) x.place new in
    subst O c.self.view_is
    (own_opened w w.place c.args.end new
    (new_from c.args.end c.args.own.now c.add.new.self c.requires.empty c.add.ensures w.moves w.sets w.file w.place good mid s new c.close.ensures.grows came joins)
    (new_first c.args.end c.args.own.now c.add.new.self c.requires.empty c.add.ensures w.moves w.sets w.file w.place good mid s new c.close.ensures.grows came joins))

pub returns-clause-alike : goal.returns-clause-alike
returns-clause-alike g c =
    let w = walk_of c.self.inside in
    let G : Walk → Type 0 = λ x. AreWellformedMoves x.moves x.sets in
    let good = subst G (sym c.self.view_is) c.requires.wellformed in
    let mid = c.join.new.list.items in
    let new = c.close.new.list.items in
    let S : Bool → Type 0 = λ b. Spreads b w.moves w.sets w.file w.place None 0 c.args.end c.add.new.self.items mid in
    let F : Bool → Type 0 = λ b. CameFrom b w.moves w.sets w.file w.place mid new in
    new_alike c.args.end c.args.own.now c.add.new.self c.requires.empty c.add.ensures w.moves w.sets w.file w.place good mid (subst S c.self.invariant.0 c.join.ensures.spreads) new c.close.ensures.grows
    (subst F c.self.invariant.0 c.close.ensures.came) (stays_join false w.moves w.sets w.file w.place)

pub returns-clause-shut : goal.returns-clause-shut
returns-clause-shut g c =
    let w = walk_of c.self.inside in
    let G : Walk → Type 0 = λ x. AreWellformedMoves x.moves x.sets in
    let good = subst G (sym c.self.view_is) c.requires.wellformed in
    let mid = c.join.new.list.items in
    let new = c.close.new.list.items in
    let S : Bool → Type 0 = λ b. Spreads b w.moves w.sets w.file w.place None 0 c.args.end c.add.new.self.items mid in
    let s = subst S c.self.invariant.0 c.join.ensures.spreads in
    let A : Bool → Type 0 = λ b. AreClosed b w.moves w.sets w.file w.place w.greedy 1 mid in
    let B : Bool → Type 0 = λ b. AreClosed b w.moves w.sets w.file w.place w.greedy (length new) new in
    let floor = mid_floor c.args.end c.args.own.now c.add.new.self c.requires.empty c.add.ensures w.moves w.sets w.file w.place good mid s w.greedy in
    let first = mid_closed c.args.end c.args.own.now c.add.new.self c.requires.empty c.add.ensures w.moves w.sets w.file w.place good mid s w.greedy in
    let H : Walk → Type 0 = λ x. AreShut x new in
    subst H c.self.view_is (subst B c.self.invariant.0 (c.close.ensures.closed w.greedy floor (subst A (sym c.self.invariant.0) first)))

pub returns-clause-below : goal.returns-clause-below
returns-clause-below g c =
    let w = walk_of c.self.inside in
    let new = c.close.new.list.items in
    let B : Bool → Type 0 = λ b. AreBelow (bound b (length w.moves)) new in
    let below = subst B c.self.invariant.0 c.close.ensures.below in
    let H : Walk → Type 0 = λ x. AreBelow (length x.moves + 1) new in
    subst H c.self.view_is (λ m j h. omega (arith, below m j h))
