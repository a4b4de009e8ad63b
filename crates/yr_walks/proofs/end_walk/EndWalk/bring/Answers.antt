use Rattle.std.proofs.Common.{◌≡◌, ◌+◌, ◌<◌, ◌≤◌, Some, length, sym, ◌∙◌, subst}
use Rattle.std.specs.Prelude.{slice_get}
use Rattle.std.proofs.lemmas.Option.{slice_get_within}
use Rattle.yr_rows.specs.Moves.{AreWellformedMoves}
use Rattle.yr_moves.specs.Programs.{moves_of, sets_of}
use Rattle.yr_walks.specs.declared.end_walk.EndWalk.TheInside.{Inside}
use Rattle.yr_walks.specs.Carried.{AreBelow}
use Rattle.yr_walks.specs.EndWalks.{Walk, AreBeyond, AreHere}
use Rattle.yr_walks.proofs.EndLemmas.{brought_greedy, brought_least, nothing_beyond, past_end}
use Rattle.yr_walks.proofs.end_walk.EndWalk.bring.Goals as goal

-- what a walk's fields show
abbrev walk_of : Inside → Walk
walk_of w = record { moves = moves_of w.rows; sets = sets_of w.rows; file = w.file.now; greedy = w.greedy; border = w.border; place = w.place }

pub returns-in-None-clause-beyond : goal.returns-in-None-clause-beyond
returns-in-None-clause-beyond g c =
    let w = walk_of c.self.inside in
    let P : Walk → Type 0 = λ x. x.place ≤ length x.file in
    let last = past_end w.file w.place (subst P (sym c.self.view_is) c.requires.place) (sym c.byte_at.ensures ∙ c.in-None.is) in
    let H : Walk → Type 0 = λ x. AreBeyond x x.place c.clear.new.self.items in
    subst H c.self.view_is (nothing_beyond w w.place c.clear.new.self.items last c.clear.ensures.items)

pub carry_both-requires-clause-wellformed : goal.carry_both-requires-clause-wellformed
carry_both-requires-clause-wellformed g c = let G : Walk → Type 0 = λ x. AreWellformedMoves x.moves x.sets in subst G (sym c.self.view_is) c.requires.wellformed

pub carry_both-requires-clause-inside : goal.carry_both-requires-clause-inside
carry_both-requires-clause-inside g c =
    let B : Walk → Type 0 = λ x. AreBelow (length x.moves) c.args.beyond.now.items × AreBelow (length x.moves) c.args.here.now.items in subst B (sym c.self.view_is) c.requires.below

pub returns-then-self-clause-beyond : goal.returns-then-self-clause-beyond
returns-then-self-clause-beyond g c =
    let w = walk_of c.self.inside in
    let at : slice_get w.file w.place ≡ Some c.in-Some.b = sym c.byte_at.ensures ∙ c.in-Some.is in
    let lt = slice_get_within w.file w.place c.in-Some.b at in
    let F : Walk → Type 0 = λ x. x.place < length x.file → AreBeyond x (x.place + 1) c.args.beyond.now.items in
    let N : Walk → Type 0 = λ x. x.place < length x.file → AreHere x (x.place + 1) c.args.here.now.items in
    let H : Walk → Type 0 = λ x. AreBeyond x x.place c.carry_both.new.list.items in
    let r = c.carry_both.ensures.carries in
    subst H c.self.view_is
    (brought_greedy w w.place c.in-Some.b at c.args.beyond.now.items c.args.here.now.items c.clear.new.self.items r.0 c.carry_both.new.list.items c.clear.ensures.items
    (subst F (sym c.self.view_is) c.requires.beyond lt) (subst N (sym c.self.view_is) c.requires.here lt) c.if-self.true r.1 r.2)

pub returns-then-self-clause-below : goal.returns-then-self-clause-below
returns-then-self-clause-below g c =
    let B : Walk → Type 0 = λ x. AreBelow (length x.moves) c.carry_both.new.list.items in subst B c.self.view_is c.carry_both.ensures.below

pub carry_both-requires-else-self-clause-wellformed : goal.carry_both-requires-else-self-clause-wellformed
carry_both-requires-else-self-clause-wellformed g c = let G : Walk → Type 0 = λ x. AreWellformedMoves x.moves x.sets in subst G (sym c.self.view_is) c.requires.wellformed

pub carry_both-requires-else-self-clause-inside : goal.carry_both-requires-else-self-clause-inside
carry_both-requires-else-self-clause-inside g c =
    let B : Walk → Type 0 = λ x. AreBelow (length x.moves) c.args.here.now.items × AreBelow (length x.moves) c.args.beyond.now.items in
    subst B (sym c.self.view_is) (c.requires.below.1, c.requires.below.0)

pub returns-else-self-clause-beyond : goal.returns-else-self-clause-beyond
returns-else-self-clause-beyond g c =
    let w = walk_of c.self.inside in
    let at : slice_get w.file w.place ≡ Some c.in-Some.b = sym c.byte_at.ensures ∙ c.in-Some.is in
    let lt = slice_get_within w.file w.place c.in-Some.b at in
    let F : Walk → Type 0 = λ x. x.place < length x.file → AreBeyond x (x.place + 1) c.args.beyond.now.items in
    let N : Walk → Type 0 = λ x. x.place < length x.file → AreHere x (x.place + 1) c.args.here.now.items in
    let H : Walk → Type 0 = λ x. AreBeyond x x.place c.carry_both-else-self.new.list.items in
    let r = c.carry_both-else-self.ensures.carries in
    subst H c.self.view_is
    (brought_least w w.place c.in-Some.b at c.args.beyond.now.items c.args.here.now.items c.clear.new.self.items r.0 c.carry_both-else-self.new.list.items c.clear.ensures.items
    (subst F (sym c.self.view_is) c.requires.beyond lt) (subst N (sym c.self.view_is) c.requires.here lt) c.if-self.false r.1 r.2)

pub returns-else-self-clause-below : goal.returns-else-self-clause-below
returns-else-self-clause-below g c =
    let B : Walk → Type 0 = λ x. AreBelow (length x.moves) c.carry_both-else-self.new.list.items in subst B c.self.view_is c.carry_both-else-self.ensures.below
