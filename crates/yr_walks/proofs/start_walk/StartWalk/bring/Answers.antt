use Rattle.std.proofs.Common.{◌≡◌, ◌+◌, ℕ, None, Some, length, sym, ◌∙◌, subst}
use Rattle.std.specs.Prelude.{slice_get}
use Rattle.yr_rows.specs.Moves.{AreWellformedMoves}
use Rattle.yr_moves.specs.Programs.{moves_of, sets_of}
use Rattle.yr_walks.specs.Carried.{AreBelow, Falls}
use Rattle.yr_walks.proofs.HoldLemmas.{nothing_held}
use Rattle.yr_walks.specs.declared.start_walk.StartWalk.TheInside.{Inside}
use Rattle.yr_walks.specs.StartWalks.{Walk, AreShut, Merges}
use Rattle.yr_walks.proofs.start_walk.StartWalk.bring.Goals as goal

-- what a walk's fields show
abbrev walk_of : Inside → Walk
walk_of w = record { moves = moves_of w.rows; sets = sets_of w.rows; file = w.file.now; greedy = w.greedy; place = w.place }

pub returns-in-None-clause-falls : goal.returns-in-None-clause-falls
returns-in-None-clause-falls g c = λ q q' d d' le e e'. absurd (nothing_held c.clear.new.self.items d.by d.end c.clear.ensures.items (q, e))

pub returns-in-None-clause-shut : goal.returns-in-None-clause-shut
returns-in-None-clause-shut g c = λ q d y lt e j. absurd (nothing_held c.clear.new.self.items d.by d.end c.clear.ensures.items (q, e))

pub returns-in-None-clause-merges : goal.returns-in-None-clause-merges
returns-in-None-clause-merges g c = λ b at.
    let A : Walk → Type 0 = λ x. slice_get x.file x.place ≡ Some b in
    let there : slice_get c.self.inside.file.now c.self.inside.place ≡ Some b = subst A (sym c.self.view_is) at in
    let both : None ≡ Some b = sym c.in-None.is ∙ c.byte_at.ensures ∙ there in cc both

pub merge-requires-clause-wellformed : goal.merge-requires-clause-wellformed
merge-requires-clause-wellformed g c = let G : Walk → Type 0 = λ x. AreWellformedMoves x.moves x.sets in subst G (sym c.self.view_is) c.requires.wellformed

pub merge-requires-clause-inside : goal.merge-requires-clause-inside
merge-requires-clause-inside g c =
    let B : Walk → Type 0 = λ x. AreBelow (length x.moves + 1) c.args.carried.now.items × AreBelow (length x.moves + 1) c.args.own.now.items in subst B (sym c.self.view_is) c.requires.below

pub merge-requires-clause-falls : goal.merge-requires-clause-falls
merge-requires-clause-falls g c = let F : Walk → Type 0 = λ x. Falls x.greedy c.args.carried.now.items in subst F (sym c.self.view_is) c.requires.falls

pub returns-in-Some-clause-falls : goal.returns-in-Some-clause-falls
returns-in-Some-clause-falls g c = let F : Walk → Type 0 = λ x. Falls x.greedy c.merge.new.list.items in subst F c.self.view_is c.merge.ensures.merges.falls

pub returns-in-Some-clause-shut : goal.returns-in-Some-clause-shut
returns-in-Some-clause-shut g c = let S : Walk → Type 0 = λ x. AreShut x c.merge.new.list.items in subst S c.self.view_is c.merge.ensures.merges.closed

pub returns-in-Some-clause-past : goal.returns-in-Some-clause-past
returns-in-Some-clause-past g c = λ none.
    let A : Walk → Type 0 = λ x. slice_get x.file x.place ≡ None in
    let there : slice_get c.self.inside.file.now c.self.inside.place ≡ None = subst A (sym c.self.view_is) none in
    let both : Some c.in-Some.b ≡ None = sym c.in-Some.is ∙ c.byte_at.ensures ∙ there in cc both

pub returns-in-Some-clause-merges : goal.returns-in-Some-clause-merges
returns-in-Some-clause-merges g c = λ b at.
    let A : Walk → Type 0 = λ x. slice_get x.file x.place ≡ Some b in
    let there : slice_get c.self.inside.file.now c.self.inside.place ≡ Some b = subst A (sym c.self.view_is) at in
    let both : Some c.in-Some.b ≡ Some b = sym c.in-Some.is ∙ c.byte_at.ensures ∙ there in
    let same : c.in-Some.b ≡ b = cc both in
    let M : Walk → Type 0 = λ x. Merges x.moves x.sets x.file x.place c.in-Some.b x.greedy c.args.carried.now.items c.args.own.now.items c.merge.new.list.items in
    let N : ℕ → Type 0 = λ n.
    Merges c.args.self.now.moves c.args.self.now.sets c.args.self.now.file c.args.self.now.place n c.args.self.now.greedy c.args.carried.now.items c.args.own.now.items c.merge.new.list.items
    in
    subst N same (subst M c.self.view_is c.merge.ensures.merges)

pub returns-in-Some-clause-below : goal.returns-in-Some-clause-below
returns-in-Some-clause-below g c = let B : Walk → Type 0 = λ x. AreBelow (length x.moves + 1) c.merge.new.list.items in subst B c.self.view_is c.merge.ensures.below
