use Rattle.std.proofs.Common.{ℕ, Bool, false, length, subst, arith}
use Rattle.yr_moves.specs.Programs.{moves_of, sets_of}
use Rattle.yr_walks.specs.Carried.{AreBelow}
use Rattle.yr_walks.specs.Spreads.{Carries, bound}
use Rattle.yr_walks.proofs.MergeLemmas.{merged}
use Rattle.yr_walks.proofs.start_walk.merge.Goals as goal

pub returns-clause-merges : goal.returns-clause-merges
returns-clause-merges g c =
    let moves = moves_of c.args.rows.now in
    let sets = sets_of c.args.rows.now in
    let back = c.requires.edges.0 in
    let file = c.args.file.now in
    let i = c.args.i in
    let carried = c.args.carried.now.items in
    let own = c.args.own.now.items in
    let before = c.args.list.now.items in
    let near = c.carry.new.list.items in
    let mid = c.carry-2.new.list.items in
    let new = c.carry-3.new.list.items in
    let s = c.split_point-split.result in
    let A : Bool → Type 0 = λ b. Carries b moves sets file i c.args.byte carried 0 s before near in
    let B : Bool → Type 0 = λ b. Carries b moves sets file i c.args.byte own 0 c.len.result near mid in
    let B' : ℕ → Type 0 = λ n. Carries false moves sets file i c.args.byte own 0 n near mid in
    let C : Bool → Type 0 = λ b. Carries b moves sets file i c.args.byte carried s c.len-2.result mid new in
    let C' : ℕ → Type 0 = λ n. Carries false moves sets file i c.args.byte carried s n mid new in
    merged moves sets file i c.args.byte c.args.greedy carried own before near mid new s c.requires.empty c.requires.falls c.requires.alike c.split_point-split.ensures.before c.split_point-split.ensures.behind
    (subst A back c.carry.ensures.carries) (subst B' c.len.ensures.len (subst B back c.carry-2.ensures.carries)) (subst C' c.len-2.ensures.len (subst C back c.carry-3.ensures.carries))

pub returns-clause-below : goal.returns-clause-below
returns-clause-below g c =
    let B : Bool → Type 0 = λ b. AreBelow (bound b (length (moves_of c.args.rows.now))) c.carry-3.new.list.items in
    let below = subst B c.requires.edges.0 c.carry-3.ensures.below in λ m j h. omega (arith, below m j h)
