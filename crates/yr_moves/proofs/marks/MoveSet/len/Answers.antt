use Rattle.std.proofs.Common.{ℕ, ◌<◌, Contains, sym, subst}
use Rattle.yr_moves.specs.Marked.{Shown}
use Rattle.yr_moves.proofs.MarkLemmas.{few_members}
use Rattle.yr_moves.proofs.marks.MoveSet.len.Goals as goal

pub returns-clause-few : goal.returns-clause-few
returns-clause-few c = λ n below.
    let B : Shown → Type 0 = λ s. (x : ℕ) → Contains s.items x → x < n in
    few_members c.self.inside.list.items c.self.inside.len c.self.inside.seen.items n c.self.invariant (subst B (sym c.self.view_is) below)
