use Rattle.std.proofs.Common.{sym, subst}
use Rattle.yr_walks.specs.StartWalks.{Kept, IsMidway}
use Rattle.yr_walks.proofs.start_walk.StartWalk.next.Goals as goal

pub returns-clause-midway : goal.returns-clause-midway
returns-clause-midway g c = λ told midway.
    let M : Kept → Type 0 = λ k. IsMidway c.args.self.now told k in c.fall.ensures.midway told (subst M (sym c.marks.view_is) midway)
