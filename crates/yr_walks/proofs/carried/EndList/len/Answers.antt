use Rattle.std.proofs.Common.{sym, subst}
use Rattle.yr_walks.specs.Carried.{Shown, AreBelow}
use Rattle.yr_walks.proofs.KeptLemmas.{few_members}
use Rattle.yr_walks.proofs.carried.EndList.len.Goals as goal

pub returns-clause-few : goal.returns-clause-few
returns-clause-few c = λ n below.
    let B : Shown → Type 0 = λ s. AreBelow n s.items in
    few_members c.self.inside.list.items c.self.inside.len c.self.inside.ends.items n c.self.invariant (subst B (sym c.self.view_is) below)
