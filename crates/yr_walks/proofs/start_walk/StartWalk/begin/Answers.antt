use Rattle.std.proofs.Common.{ℕ, Option, sym, subst}
use Rattle.yr_walks.proofs.HoldLemmas.{nothing_held}
use Rattle.yr_walks.specs.StartWalks.{AreOwn}
use Rattle.yr_walks.proofs.StartLemmas.{nothing_own}
use Rattle.yr_walks.proofs.start_walk.StartWalk.begin.Goals as goal

pub returns-in-None-clause-own : goal.returns-in-None-clause-own
returns-in-None-clause-own g c =
    let O : Option ℕ → Type 0 = λ o. AreOwn c.args.self.now o c.args.self.now.place c.clear.new.self.items in
    subst O (sym c.in-None.is) (nothing_own c.args.self.now c.args.self.now.place c.clear.new.self.items c.clear.ensures.items)

pub returns-in-None-clause-alike : goal.returns-in-None-clause-alike
returns-in-None-clause-alike g c = λ q q' d d' e e'. absurd (nothing_held c.clear.new.self.items d.by d.end c.clear.ensures.items (q, e))

pub returns-in-None-clause-shut : goal.returns-in-None-clause-shut
returns-in-None-clause-shut g c = λ q d y lt e j. absurd (nothing_held c.clear.new.self.items d.by d.end c.clear.ensures.items (q, e))

pub returns-in-Some-clause-own : goal.returns-in-Some-clause-own
returns-in-Some-clause-own g c =
    let O : Option ℕ → Type 0 = λ o. AreOwn c.args.self.now o c.args.self.now.place c.open.new.own.items in subst O (sym c.in-Some.is) c.open.ensures.own
