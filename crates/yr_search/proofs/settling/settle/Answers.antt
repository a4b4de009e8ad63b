use Rattle.std.proofs.Common.{IsTrue, sym, subst, rules}
use Rattle.yr_answer.specs.MatchList.{RisesFrom}
use Rattle.yr_hits.specs.Gathering.{IsSettled}
use Rattle.yr_search.proofs.SettleLemmas.{settled_by, settled_already}
use Rattle.yr_search.proofs.settling.settle.Goals as goal

pub returns-then-rises : goal.returns-then-rises
returns-then-rises c =
    let yes : IsTrue c.rises.result = search rules in
    settled_already c.args.greatest c.args.list.now.items (subst (RisesFrom 0) c.deref.ensures.value (c.rises.ensures yes))

pub returns : goal.returns
returns c =
    let old = c.args.list.now.items in
    subst (IsSettled c.args.greatest old) (sym c.keep_first.ensures)
    (settled_by c.args.greatest old c.sort.new.list.items c.requires c.sort.ensures.permutation c.sort.ensures.sorted)
