use Rattle.std.proofs.Common.{◌≡◌, inl, inr, Some, sym, ap, ◌∙◌, subst, arith}
use Rattle.std.specs.Prelude.{slice_get}
use Rattle.yr_walks.specs.declared.carried.Carried.{Carried}
use Rattle.yr_walks.specs.Carried.{IsNoWorse}
use Rattle.yr_walks.proofs.ListLemmas.{below_or_last, get_within}
use Rattle.yr_walks.proofs.HoldLemmas.{no_worse_trans}
use Rattle.yr_walks.proofs.start_walk.count_no_worse.Goals as goal

pub loop-count-preserved : goal.loop-count-preserved
loop-count-preserved c =
    let n = c.loop-count.count in
    let items = c.args.list.now.items in (
      omega (arith, get_within items n c.get.result c.get.ensures),
      λ q d lt e. elim (below_or_last q n lt) [
        | inl before ↦ c.loop-count.invariant.1 q d before e
        | inr last ↦
            let both : Some c.get.result ≡ Some d = sym c.get.ensures ∙ ap (slice_get items) (sym last) ∙ e in
            let same : c.get.result ≡ d = cc both in
            let N : Carried → Type 0 = λ x. IsNoWorse c.args.greedy x.end c.args.end in
            subst N same (c.is_no_worse.ensures.is c.if-not-is_no_worse.false)
      ],
    )

pub returns-then-not-is_no_worse-clause-behind : goal.returns-then-not-is_no_worse-clause-behind
returns-then-not-is_no_worse-clause-behind c = λ q d le e.
    no_worse_trans c.args.greedy c.args.end c.get.result.end d.end (c.is_no_worse.ensures.other c.if-not-is_no_worse.true) (c.requires.falls c.loop-count.count q c.get.result d le c.get.ensures e)

pub returns-clause-behind : goal.returns-clause-behind
returns-clause-behind c = λ q d le e. absurd (omega (arith, get_within c.args.list.now.items q d e, le, c.loop-count-test.false, c.len.ensures.len))
