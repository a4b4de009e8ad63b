use Rattle.std.proofs.Common.{◌≡◌, ◌+◌, ◌∷◌, ◌++◌, [], List, map, take, drop, sym, ap, subst, ◌∙◌, arith}
use Rattle.std.proofs.lemmas.Result.{err_from_is_err_and}
use Rattle.yr_words.specs.Shown.{source_shown}
use Rattle.yr_words.specs.Commands.{Source}
use Rattle.yr_outcome.specs.Front.{GatheredUnit}
use Rattle.yr_front.specs.Units.{unit_shown, SoFar}
use Rattle.yr_front.proofs.EachLemmas.{rest-at, rest-none, same-next}
use Rattle.yr_front.proofs.GatherLemmas.{units-more, so_far-next, so_far-fault, so_far-all}
use Rattle.yr_front.proofs.gathering.gather_all.Goals as goal

pub returns-in_err-gather_next-clause-walk : goal.returns-in_err-gather_next-clause-walk
returns-in_err-gather_next-clause-walk g c = λ reading reads modules files told.
    let p = err_from_is_err_and c.from_residual.result c.from_residual.ensures.1 in
    let inv = c.loop-source.invariant in
    let all = map source_shown c.args.sources.now in
    let so = subst (λ (rest : List Source). SoFar reading modules files all rest (map unit_shown c.loop-source.units.items) (g.F.Store.trace c.args.store.now) (g.F.Store.trace c.loop-source.store))
    (rest-at source_shown c.args.sources.now c.loop-source.source-index _ c.loop-source-test.true) (inv.walk reading reads modules files told) in
    rw (p.1, p.2) (so_far-fault reading modules files all _ _ _ _ _ _ so c.in_err-gather_next.field-0.0 (c.in_err-gather_next.ensures.walk reading reads modules files (inv.files ∙ told)))

pub loop-source-preserved : goal.loop-source-preserved
loop-source-preserved g c =
    let inv = c.loop-source.invariant in
    let next = c.in_ok-gather_next.ensures in
    record {
      files = next.files ∙ inv.files;
      later = omega (arith, inv.later, next.later);
      spaces = same-next (λ u. u.space.now) (λ s. s.space.now) _ _ c.args.sources.now c.loop-source.source-index _ c.loop-source-test.true next.spaces inv.spaces;
      walk = λ reading reads modules files told.
          let all = map source_shown c.args.sources.now in
          let so = subst (λ (rest : List Source). SoFar reading modules files all rest (map unit_shown c.loop-source.units.items) (g.F.Store.trace c.args.store.now) (g.F.Store.trace c.loop-source.store))
          (rest-at source_shown c.args.sources.now c.loop-source.source-index _ c.loop-source-test.true) (inv.walk reading reads modules files told) in
          let w = next.walk reading reads modules files (inv.files ∙ told) in
          subst (λ (units : List GatheredUnit). SoFar reading modules files all (map source_shown (drop (c.loop-source.source-index + 1) c.args.sources.now)) units (g.F.Store.trace c.args.store.now) (g.F.Store.trace c.gather_next.new.store))
          (sym (units-more _ _ w.0 _ w.1 w.2))
          (so_far-next reading modules files all _ _ _ w.0.tokens _ _ _ so w.3);
    }

pub returns-clause-walk : goal.returns-clause-walk
returns-clause-walk g c = λ reading reads modules files told.
    let all = map source_shown c.args.sources.now in
    so_far-all reading modules files all _ _ _
    (subst (λ (rest : List Source). SoFar reading modules files all rest (map unit_shown c.loop-source.units.items) (g.F.Store.trace c.args.store.now) (g.F.Store.trace c.loop-source.store))
    (rest-none source_shown c.args.sources.now c.loop-source.source-index c.loop-source-test.false) (c.loop-source.invariant.walk reading reads modules files told))
