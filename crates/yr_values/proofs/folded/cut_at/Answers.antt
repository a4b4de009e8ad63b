use Rattle.std.proofs.Common.{sym, subst, length, refl}
use Rattle.std.proofs.lemmas.Bool.{false≢true}
use Rattle.memchr.proofs.lemmas.CriticalLemmas.{IsCut-long, IsCut-small}
use Rattle.yr_values.specs.Folded.{folded_at, IsCutOf}
use Rattle.yr_values.proofs.FoldedLemmas.{IsCutOf-large, IsCutOf-small}
use Rattle.yr_values.proofs.folded.cut_at.Goals as goal

pub returns-then-not-repeats_before : goal.returns-then-not-repeats_before
returns-then-not-repeats_before c =
    let x = folded_at c.args.part.now in
    let m = length c.args.part.now in
    subst (λ s. IsCutOf x m c.args.critical s 0) (sym c.max-shift.ensures)
    (IsCutOf-large x m c.args.critical _ (IsCut-long x m c.args.critical c.args.period c.requires (λ all. false≢true (c.if-not-repeats_before.ensures.1 all))))

pub returns : goal.returns
returns c = IsCutOf-small _ _ _ _ (IsCut-small _ _ _ _ c.requires (c.if-not-repeats_before.ensures.0 refl))
