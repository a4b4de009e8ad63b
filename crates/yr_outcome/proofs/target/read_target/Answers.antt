use Rattle.std.proofs.Common.{[], ◌∷◌, ap, refl}
use Rattle.yr_outcome.specs.declared.status.Status.TheVariants as status
use Rattle.yr_outcome.specs.Outcome.{after_reads}
use Rattle.yr_outcome.specs.Texts.{too_long}
use Rattle.yr_outcome.proofs.CallerLemmas.{refuses, on_target-long}
use Rattle.yr_outcome.proofs.target.read_target.Goals as goal

pub returns-in-Long-clause-fits : goal.returns-in-Long-clause-fits
returns-in-Long-clause-fits g c = λ setting files told out answer.
    refuses setting files (c.args.target.now ∷ []) _ status.LongTarget (too_long c.args.target.now) c.long_target.result _ _ tt c.long_target.ensures told
    (record { files = c.in-Long.ensures.files; out = refl; noted = c.in-Long.ensures.trace })
    (λ found. ap (after_reads (c.args.target.now ∷ [])) (on_target-long files c.args.target.now (answer found) (files c.args.target.now) _ (c.in-Long.ensures.reads.1 files told)))

pub returns-in-Failed-clause-fits : goal.returns-in-Failed-clause-fits
returns-in-Failed-clause-fits g c = λ setting files told out answer found. record {
  written = refl;
  files = c.in-Failed.ensures.files;
  noted = record { done = []; rest = _; whole = refl; added = c.in-Failed.ensures.trace };
}
