use Rattle.std.proofs.Common.{refl, sym, subst}
use Rattle.yr_base.specs.Sink.{Puts}
use Rattle.yr_base.specs.Told.{told_more-nil}
use Rattle.yr_outcome.specs.Examples.{nothing_found}
use Rattle.yr_commands.proofs.working.answer_of.Goals as goal

pub returns-in-Done-clause-fits : goal.returns-in-Done-clause-fits
returns-in-Done-clause-fits c = λ files told is trace text old new before after puts. record {
  found = nothing_found;
  holds = tt;
  status = refl;
  said = refl;
  follows = record {
    written = subst (λ put. Puts old new text put before after) c.in-Done.is puts;
    files = is;
    noted = sym (told_more-nil trace);
  };
}

pub returns-in-Failed-clause-fits : goal.returns-in-Failed-clause-fits
returns-in-Failed-clause-fits c = λ files told is trace text old new before after puts. record {
  found = nothing_found;
  holds = tt;
  whole = refl;
  output_is = refl;
  fails = record {
    written = (subst (λ put. Puts old new text put before after) c.in-Failed.is puts).1;
    files = refl;
    noted = sym (told_more-nil trace);
  };
}
