use Rattle.std.proofs.Common.{◌≡◌, ◌∙◌, refl, sym}
use Rattle.yr_conditions.proofs.PathLemmas.{other-front, other-middle, same-word}
use Rattle.yr_conditions.proofs.module.is_entry_path.Goals as goal

pub returns-in-None : goal.returns-in-None
returns-in-None c = other-front c.args.array.now c.args.word.now c.args.path.now (c.in-None.ensures.cases)

pub returns-in-None-strip_prefix : goal.returns-in-None-strip_prefix
returns-in-None-strip_prefix c =
    other-middle c.args.array.now c.args.word.now c.args.path.now c.in-Some.behind.now c.in-Some.ensures.cases.1 c.in-None-strip_prefix.ensures.cases

pub returns-in-Some-strip_prefix : goal.returns-in-Some-strip_prefix
returns-in-Some-strip_prefix c =
    c.eq.ensures
    ∙ same-word c.args.array.now c.args.word.now c.args.path.now c.in-Some.behind.now c.in-Some-strip_prefix.name.now
    c.in-Some.ensures.cases.0 c.in-Some.ensures.cases.1 c.in-Some-strip_prefix.ensures.cases.0 c.in-Some-strip_prefix.ensures.cases.1
