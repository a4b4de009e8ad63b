use Rattle.std.proofs.Common.{refl, ◌∙◌}
use Rattle.yr_lexer.proofs.PathLemmas.{refused-here}
use Rattle.yr_lexer.proofs.gathering.refusal_of.Goals as goal

pub returns-in-Ok-clause-lexed : goal.returns-in-Ok-clause-lexed
returns-in-Ok-clause-lexed c = λ lexed is text h.
    (refused-here lexed is text text c.args.fault refl c.in_default.not-NoMemory h, c.in-Ok.ensures.ok ∙ c.as_str.ensures.value)
