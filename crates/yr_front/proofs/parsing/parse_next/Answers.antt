use Rattle.std.proofs.Common.{Ok, ap, sym, ◌∙◌}
use Rattle.yr_outcome.specs.Front.{unit_tree}
use Rattle.yr_syntax.specs.Declaration.{declarations_of}
use Rattle.yr_front.specs.Units.{unit_shown}
use Rattle.yr_front.proofs.parsing.parse_next.Goals as goal

pub returns-clause-parsed : goal.returns-clause-parsed
returns-clause-parsed c = λ reading reads modules.
    let unit = unit_shown c.args.unit.now in
    let next = c.in-Ok.next in (
      next,
      c.in-Ok-push.ensures.items,
      ap (unit_tree reading modules unit) (c.in-Ok.ensures.parsed reading reads)
          ∙ (λ i. Ok (record { space = sym c.in-Ok.ensures.space i; declarations = declarations_of next.decls })),
    )
