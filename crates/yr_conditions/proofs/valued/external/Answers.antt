use Rattle.std.proofs.Common.{◌∙◌, sym}
use Rattle.yr_conditions.proofs.MadeLemmas.{external-there}
use Rattle.yr_conditions.proofs.valued.external.Goals as goal

pub unreachable-requires : goal.unreachable-requires
unreachable-requires c = external-there c.args.externals.now c.args.number c.requires.within (sym c.external_kind.ensures ∙ c.in-None.is)
