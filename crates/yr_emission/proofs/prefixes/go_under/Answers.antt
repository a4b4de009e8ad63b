use Rattle.std.proofs.Common.{ap, ◌∙◌}
use Rattle.yr_emission.specs.Prefixed.{prefixed}
use Rattle.yr_emission.proofs.PrefixLemmas.{prefixed_more}
use Rattle.yr_emission.proofs.prefixes.go_under.Goals as goal

pub returns : goal.returns
returns c = λ tree. ap (λ ops. prefixed ops tree) c.in_ok-push.ensures.items ∙ prefixed_more c.args.ops.now.items c.args.op tree
