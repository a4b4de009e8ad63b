use Rattle.std.proofs.Common.{sym, ◌∙◌}
use Rattle.yr_verifier.proofs.WalkLemmas.{kept_opened}
use Rattle.yr_verifier.proofs.walk.Walk.start.Goals as goal

pub returns-then-keeps-clause-verdict : goal.returns-then-keeps-clause-verdict
returns-then-keeps-clause-verdict c =
    c.open_loop.ensures.verdict
    ∙ kept_opened _ c.args.keeps c.args.strings _ c.args.place c.args.end c.in-Some.height c.height-all.result c.args.self.now.kinds c.args.self.now.blocks
    (sym c.loop_ends_well.ensures.value ∙ c.if-not-loop_ends_well.false) c.if-keeps.true (sym c.in-Some.ensures.left) c.in-Some.ensures.small c.height-all.ensures.value
