use Rattle.std.proofs.Common.{sym, ◌∙◌}
use Rattle.yr_verifier.specs.Rows.{rows_shown, image_shown}
use Rattle.yr_verifier.specs.Effects.{role_of}
use Rattle.yr_verifier.proofs.WalkLemmas.{instruction_goes, same_flags}
use Rattle.yr_verifier.proofs.walk.Walk.pass_instruction.Goals as goal

pub returns-clause-verdict : goal.returns-clause-verdict
returns-clause-verdict c =
    let code = c.args.code.now in
    c.apply.ensures.verdict
    ∙ instruction_goes (image_shown code) code.rule (rows_shown code) c.args.instruction c.args.last (role_of c.effect_of-effect.result) c.args.place c.args.self.now.kinds
    c.args.self.now.blocks c.args.self.now.loops c.effect_of-effect.ensures (sym c.ends.ensures ∙ same_flags c.ends.result c.args.last c.if-ends-last.false) c.requires.agrees (sym c.names_there.ensures ∙ c.if-not-names_there.false)
