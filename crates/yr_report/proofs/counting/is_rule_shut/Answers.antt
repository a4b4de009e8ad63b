use Rattle.std.proofs.Common.{sym, ap, ◌∙◌}
use Rattle.std.specs.List.{list_any}
use Rattle.yr_answer.specs.Reported.{shuts}
use Rattle.yr_report.specs.Scenes.{judged_of}
use Rattle.yr_report.proofs.counting.is_rule_shut.Goals as goal

pub returns : goal.returns
returns c =
    c.is_shut.ensures ∙ sym (c.requires.shut.same c.namespace.result.now) ∙ ap (λ name. list_any (shuts name) (judged_of c.args.scene.now)) c.namespace.ensures
