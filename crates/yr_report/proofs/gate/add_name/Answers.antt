use Rattle.std.proofs.Common.{◌&&◌, ◌||◌, take, sym, ap, ◌∙◌, arith}
use Rattle.std.specs.List.{list_any}
use Rattle.std.specs.Str.{bytes_eq}
use Rattle.yr_report.specs.Scenes.{is_text}
use Rattle.yr_report.proofs.GateLemmas.{or-false, name-more}
use Rattle.yr_report.proofs.gate.add_name.Goals as goal

pub returns-then-more-clause-same : goal.returns-then-more-clause-same
returns-then-more-clause-same c asked =
    let before = list_any (is_text asked) (take c.args.count c.args.names.now) in
    name-more c.args.names.now c.args.count c.args.name asked (omega (arith, c.requires)) ∙ ap (λ b. before || (b && bytes_eq c.args.name.now asked)) (sym c.if-more.true)

pub returns-clause-same : goal.returns-clause-same
returns-clause-same c asked =
    let before = list_any (is_text asked) (take c.args.count c.args.names.now) in
    sym (or-false before) ∙ ap (λ b. before || (b && bytes_eq c.args.name.now asked)) (sym c.if-more.false)
