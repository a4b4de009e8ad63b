use Rattle.std.proofs.Common.{map, ◌∙◌, rules}
use Rattle.yr_base.specs.Bytes.{lowered}
use Rattle.yr_values.proofs.TextLemmas.{has_inside-first, has_inside-none}
use Rattle.yr_values.proofs.FoldedLemmas.{FindsNeedle-folded}
use Rattle.yr_values.proofs.folded.has_inside_in_either_case.Goals as goal

pub returns-then-is_empty : goal.returns-then-is_empty
returns-then-is_empty c = has_inside-none c.args.text.now c.args.part.now (search (rules, c.if-is_empty.ensures))

pub returns : goal.returns
returns c =
    let text = c.args.text.now in
    let part = c.args.part.now in
    c.is_some.ensures ∙ has_inside-first (map lowered text) (map lowered part) c.find.result (FindsNeedle-folded text part c.find.result c.find.ensures)
