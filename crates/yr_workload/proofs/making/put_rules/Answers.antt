use Rattle.std.proofs.Common.{◌≡◌, ◌++◌, sym, ap, ◌∙◌, arith}
use Rattle.std.specs.List.{flat_map, range_with_len}
use Rattle.yr_workload.specs.Workload.{line_with, rule_line}
use Rattle.yr_workload.proofs.DrawLemmas.{flat_map_next}
use Rattle.yr_workload.proofs.making.put_rules.Goals as goal

pub loop-i-preserved : goal.loop-i-preserved
loop-i-preserved c =
    let i = c.loop-i.i in
    let number = c.args.number in
    c.in_ok-put_rule.ensures ∙ ap (λ w. c.loop-i.rules.items ++ line_with w i) c.word_of-word.ensures
    ∙ ap (λ l. l ++ rule_line number i) c.loop-i.invariant ∙ sym (flat_map_next (rule_line number) i)

pub returns : goal.returns
returns c =
    let all : c.loop-i.i ≡ c.args.count = omega (arith, c.loop-i-test.false, c.loop-i.auto.i-end) in
    c.loop-i.invariant ∙ ap (λ n. flat_map (rule_line c.args.number) (range_with_len 0 n)) all
