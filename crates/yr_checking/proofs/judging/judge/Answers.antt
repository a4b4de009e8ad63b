use Rattle.std.proofs.Common.{◌≡◌, None, Some, sym, ap, ◌∙◌}
use Rattle.std.specs.Option.{option_map}
use Rattle.yr_name_tables.specs.Names.{first}
use Rattle.yr_checks.specs.Refusals.{checks}
use Rattle.yr_checking.specs.AtHand.{given_at, placed_at}
use Rattle.yr_checking.specs.Judged.{rest_fault, rule_fault}
use Rattle.yr_checking.specs.Stages.{early_fault, fault_at}
use Rattle.yr_checking.proofs.JudgeLemmas.{early-of, explains-same, if-err-then, on-ok-then, rest-of, sound-early}
use Rattle.yr_checking.proofs.judging.judge.Goals as goal

pub judge_condition-requires-clause-sound : goal.judge_condition-requires-clause-sound
judge_condition-requires-clause-sound c =
    let given = given_at c.args.at.now in
    let p = placed_at c.args.at.now in
    let none : first (early_fault given p) checks ≡ None = sym c.in_ok-fault.ensures ∙ ap (option_map (fault_at p)) c.in-None.is in
    sound-early given p c.requires.forms.listed none

pub returns-in-Some-clause-refused : goal.returns-in-Some-clause-refused
returns-in-Some-clause-refused c =
    let given = given_at c.args.at.now in
    let p = placed_at c.args.at.now in
    let f = fault_at p c.in-Some.fault in
    let some : first (early_fault given p) checks ≡ Some f = sym c.in_ok-fault.ensures ∙ ap (option_map (fault_at p)) c.in-Some.is in
    explains-same c.refusal.result (Some f) (first (rule_fault given p) checks) (sym (early-of given p f some)) c.refusal.ensures

pub returns-in-None-clause-passed : goal.returns-in-None-clause-passed
returns-in-None-clause-passed c =
    let given = given_at c.args.at.now in
    let p = placed_at c.args.at.now in
    let none : first (early_fault given p) checks ≡ None = sym c.in_ok-fault.ensures ∙ ap (option_map (fault_at p)) c.in-None.is in
    on-ok-then c.judge_condition.result (λ (h : rest_fault given p ≡ None). rest-of given p none ∙ h) c.judge_condition.ensures.passed

pub returns-in-None-clause-refused : goal.returns-in-None-clause-refused
returns-in-None-clause-refused c =
    let given = given_at c.args.at.now in
    let p = placed_at c.args.at.now in
    let none : first (early_fault given p) checks ≡ None = sym c.in_ok-fault.ensures ∙ ap (option_map (fault_at p)) c.in-None.is in
    if-err-then c.judge_condition.result (λ e h. explains-same e (rest_fault given p) (first (rule_fault given p) checks) (sym (rest-of given p none)) h) c.judge_condition.ensures.refused
