use Rattle.std.proofs.Common.{◌≡◌, List, length, take, drop, sym, ap, ◌∙◌}
use Rattle.yr_rows.specs.Nodes.{outputs_of}
use Rattle.yr_values.specs.Values.{shown}
use Rattle.yr_answer.specs.Truths.{truths_shown}
use Rattle.yr_answer.specs.Lookups.{anywhere, at_offset, in_range}
use Rattle.yr_answer.specs.MatchList.{Match}
use Rattle.yr_machine.specs.Operations.{of_value, quantifier_of}
use Rattle.yr_machine.specs.Roles.{quantity, of_wants}
use Rattle.yr_vm.specs.Members.{members_in}
use Rattle.yr_vm.specs.Sets.{strings_value}
use Rattle.yr_vm.proofs.SetLemmas.{of-match, of-at, of-in}
use Rattle.yr_vm.proofs.sets.set_value.Goals as goal

pub returns-in-Match : goal.returns-in-Match
returns-in-Match c context turns e =
    let truths = truths_shown c.args.truths.now in
    let kind = c.args.kind in
    let stack = c.args.stack.now in
    let members = members_in (outputs_of c.args.lists.now) c.args.first c.args.rows in
    c.judge_strings.ensures
    ∙ ap (λ q. strings_value c.args.matches.now.lists members q anywhere) c.quantifier-quantifier.ensures
    ∙ ap (λ (lists : List (List Match)). strings_value lists members (quantifier_of kind (take (length (quantity kind)) (drop 0 stack))) anywhere) (sym e)
    ∙ of-match context truths turns kind members stack
    ∙ ap (λ f. of_value context truths turns f kind members (take (length (of_wants f (quantity kind))) stack)) (sym c.in-Match.is)

pub returns-in-MatchAt : goal.returns-in-MatchAt
returns-in-MatchAt c context turns e =
    let truths = truths_shown c.args.truths.now in
    let kind = c.args.kind in
    let stack = c.args.stack.now in
    let members = members_in (outputs_of c.args.lists.now) c.args.first c.args.rows in
    let v = shown c.one.result.now in
    c.judge_strings-in-MatchAt.ensures
    ∙ ap (λ asked. strings_value c.args.matches.now.lists members c.quantifier-quantifier-in-MatchAt.result asked) c.asked_at-asked.ensures
    ∙ ap (λ q. strings_value c.args.matches.now.lists members q (at_offset v)) c.quantifier-quantifier-in-MatchAt.ensures
    ∙ ap (λ (lists : List (List Match)). strings_value lists members (quantifier_of kind (take (length (quantity kind)) (drop 1 stack))) (at_offset v)) (sym e)
    ∙ of-at context truths turns kind members stack v c.one.ensures.operand
    ∙ ap (λ f. of_value context truths turns f kind members (take (length (of_wants f (quantity kind))) stack)) (sym c.in-MatchAt.is)

pub returns-in-MatchIn : goal.returns-in-MatchIn
returns-in-MatchIn c context turns e =
    let truths = truths_shown c.args.truths.now in
    let kind = c.args.kind in
    let stack = c.args.stack.now in
    let members = members_in (outputs_of c.args.lists.now) c.args.first c.args.rows in
    let v = shown c.two.result.0.now in
    let w = shown c.two.result.1.now in
    c.judge_strings-in-MatchIn.ensures
    ∙ ap (λ asked. strings_value c.args.matches.now.lists members c.quantifier-quantifier-in-MatchIn.result asked) c.asked_within-asked.ensures
    ∙ ap (λ q. strings_value c.args.matches.now.lists members q (in_range v w)) c.quantifier-quantifier-in-MatchIn.ensures
    ∙ ap (λ (lists : List (List Match)). strings_value lists members (quantifier_of kind (take (length (quantity kind)) (drop 2 stack))) (in_range v w)) (sym e)
    ∙ of-in context truths turns kind members stack w v c.two.ensures.operands
    ∙ ap (λ f. of_value context truths turns f kind members (take (length (of_wants f (quantity kind))) stack)) (sym c.in-MatchIn.is)
