use Rattle.std.proofs.Common.{◌≡◌, ℕ, ◌+◌, ◌<◌, ◌≤◌, ◌^◌, Bool, List, length, Option, Some, None, sym, ap, ◌∙◌, subst, arith}
use Rattle.yr_answer.specs.Truths.{truths_shown}
use Rattle.yr_image.specs.Views.{image_of}
use Rattle.yr_image.specs.Image.{code_of}
use Rattle.yr_image.specs.declared.instruction.Instruction.{Instruction}
use Rattle.yr_machine.specs.Budget.{instruction_cost}
use Rattle.std.specs.Option.{option_map_or}
use Rattle.yr_machine.specs.Counts.{NotStuck}
use Rattle.yr_machine.specs.Machine.{act, instruction_at}
use Rattle.yr_vm.specs.States.{seen}
use Rattle.yr_vm.specs.Worlds.{context_of}
use Rattle.yr_vm.proofs.ListLemmas.{row-short}
use Rattle.yr_vm.proofs.StepLemmas.{row-there, row-inside, row-same}
use Rattle.yr_vm.proofs.running.step.Goals as goal

pub overflow_add-rule : goal.overflow_add-rule
overflow_add-rule g c =
    let k = c.requires.knows in
    let occurs = k.0 in
    let goes = c.requires.goes occurs k.1 in
    let world = c.args.world.now in
    let image = image_of world.image in
    let context = context_of g.M.Modules.field_of g.M.Modules.call_of world occurs in
    let truths = truths_shown c.args.truths.now in
    let rule = c.args.rule.now in
    let rows = code_of image rule in
    let s = c.args.state.now in
    let m = seen image.lists s in
    let there = row-there context truths rows m goes in
    let inside : rule.first_code + s.place < length image.code = row-inside image.code rule.first_code rule.code_rows s.place there.0 there.1 in
    omega (arith, inside, c.requires.small)

pub code-row-requires : goal.code-row-requires
code-row-requires g c =
    let k = c.requires.knows in
    let occurs = k.0 in
    let goes = c.requires.goes occurs k.1 in
    let world = c.args.world.now in
    let image = image_of world.image in
    let context = context_of g.M.Modules.field_of g.M.Modules.call_of world occurs in
    let truths = truths_shown c.args.truths.now in
    let rule = c.args.rule.now in
    let rows = code_of image rule in
    let s = c.args.state.now in
    let m = seen image.lists s in
    let there = row-there context truths rows m goes in
    row-inside image.code rule.first_code rule.code_rows s.place there.0 there.1

pub unreachable-requires : goal.unreachable-requires
unreachable-requires g c =
    let k = c.requires.knows in
    let occurs = k.0 in
    let goes = c.requires.goes occurs k.1 in
    let world = c.args.world.now in
    let image = image_of world.image in
    let context = context_of g.M.Modules.field_of g.M.Modules.call_of world occurs in
    let truths = truths_shown c.args.truths.now in
    let rule = c.args.rule.now in
    let rows = code_of image rule in
    let s = c.args.state.now in
    let m = seen image.lists s in
    let there = row-there context truths rows m goes in
    let e : instruction_at rows s.place ≡ None =
    row-same image.code rule.first_code rule.code_rows s.place there.0 there.1 c.code-row.result c.code-row.ensures ∙ sym c.read.ensures ∙ c.in-None.is in
    subst (λ (o : Option Instruction). NotStuck (act context truths o m)) e goes

pub act-requires-clause-near : goal.act-requires-clause-near
act-requires-clause-near g c =
    let k = c.requires.knows in
    let occurs = k.0 in
    let goes = c.requires.goes occurs k.1 in
    let world = c.args.world.now in
    let image = image_of world.image in
    let context = context_of g.M.Modules.field_of g.M.Modules.call_of world occurs in
    let truths = truths_shown c.args.truths.now in
    let rule = c.args.rule.now in
    let rows = code_of image rule in
    let s = c.args.state.now in
    let m = seen image.lists s in
    let there = row-there context truths rows m goes in
    let inside : rule.first_code + s.place < length image.code = row-inside image.code rule.first_code rule.code_rows s.place there.0 there.1 in
    omega (arith, inside, c.requires.small)

pub act-requires-clause-short : goal.act-requires-clause-short
act-requires-clause-short g c = row-short c.code-row.result c.in-Some.instruction (sym c.read.ensures ∙ c.in-Some.is)

pub act-requires-clause-goes : goal.act-requires-clause-goes
act-requires-clause-goes g c occurs knows =
    let goes = c.requires.goes occurs knows in
    let world = c.args.world.now in
    let image = image_of world.image in
    let context = context_of g.M.Modules.field_of g.M.Modules.call_of world occurs in
    let truths = truths_shown c.args.truths.now in
    let rule = c.args.rule.now in
    let rows = code_of image rule in
    let s = c.args.state.now in
    let m = seen image.lists s in
    let there = row-there context truths rows m goes in
    let e : instruction_at rows s.place ≡ Some c.in-Some.instruction =
    row-same image.code rule.first_code rule.code_rows s.place there.0 there.1 c.code-row.result c.code-row.ensures ∙ sym c.read.ensures ∙ c.in-Some.is in
    subst (λ (o : Option Instruction). NotStuck (act context truths o m)) e goes

pub returns-clause-outcome : goal.returns-clause-outcome
returns-clause-outcome g c occurs knows =
    let goes = c.requires.goes occurs knows in
    let world = c.args.world.now in
    let image = image_of world.image in
    let context = context_of g.M.Modules.field_of g.M.Modules.call_of world occurs in
    let truths = truths_shown c.args.truths.now in
    let rule = c.args.rule.now in
    let rows = code_of image rule in
    let s = c.args.state.now in
    let m = seen image.lists s in
    let there = row-there context truths rows m goes in
    let e : instruction_at rows s.place ≡ Some c.in-Some.instruction =
    row-same image.code rule.first_code rule.code_rows s.place there.0 there.1 c.code-row.result c.code-row.ensures ∙ sym c.read.ensures ∙ c.in-Some.is in
    c.act.ensures.outcome occurs knows ∙ sym (ap (λ (o : Option Instruction). act context truths o m) e)

pub returns-clause-most : goal.returns-clause-most
returns-clause-most g c other x short =
    let k = c.requires.knows in
    let occurs = k.0 in
    let goes = c.requires.goes occurs k.1 in
    let world = c.args.world.now in
    let image = image_of world.image in
    let context = context_of g.M.Modules.field_of g.M.Modules.call_of world occurs in
    let truths = truths_shown c.args.truths.now in
    let rule = c.args.rule.now in
    let rows = code_of image rule in
    let s = c.args.state.now in
    let m = seen image.lists s in
    let there = row-there context truths rows m goes in
    let e : instruction_at rows s.place ≡ Some c.in-Some.instruction =
    row-same image.code rule.first_code rule.code_rows s.place there.0 there.1 c.code-row.result c.code-row.ensures ∙ sym c.read.ensures ∙ c.in-Some.is in
    let cost = ap (λ (o : Option Instruction). option_map_or (instruction_cost image x) o 0) e in
    omega (arith, c.act.ensures.most x short, c.tick.ensures, cost)
