use Rattle.std.proofs.Common.{◌≡◌, ℕ, ◌+◌, ◌<◌, ◌≤◌, Bool, true, List, [], ◌∷◌, length, map, take, drop, reverse, Some, refl, sym, ap, ◌∙◌, subst, arith}
use Rattle.yr_rows.specs.Nodes.{outputs_of}
use Rattle.yr_base.specs.declared.value.Kind.TheVariants as kind
use Rattle.yr_values.specs.Values.{Value}
use Rattle.yr_answer.specs.Truths.{truths_shown, is_yes}
use Rattle.std.proofs.lemmas.List.{length-map, length-drop}
use Rattle.yr_answer.specs.Turns.{Turn, range_turns, item_turns, string_turns}
use Rattle.yr_image.specs.Views.{image_of}
use Rattle.yr_image.specs.declared.instruction.Instruction.{Instruction}
use Rattle.yr_image.specs.declared.instruction.Instruction.TheVariants as i
use Rattle.yr_machine.specs.declared.block.Want.TheVariants as want
use Rattle.yr_machine.specs.Roles.{quantity}
use Rattle.yr_machine.specs.Budget.{instruction_cost}
use Rattle.yr_machine.specs.Counts.{NotStuck}
use Rattle.yr_machine.specs.Machine.{take_values, branch, flag_of, going, machine, begin, is_member, present_turns, act_by}
use Rattle.yr_machine.specs.Named.{names_there}
use Rattle.yr_machine.specs.Operations.{quantifier_of, value_given}
use Rattle.yr_vm.specs.Given.{given}
use Rattle.yr_vm.specs.Taken.{taken_by, wants_of, IsGiven}
use Rattle.yr_vm.specs.Members.{members_in}
use Rattle.yr_vm.specs.OpenLoops.{loops_shown, presents_shown}
use Rattle.yr_vm.specs.States.{seen, outcome_of, turn_outcome, MayBegin}
use Rattle.yr_vm.specs.Worlds.{context_of}
use Rattle.yr_vm.proofs.ActLemmas.{acts, given-role, acts-as, range-goes, list-goes, strings-goes, plain-goes, may-begin, items-are, less-at, two-of, top-short, costs-one}
use Rattle.yr_vm.proofs.LoopLemmas.{same-length, same-presents}
use Rattle.yr_vm.proofs.OperandLemmas.{is-there}
use Rattle.yr_vm.proofs.MemberLemmas.{rows-there}
use Rattle.yr_vm.proofs.acting.act.Goals as goal

pub returns-in-End-clause-outcome : goal.returns-in-End-clause-outcome
returns-in-End-clause-outcome g c occurs knows =
    let goes = c.requires.goes occurs knows in
    let world = c.args.world.now in
    let context = context_of g.M.Modules.field_of g.M.Modules.call_of world occurs in
    let truths = truths_shown c.args.truths.now in
    let s = c.args.state.now in
    let lists = (image_of world.image).lists in
    let m = seen lists s in
    let a = acts-as context truths c.args.instruction (i.End) m c.in-End.is goes in
    c.finish.ensures.outcome lists ∙ sym a.2

pub begin_range-requires-clause-goes : goal.begin_range-requires-clause-goes
begin_range-requires-clause-goes g c v w e =
    let occurs = c.requires.knows.0 in
    let goes = c.requires.goes occurs c.requires.knows.1 in
    let world = c.args.world.now in
    let context = context_of g.M.Modules.field_of g.M.Modules.call_of world occurs in
    let truths = truths_shown c.args.truths.now in
    let s = c.args.state.now in
    let lists = (image_of world.image).lists in
    let m = seen lists s in
    let a = acts-as context truths c.args.instruction (i.LoopRange c.in-LoopRange.quantifier c.in-LoopRange.end) m c.in-LoopRange.is goes in
    let q = c.in-LoopRange.quantifier in
    let end = c.in-LoopRange.end in
    let n = length (quantity q) in
    let below = drop (2 + n) s.stack in
    let r = range-goes context truths q end m a.1 in
    subst (λ k. MayBegin (quantifier_of q (take n (drop 2 s.stack))) (range_turns v w) k (length below)) (same-length lists s.loops)
    (may-begin (quantifier_of q (take n (drop 2 s.stack))) (range_turns v w) s.place end 0 below below m.loops (subst NotStuck (r.1 v w e) a.1))

pub returns-in-LoopRange-clause-outcome : goal.returns-in-LoopRange-clause-outcome
returns-in-LoopRange-clause-outcome g c occurs knows =
    let goes = c.requires.goes occurs knows in
    let world = c.args.world.now in
    let context = context_of g.M.Modules.field_of g.M.Modules.call_of world occurs in
    let truths = truths_shown c.args.truths.now in
    let s = c.args.state.now in
    let lists = (image_of world.image).lists in
    let m = seen lists s in
    let a = acts-as context truths c.args.instruction (i.LoopRange c.in-LoopRange.quantifier c.in-LoopRange.end) m c.in-LoopRange.is goes in
    let r = range-goes context truths c.in-LoopRange.quantifier c.in-LoopRange.end m a.1 in
    let t = two-of s.stack (omega (arith, r.0)) in
    c.begin_range.ensures lists t.1 t.0 t.2 ∙ sym (a.2 ∙ r.1 t.1 t.0 t.2)

pub begin_list-requires-clause-there : goal.begin_list-requires-clause-there
begin_list-requires-clause-there g c =
    let occurs = c.requires.knows.0 in
    let goes = c.requires.goes occurs c.requires.knows.1 in
    let world = c.args.world.now in
    let context = context_of g.M.Modules.field_of g.M.Modules.call_of world occurs in
    let truths = truths_shown c.args.truths.now in
    let s = c.args.state.now in
    let lists = (image_of world.image).lists in
    let m = seen lists s in
    let a = acts-as context truths c.args.instruction (i.LoopList c.in-LoopList.quantifier c.in-LoopList.end c.in-LoopList.items) m c.in-LoopList.is goes in
    (list-goes context truths c.in-LoopList.quantifier c.in-LoopList.end m c.in-LoopList.items a.1).0

pub begin_list-requires-clause-items : goal.begin_list-requires-clause-items
begin_list-requires-clause-items g c =
    let occurs = c.requires.knows.0 in
    let goes = c.requires.goes occurs c.requires.knows.1 in
    let world = c.args.world.now in
    let context = context_of g.M.Modules.field_of g.M.Modules.call_of world occurs in
    let truths = truths_shown c.args.truths.now in
    let s = c.args.state.now in
    let lists = (image_of world.image).lists in
    let m = seen lists s in
    let a = acts-as context truths c.args.instruction (i.LoopList c.in-LoopList.quantifier c.in-LoopList.end c.in-LoopList.items) m c.in-LoopList.is goes in
    items-are c.in-LoopList.items (quantity c.in-LoopList.quantifier) s.stack
    (list-goes context truths c.in-LoopList.quantifier c.in-LoopList.end m c.in-LoopList.items a.1).1

pub begin_list-requires-clause-goes : goal.begin_list-requires-clause-goes
begin_list-requires-clause-goes g c =
    let occurs = c.requires.knows.0 in
    let goes = c.requires.goes occurs c.requires.knows.1 in
    let world = c.args.world.now in
    let context = context_of g.M.Modules.field_of g.M.Modules.call_of world occurs in
    let truths = truths_shown c.args.truths.now in
    let s = c.args.state.now in
    let lists = (image_of world.image).lists in
    let m = seen lists s in
    let a = acts-as context truths c.args.instruction (i.LoopList c.in-LoopList.quantifier c.in-LoopList.end c.in-LoopList.items) m c.in-LoopList.is goes in
    let q = c.in-LoopList.quantifier in
    let end = c.in-LoopList.end in
    let items = c.in-LoopList.items in
    let n = length (quantity q) in
    let turns = Some (item_turns (reverse (take items s.stack))) in
    let below = drop (items + n) s.stack in
    let r = list-goes context truths q end m items a.1 in
    subst (λ k. MayBegin (quantifier_of q (take n (drop items s.stack))) turns k (length below)) (same-length lists s.loops)
    (may-begin (quantifier_of q (take n (drop items s.stack))) turns s.place end (items + n) s.stack below m.loops (subst NotStuck r.2 a.1))

pub returns-in-LoopList-clause-outcome : goal.returns-in-LoopList-clause-outcome
returns-in-LoopList-clause-outcome g c occurs knows =
    let goes = c.requires.goes occurs knows in
    let world = c.args.world.now in
    let context = context_of g.M.Modules.field_of g.M.Modules.call_of world occurs in
    let truths = truths_shown c.args.truths.now in
    let s = c.args.state.now in
    let lists = (image_of world.image).lists in
    let m = seen lists s in
    let a = acts-as context truths c.args.instruction (i.LoopList c.in-LoopList.quantifier c.in-LoopList.end c.in-LoopList.items) m c.in-LoopList.is goes in
    c.begin_list.ensures lists
    ∙ sym (a.2 ∙ (list-goes context truths c.in-LoopList.quantifier c.in-LoopList.end m c.in-LoopList.items a.1).2)

pub begin_strings-requires-clause-goes : goal.begin_strings-requires-clause-goes
begin_strings-requires-clause-goes g c =
    let occurs = c.requires.knows.0 in
    let goes = c.requires.goes occurs c.requires.knows.1 in
    let world = c.args.world.now in
    let context = context_of g.M.Modules.field_of g.M.Modules.call_of world occurs in
    let truths = truths_shown c.args.truths.now in
    let s = c.args.state.now in
    let lists = (image_of world.image).lists in
    let m = seen lists s in
    let a = acts-as context truths c.args.instruction (i.LoopStrings c.in-LoopStrings.quantifier c.in-LoopStrings.end c.in-LoopStrings.first c.in-LoopStrings.rows) m c.in-LoopStrings.is goes in
    let o = c.in-LoopStrings in
    let q = o.quantifier in
    let n = length (quantity q) in
    let turns = Some (string_turns (members_in lists o.first o.rows)) in
    let below = drop n s.stack in
    let r = strings-goes context truths q o.end m o.first o.rows a.1 in
    let may = subst (λ k. MayBegin (quantifier_of q (take n (drop 0 s.stack))) turns k (length below)) (same-length lists s.loops)
    (may-begin (quantifier_of q (take n (drop 0 s.stack))) turns s.place o.end 0 below below m.loops (subst NotStuck r.1 a.1)) in
    subst (λ (bytes : List ℕ). MayBegin (quantifier_of q (take n (drop 0 s.stack))) (Some (string_turns (members_in (outputs_of bytes) o.first o.rows)))
    (length (presents_shown s.loops)) (length below)) (sym c.bytes_of.ensures) may

pub returns-in-LoopStrings-clause-outcome : goal.returns-in-LoopStrings-clause-outcome
returns-in-LoopStrings-clause-outcome g c occurs knows =
    let goes = c.requires.goes occurs knows in
    let world = c.args.world.now in
    let context = context_of g.M.Modules.field_of g.M.Modules.call_of world occurs in
    let truths = truths_shown c.args.truths.now in
    let s = c.args.state.now in
    let lists = (image_of world.image).lists in
    let m = seen lists s in
    let a = acts-as context truths c.args.instruction (i.LoopStrings c.in-LoopStrings.quantifier c.in-LoopStrings.end c.in-LoopStrings.first c.in-LoopStrings.rows) m c.in-LoopStrings.is goes in
    let o = c.in-LoopStrings in
    let q = o.quantifier in
    let n = length (quantity q) in
    let below = drop n s.stack in
    subst (λ (bytes : List ℕ). outcome_of (outputs_of bytes) c.begin_strings.result c.begin_strings.new.state
    ≡ begin (quantifier_of q (take n (drop 0 s.stack))) (Some (string_turns (members_in (outputs_of bytes) o.first o.rows))) s.place o.end 0 below below
    (loops_shown (outputs_of bytes) s.loops)) c.bytes_of.ensures c.begin_strings.ensures
    ∙ sym (a.2 ∙ (strings-goes context truths q o.end m o.first o.rows a.1).1)

pub end_turn-requires : goal.end_turn-requires
end_turn-requires g c =
    let occurs = c.requires.knows.0 in
    let goes = c.requires.goes occurs c.requires.knows.1 in
    let world = c.args.world.now in
    let context = context_of g.M.Modules.field_of g.M.Modules.call_of world occurs in
    let truths = truths_shown c.args.truths.now in
    let s = c.args.state.now in
    let lists = (image_of world.image).lists in
    let m = seen lists s in
    let a = acts-as context truths c.args.instruction (i.LoopEnd c.in-LoopEnd.c) m c.in-LoopEnd.is goes in
    subst (λ (bytes : List ℕ). NotStuck (turn_outcome c.in-LoopEnd.c s.stack (loops_shown (outputs_of bytes) s.loops))) (sym c.bytes_of-in-LoopEnd.ensures) a.1

pub test_program-requires-clause-program : goal.test_program-requires-clause-program
test_program-requires-clause-program g c =
    let occurs = c.requires.knows.0 in
    let goes = c.requires.goes occurs c.requires.knows.1 in
    let world = c.args.world.now in
    let context = context_of g.M.Modules.field_of g.M.Modules.call_of world occurs in
    let truths = truths_shown c.args.truths.now in
    let s = c.args.state.now in
    let lists = (image_of world.image).lists in
    let m = seen lists s in
    let a = acts-as context truths c.args.instruction (i.Matches c.in-Matches.c) m c.in-Matches.is goes in
    less-at c.in-Matches.c (length context.image.programs) a.0

pub returns-in-Matches-clause-outcome : goal.returns-in-Matches-clause-outcome
returns-in-Matches-clause-outcome g c occurs knows =
    let goes = c.requires.goes occurs knows in
    let world = c.args.world.now in
    let context = context_of g.M.Modules.field_of g.M.Modules.call_of world occurs in
    let truths = truths_shown c.args.truths.now in
    let s = c.args.state.now in
    let lists = (image_of world.image).lists in
    let m = seen lists s in
    let a = acts-as context truths c.args.instruction (i.Matches c.in-Matches.c) m c.in-Matches.is goes in
    let p = plain-goes context truths (i.Matches c.in-Matches.c) (want.Of kind.Text ∷ []) kind.Flag m a.1 in
    ap (λ (stack : List Value). going (machine (s.place + 1) stack m.loops))
    (c.test_program.ensures.value context truths (present_turns m.loops) refl knows)
    ∙ sym (a.2 ∙ p.2)

pub returns-in-Matches-clause-most : goal.returns-in-Matches-clause-most
returns-in-Matches-clause-most g c x short =
    let occurs = c.requires.knows.0 in
    let goes = c.requires.goes occurs c.requires.knows.1 in
    let world = c.args.world.now in
    let context = context_of g.M.Modules.field_of g.M.Modules.call_of world occurs in
    let truths = truths_shown c.args.truths.now in
    let s = c.args.state.now in
    let lists = (image_of world.image).lists in
    let m = seen lists s in
    let a = acts-as context truths c.args.instruction (i.Matches c.in-Matches.c) m c.in-Matches.is goes in
    let p = plain-goes context truths (i.Matches c.in-Matches.c) (want.Of kind.Text ∷ []) kind.Flag m a.1 in
    let t = top-short x s.stack (omega (arith, p.0)) short in
    omega (arith, c.test_program.ensures.most_cost x t.0 t.1 t.2, ap (instruction_cost (image_of world.image) x) c.in-Matches.is)

pub give-requires-clause-given : goal.give-requires-clause-given
give-requires-clause-given g c =
    let occurs = c.requires.knows.0 in
    let goes = c.requires.goes occurs c.requires.knows.1 in
    let world = c.args.world.now in
    let image = image_of world.image in
    let context = context_of g.M.Modules.field_of g.M.Modules.call_of world occurs in
    let truths = truths_shown c.args.truths.now in
    let s = c.args.state.now in
    let lists = image.lists in
    let m = seen lists s in
    let instr = c.args.instruction in
    let d = c.in_default in
    let o = given-role image instr d.not-End d.not-Matches d.not-SkipFalse d.not-SkipTrue d.not-LoopRange d.not-LoopList d.not-LoopStrings d.not-LoopEnd in
    subst (λ r. IsGiven r instr) (sym o.2) o.3

pub give-requires-clause-names : goal.give-requires-clause-names
give-requires-clause-names g c =
    let occurs = c.requires.knows.0 in
    let goes = c.requires.goes occurs c.requires.knows.1 in
    let world = c.args.world.now in
    let image = image_of world.image in
    let context = context_of g.M.Modules.field_of g.M.Modules.call_of world occurs in
    let truths = truths_shown c.args.truths.now in
    let s = c.args.state.now in
    let lists = image.lists in
    let m = seen lists s in
    let instr = c.args.instruction in
    let d = c.in_default in
    let o = given-role image instr d.not-End d.not-Matches d.not-SkipFalse d.not-SkipTrue d.not-LoopRange d.not-LoopList d.not-LoopStrings d.not-LoopEnd in
    let a = acts context truths instr m goes in
    ap (λ (turns : List Turn). names_there image (length c.args.truths.now) (map is_member turns) instr) (sym (same-presents lists s.loops))
    ∙ ap (λ n. names_there image n (map is_member (present_turns m.loops)) instr) (sym (length-map c.args.truths.now is_yes))
    ∙ a.0

pub give-requires-clause-there : goal.give-requires-clause-there
give-requires-clause-there g c =
    let occurs = c.requires.knows.0 in
    let goes = c.requires.goes occurs c.requires.knows.1 in
    let world = c.args.world.now in
    let image = image_of world.image in
    let context = context_of g.M.Modules.field_of g.M.Modules.call_of world occurs in
    let truths = truths_shown c.args.truths.now in
    let s = c.args.state.now in
    let lists = image.lists in
    let m = seen lists s in
    let instr = c.args.instruction in
    let d = c.in_default in
    let o = given-role image instr d.not-End d.not-Matches d.not-SkipFalse d.not-SkipTrue d.not-LoopRange d.not-LoopList d.not-LoopStrings d.not-LoopEnd in
    let a = acts context truths instr m goes in
    let p = plain-goes context truths instr o.0 o.1 m (subst (λ r. NotStuck (act_by context truths r instr m)) o.2 (subst NotStuck a.1 goes)) in
    let size : taken_by image instr ≡ length o.0 = ap (λ r. length (wants_of r)) o.2 in
    omega (arith, p.0, size)

pub give-requires-clause-room : goal.give-requires-clause-room
give-requires-clause-room g c =
    let occurs = c.requires.knows.0 in
    let goes = c.requires.goes occurs c.requires.knows.1 in
    let world = c.args.world.now in
    let image = image_of world.image in
    let context = context_of g.M.Modules.field_of g.M.Modules.call_of world occurs in
    let truths = truths_shown c.args.truths.now in
    let s = c.args.state.now in
    let lists = image.lists in
    let m = seen lists s in
    let instr = c.args.instruction in
    let d = c.in_default in
    let o = given-role image instr d.not-End d.not-Matches d.not-SkipFalse d.not-SkipTrue d.not-LoopRange d.not-LoopList d.not-LoopStrings d.not-LoopEnd in
    let a = acts context truths instr m goes in
    let p = plain-goes context truths instr o.0 o.1 m (subst (λ r. NotStuck (act_by context truths r instr m)) o.2 (subst NotStuck a.1 goes)) in
    let size : taken_by image instr ≡ length o.0 = ap (λ r. length (wants_of r)) o.2 in
    omega (arith, p.0, p.1, size, length-drop (length o.0) s.stack)

pub returns-in_default-clause-outcome : goal.returns-in_default-clause-outcome
returns-in_default-clause-outcome g c occurs knows =
    let goes = c.requires.goes occurs knows in
    let world = c.args.world.now in
    let image = image_of world.image in
    let context = context_of g.M.Modules.field_of g.M.Modules.call_of world occurs in
    let truths = truths_shown c.args.truths.now in
    let s = c.args.state.now in
    let lists = image.lists in
    let m = seen lists s in
    let instr = c.args.instruction in
    let d = c.in_default in
    let o = given-role image instr d.not-End d.not-Matches d.not-SkipFalse d.not-SkipTrue d.not-LoopRange d.not-LoopList d.not-LoopStrings d.not-LoopEnd in
    let a = acts context truths instr m goes in
    let p = plain-goes context truths instr o.0 o.1 m (subst (λ r. NotStuck (act_by context truths r instr m)) o.2 (subst NotStuck a.1 goes)) in
    let size : taken_by image instr ≡ length o.0 = ap (λ r. length (wants_of r)) o.2 in
    ap (λ (stack : List Value). going (machine (s.place + 1) stack m.loops)) (c.give.ensures occurs)
    ∙ ap (λ n. going (machine (s.place + 1) (given n (value_given context truths (presents_shown s.loops) instr) s.stack) m.loops)) size
    ∙ ap (λ (turns : List Turn). going (machine (s.place + 1) (given (length o.0) (value_given context truths turns instr) s.stack) m.loops)) (sym (same-presents lists s.loops))
    ∙ sym (a.1 ∙ ap (λ r. act_by context truths r instr m) o.2 ∙ p.2)

pub returns-in_default-clause-most : goal.returns-in_default-clause-most
returns-in_default-clause-most g c x short = omega (arith, costs-one (image_of c.args.world.now.image) x c.args.instruction)

pub finish-requires : goal.finish-requires
finish-requires g c =
    let occurs = c.requires.knows.0 in
    let goes = c.requires.goes occurs c.requires.knows.1 in
    let world = c.args.world.now in
    let context = context_of g.M.Modules.field_of g.M.Modules.call_of world occurs in
    let truths = truths_shown c.args.truths.now in
    let s = c.args.state.now in
    let lists = (image_of world.image).lists in
    let m = seen lists s in
    let a = acts-as context truths c.args.instruction (i.End) m c.in-End.is goes in
    a.1

pub skip-requires-clause-flag : goal.skip-requires-clause-flag
skip-requires-clause-flag g c =
    let occurs = c.requires.knows.0 in
    let goes = c.requires.goes occurs c.requires.knows.1 in
    let world = c.args.world.now in
    let context = context_of g.M.Modules.field_of g.M.Modules.call_of world occurs in
    let truths = truths_shown c.args.truths.now in
    let s = c.args.state.now in
    let lists = (image_of world.image).lists in
    let m = seen lists s in
    let a = acts-as context truths c.args.instruction (i.SkipFalse c.in-SkipFalse.end) m c.in-SkipFalse.is goes in
    is-there (take_values (want.Of kind.Flag ∷ []) s.stack)
    (λ (operands below : List Value). branch (i.SkipFalse c.in-SkipFalse.end) (flag_of operands) s.place below m.loops) a.1

pub returns-in-SkipFalse-clause-outcome : goal.returns-in-SkipFalse-clause-outcome
returns-in-SkipFalse-clause-outcome g c occurs knows =
    let goes = c.requires.goes occurs knows in
    let world = c.args.world.now in
    let context = context_of g.M.Modules.field_of g.M.Modules.call_of world occurs in
    let truths = truths_shown c.args.truths.now in
    let s = c.args.state.now in
    let lists = (image_of world.image).lists in
    let m = seen lists s in
    let a = acts-as context truths c.args.instruction (i.SkipFalse c.in-SkipFalse.end) m c.in-SkipFalse.is goes in
    c.skip.ensures lists ∙ sym a.2

pub skip-requires-in-SkipTrue-clause-flag : goal.skip-requires-in-SkipTrue-clause-flag
skip-requires-in-SkipTrue-clause-flag g c =
    let occurs = c.requires.knows.0 in
    let goes = c.requires.goes occurs c.requires.knows.1 in
    let world = c.args.world.now in
    let context = context_of g.M.Modules.field_of g.M.Modules.call_of world occurs in
    let truths = truths_shown c.args.truths.now in
    let s = c.args.state.now in
    let lists = (image_of world.image).lists in
    let m = seen lists s in
    let a = acts-as context truths c.args.instruction (i.SkipTrue c.in-SkipTrue.end) m c.in-SkipTrue.is goes in
    is-there (take_values (want.Of kind.Flag ∷ []) s.stack)
    (λ (operands below : List Value). branch (i.SkipTrue c.in-SkipTrue.end) (flag_of operands) s.place below m.loops) a.1

pub returns-in-SkipTrue-clause-outcome : goal.returns-in-SkipTrue-clause-outcome
returns-in-SkipTrue-clause-outcome g c occurs knows =
    let goes = c.requires.goes occurs knows in
    let world = c.args.world.now in
    let context = context_of g.M.Modules.field_of g.M.Modules.call_of world occurs in
    let truths = truths_shown c.args.truths.now in
    let s = c.args.state.now in
    let lists = (image_of world.image).lists in
    let m = seen lists s in
    let a = acts-as context truths c.args.instruction (i.SkipTrue c.in-SkipTrue.end) m c.in-SkipTrue.is goes in
    c.skip-in-SkipTrue.ensures lists ∙ sym a.2

pub begin_range-requires-clause-there : goal.begin_range-requires-clause-there
begin_range-requires-clause-there g c =
    let occurs = c.requires.knows.0 in
    let goes = c.requires.goes occurs c.requires.knows.1 in
    let world = c.args.world.now in
    let context = context_of g.M.Modules.field_of g.M.Modules.call_of world occurs in
    let truths = truths_shown c.args.truths.now in
    let s = c.args.state.now in
    let lists = (image_of world.image).lists in
    let m = seen lists s in
    let a = acts-as context truths c.args.instruction (i.LoopRange c.in-LoopRange.quantifier c.in-LoopRange.end) m c.in-LoopRange.is goes in
    (range-goes context truths c.in-LoopRange.quantifier c.in-LoopRange.end m a.1).0

pub begin_strings-requires-clause-rows : goal.begin_strings-requires-clause-rows
begin_strings-requires-clause-rows g c some =
    let occurs = c.requires.knows.0 in
    let goes = c.requires.goes occurs c.requires.knows.1 in
    let world = c.args.world.now in
    let context = context_of g.M.Modules.field_of g.M.Modules.call_of world occurs in
    let truths = truths_shown c.args.truths.now in
    let s = c.args.state.now in
    let lists = (image_of world.image).lists in
    let m = seen lists s in
    let a = acts-as context truths c.args.instruction (i.LoopStrings c.in-LoopStrings.quantifier c.in-LoopStrings.end c.in-LoopStrings.first c.in-LoopStrings.rows) m c.in-LoopStrings.is goes in
    let o = c.in-LoopStrings in
    subst (λ (bytes : List ℕ). o.first + o.rows ≤ length (outputs_of bytes)) (sym c.bytes_of.ensures)
    (rows-there lists o.first o.rows (length context.image.strings) a.0 some)

pub begin_strings-requires-clause-there : goal.begin_strings-requires-clause-there
begin_strings-requires-clause-there g c =
    let occurs = c.requires.knows.0 in
    let goes = c.requires.goes occurs c.requires.knows.1 in
    let world = c.args.world.now in
    let context = context_of g.M.Modules.field_of g.M.Modules.call_of world occurs in
    let truths = truths_shown c.args.truths.now in
    let s = c.args.state.now in
    let lists = (image_of world.image).lists in
    let m = seen lists s in
    let a = acts-as context truths c.args.instruction (i.LoopStrings c.in-LoopStrings.quantifier c.in-LoopStrings.end c.in-LoopStrings.first c.in-LoopStrings.rows) m c.in-LoopStrings.is goes in
    let o = c.in-LoopStrings in
    (strings-goes context truths o.quantifier o.end m o.first o.rows a.1).0

pub test_program-requires-clause-there : goal.test_program-requires-clause-there
test_program-requires-clause-there g c =
    let occurs = c.requires.knows.0 in
    let goes = c.requires.goes occurs c.requires.knows.1 in
    let world = c.args.world.now in
    let context = context_of g.M.Modules.field_of g.M.Modules.call_of world occurs in
    let truths = truths_shown c.args.truths.now in
    let s = c.args.state.now in
    let lists = (image_of world.image).lists in
    let m = seen lists s in
    let a = acts-as context truths c.args.instruction (i.Matches c.in-Matches.c) m c.in-Matches.is goes in
    (plain-goes context truths (i.Matches c.in-Matches.c) (want.Of kind.Text ∷ []) kind.Flag m a.1).0
