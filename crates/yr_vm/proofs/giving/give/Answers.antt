use Rattle.std.proofs.Common.{◌≡◌, ℕ, ◌<◌, Bool, true, List, length, map, sym, ap, ◌∙◌, subst, refl}
use Rattle.yr_rows.specs.Nodes.{outputs_of}
use Rattle.yr_values.specs.Values.{Value}
use Rattle.yr_answer.specs.MatchList.{Match}
use Rattle.yr_answer.specs.Lookups.{anywhere, at_offset, in_range, presence_of, count_of, count_in_of, offset_of, length_of}
use Rattle.yr_answer.specs.Truths.{truths_shown}
use Rattle.yr_image.specs.declared.instruction.Instruction.{Instruction}
use Rattle.yr_image.specs.Views.{image_of}
use Rattle.yr_machine.specs.Machine.{is_member}
use Rattle.yr_machine.specs.Named.{names_there}
use Rattle.yr_machine.specs.Operations.{on_one, on_two, of_value, value_given}
use Rattle.yr_machine.specs.Roles.{quantity, of_wants}
use Rattle.yr_vm.specs.Given.{given}
use Rattle.yr_vm.specs.Members.{members_in}
use Rattle.yr_vm.specs.OpenLoops.{presents_shown}
use Rattle.yr_vm.specs.Taken.{taken_by}
use Rattle.yr_vm.specs.Worlds.{context_of}
use Rattle.yr_vm.proofs.NameLemmas.{variable-inside, named-there}
use Rattle.yr_vm.proofs.giving.give.Goals as goal

pub variable-requires-clause-there : goal.variable-requires-clause-there
variable-requires-clause-there g c =
    let image = image_of c.args.world.now.image in
    let turns = presents_shown c.args.loops.now in
    variable-inside turns c.in-Var.c
    (ap (names_there image (length c.args.truths.now) (map is_member turns)) (sym c.in-Var.is) ∙ c.requires.names)

pub string_of-requires : goal.string_of-requires
string_of-requires g c =
    let image = image_of c.args.world.now.image in
    let turns = presents_shown c.args.loops.now in
    named-there (length c.args.world.now.matches.now.lists) image (length c.args.truths.now) turns c.in-Has.s c.requires.lists c.requires.among
    (ap (names_there image (length c.args.truths.now) (map is_member turns)) (sym c.in-Has.is) ∙ c.requires.names)

pub string_of-requires-in-HasAt : goal.string_of-requires-in-HasAt
string_of-requires-in-HasAt g c =
    let image = image_of c.args.world.now.image in
    let turns = presents_shown c.args.loops.now in
    named-there (length c.args.world.now.matches.now.lists) image (length c.args.truths.now) turns c.in-HasAt.s c.requires.lists c.requires.among
    (ap (names_there image (length c.args.truths.now) (map is_member turns)) (sym c.in-HasAt.is) ∙ c.requires.names)

pub string_of-requires-in-HasIn : goal.string_of-requires-in-HasIn
string_of-requires-in-HasIn g c =
    let image = image_of c.args.world.now.image in
    let turns = presents_shown c.args.loops.now in
    named-there (length c.args.world.now.matches.now.lists) image (length c.args.truths.now) turns c.in-HasIn.s c.requires.lists c.requires.among
    (ap (names_there image (length c.args.truths.now) (map is_member turns)) (sym c.in-HasIn.is) ∙ c.requires.names)

pub string_of-requires-in-Count : goal.string_of-requires-in-Count
string_of-requires-in-Count g c =
    let image = image_of c.args.world.now.image in
    let turns = presents_shown c.args.loops.now in
    named-there (length c.args.world.now.matches.now.lists) image (length c.args.truths.now) turns c.in-Count.s c.requires.lists c.requires.among
    (ap (names_there image (length c.args.truths.now) (map is_member turns)) (sym c.in-Count.is) ∙ c.requires.names)

pub string_of-requires-in-CountIn : goal.string_of-requires-in-CountIn
string_of-requires-in-CountIn g c =
    let image = image_of c.args.world.now.image in
    let turns = presents_shown c.args.loops.now in
    named-there (length c.args.world.now.matches.now.lists) image (length c.args.truths.now) turns c.in-CountIn.s c.requires.lists c.requires.among
    (ap (names_there image (length c.args.truths.now) (map is_member turns)) (sym c.in-CountIn.is) ∙ c.requires.names)

pub string_of-requires-in-Offset : goal.string_of-requires-in-Offset
string_of-requires-in-Offset g c =
    let image = image_of c.args.world.now.image in
    let turns = presents_shown c.args.loops.now in
    named-there (length c.args.world.now.matches.now.lists) image (length c.args.truths.now) turns c.in-Offset.s c.requires.lists c.requires.among
    (ap (names_there image (length c.args.truths.now) (map is_member turns)) (sym c.in-Offset.is) ∙ c.requires.names)

pub string_of-requires-in-Length : goal.string_of-requires-in-Length
string_of-requires-in-Length g c =
    let image = image_of c.args.world.now.image in
    let turns = presents_shown c.args.loops.now in
    named-there (length c.args.world.now.matches.now.lists) image (length c.args.truths.now) turns c.in-Length.s c.requires.lists c.requires.among
    (ap (names_there image (length c.args.truths.now) (map is_member turns)) (sym c.in-Length.is) ∙ c.requires.names)

pub returns-in-Has : goal.returns-in-Has
returns-in-Has g c occurs =
    let world = c.args.world.now in
    let context = context_of g.M.Modules.field_of g.M.Modules.call_of world occurs in
    let truths = truths_shown c.args.truths.now in
    let turns = presents_shown c.args.loops.now in
    let stack = c.args.stack.now in
    c.has.ensures
    ∙ ap (λ (list : List Match). given 0 (λ (operands : List Value). presence_of anywhere list) stack) (sym (c.string_of.ensures.list context truths refl))
    ∙ ap (λ (i : Instruction). given (taken_by (image_of world.image) i) (value_given context truths turns i) stack) (sym c.in-Has.is)

pub returns-in-HasAt : goal.returns-in-HasAt
returns-in-HasAt g c occurs =
    let world = c.args.world.now in
    let context = context_of g.M.Modules.field_of g.M.Modules.call_of world occurs in
    let truths = truths_shown c.args.truths.now in
    let turns = presents_shown c.args.loops.now in
    let stack = c.args.stack.now in
    c.has_at.ensures
    ∙ ap (λ (list : List Match). given 1 (on_one (λ v. presence_of (at_offset v) list)) stack) (sym (c.string_of-in-HasAt.ensures.list context truths refl))
    ∙ ap (λ (i : Instruction). given (taken_by (image_of world.image) i) (value_given context truths turns i) stack) (sym c.in-HasAt.is)

pub returns-in-HasIn : goal.returns-in-HasIn
returns-in-HasIn g c occurs =
    let world = c.args.world.now in
    let context = context_of g.M.Modules.field_of g.M.Modules.call_of world occurs in
    let truths = truths_shown c.args.truths.now in
    let turns = presents_shown c.args.loops.now in
    let stack = c.args.stack.now in
    c.has_in.ensures
    ∙ ap (λ (list : List Match). given 2 (on_two (λ v w. presence_of (in_range v w) list)) stack) (sym (c.string_of-in-HasIn.ensures.list context truths refl))
    ∙ ap (λ (i : Instruction). given (taken_by (image_of world.image) i) (value_given context truths turns i) stack) (sym c.in-HasIn.is)

pub returns-in-Count : goal.returns-in-Count
returns-in-Count g c occurs =
    let world = c.args.world.now in
    let context = context_of g.M.Modules.field_of g.M.Modules.call_of world occurs in
    let truths = truths_shown c.args.truths.now in
    let turns = presents_shown c.args.loops.now in
    let stack = c.args.stack.now in
    c.count.ensures
    ∙ ap (λ (list : List Match). given 0 (λ (operands : List Value). count_of list) stack) (sym (c.string_of-in-Count.ensures.list context truths refl))
    ∙ ap (λ (i : Instruction). given (taken_by (image_of world.image) i) (value_given context truths turns i) stack) (sym c.in-Count.is)

pub returns-in-CountIn : goal.returns-in-CountIn
returns-in-CountIn g c occurs =
    let world = c.args.world.now in
    let context = context_of g.M.Modules.field_of g.M.Modules.call_of world occurs in
    let truths = truths_shown c.args.truths.now in
    let turns = presents_shown c.args.loops.now in
    let stack = c.args.stack.now in
    c.count_in.ensures
    ∙ ap (λ (list : List Match). given 2 (on_two (λ v w. count_in_of (in_range v w) list)) stack) (sym (c.string_of-in-CountIn.ensures.list context truths refl))
    ∙ ap (λ (i : Instruction). given (taken_by (image_of world.image) i) (value_given context truths turns i) stack) (sym c.in-CountIn.is)

pub returns-in-Offset : goal.returns-in-Offset
returns-in-Offset g c occurs =
    let world = c.args.world.now in
    let context = context_of g.M.Modules.field_of g.M.Modules.call_of world occurs in
    let truths = truths_shown c.args.truths.now in
    let turns = presents_shown c.args.loops.now in
    let stack = c.args.stack.now in
    c.offset.ensures
    ∙ ap (λ (list : List Match). given 1 (on_one (offset_of list)) stack) (sym (c.string_of-in-Offset.ensures.list context truths refl))
    ∙ ap (λ (i : Instruction). given (taken_by (image_of world.image) i) (value_given context truths turns i) stack) (sym c.in-Offset.is)

pub returns-in-Length : goal.returns-in-Length
returns-in-Length g c occurs =
    let world = c.args.world.now in
    let context = context_of g.M.Modules.field_of g.M.Modules.call_of world occurs in
    let truths = truths_shown c.args.truths.now in
    let turns = presents_shown c.args.loops.now in
    let stack = c.args.stack.now in
    c.length.ensures
    ∙ ap (λ (list : List Match). given 1 (on_one (length_of list)) stack) (sym (c.string_of-in-Length.ensures.list context truths refl))
    ∙ ap (λ (i : Instruction). given (taken_by (image_of world.image) i) (value_given context truths turns i) stack) (sym c.in-Length.is)

pub returns-in-Of : goal.returns-in-Of
returns-in-Of g c occurs =
    let world = c.args.world.now in
    let context = context_of g.M.Modules.field_of g.M.Modules.call_of world occurs in
    let truths = truths_shown c.args.truths.now in
    let turns = presents_shown c.args.loops.now in
    let stack = c.args.stack.now in
    let o = c.in-Of in
    c.judge.ensures context turns refl
    ∙ ap (λ bytes. given (length (of_wants o.form (quantity o.quantifier))) (of_value context truths turns o.form o.quantifier (members_in (outputs_of bytes) o.first o.rows)) stack)
    c.bytes_of-lists.ensures
    ∙ ap (λ (i : Instruction). given (taken_by (image_of world.image) i) (value_given context truths turns i) stack) (sym o.is)
