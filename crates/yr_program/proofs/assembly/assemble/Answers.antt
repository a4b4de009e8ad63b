use Rattle.std.proofs.Common.{◌≡◌, ℕ, List, length, map, ap, ◌∙◌, subst, arith}
use Rattle.std.proofs.lemmas.List.{length-map}
use Rattle.yr_pattern.specs.Tree.{tree_of}
use Rattle.yr_program.specs.Acts.{Act}
use Rattle.yr_program.specs.Code.{program_of}
use Rattle.yr_program.specs.Drafts.{act_of}
use Rattle.yr_program.specs.Programs.{turned_if}
use Rattle.yr_program.specs.Written.{IsWritten}
use Rattle.yr_program.proofs.Exact.{exact_forwards, exact_backwards, exact_length, fewer_sets, exact_wellformed, length-turned}
use Rattle.yr_program.proofs.assembly.assemble.Goals as goal

pub write-requires : goal.write-requires
write-requires c =
    let x = tree_of c.args.p.now in
    omega (arith, ap length (c.moves.ensures ∙ c.in_ok-draft.ensures), length-map c.moves.result.now act_of, length-turned x c.args.backwards, c.requires)

written : (moves sets : List ℕ) (acts made : List Act) → acts ≡ made → IsWritten moves sets acts → IsWritten moves sets made
written moves sets acts made e w = let W : List Act → Type 0 = IsWritten moves sets in subst W e w

pub returns-clause-forwards : goal.returns-clause-forwards
returns-clause-forwards c =
    let program = c.in_ok-program.program in
    let w = written program.moves.items program.sets.items (map act_of c.moves.result.now) (program_of (turned_if c.args.backwards (tree_of c.args.p.now))) (c.moves.ensures ∙ c.in_ok-draft.ensures) c.in_ok-program.ensures in
    exact_forwards program.moves.items program.sets.items (tree_of c.args.p.now) c.args.backwards w

pub returns-clause-backwards : goal.returns-clause-backwards
returns-clause-backwards c =
    let program = c.in_ok-program.program in
    let w = written program.moves.items program.sets.items (map act_of c.moves.result.now) (program_of (turned_if c.args.backwards (tree_of c.args.p.now))) (c.moves.ensures ∙ c.in_ok-draft.ensures) c.in_ok-program.ensures in
    exact_backwards program.moves.items program.sets.items (tree_of c.args.p.now) c.args.backwards w

pub returns-clause-wellformed : goal.returns-clause-wellformed
returns-clause-wellformed c =
    let program = c.in_ok-program.program in
    let w = written program.moves.items program.sets.items (map act_of c.moves.result.now) (program_of (turned_if c.args.backwards (tree_of c.args.p.now))) (c.moves.ensures ∙ c.in_ok-draft.ensures) c.in_ok-program.ensures in
    exact_wellformed program.moves.items program.sets.items (tree_of c.args.p.now) c.args.backwards w c.requires

pub returns-clause-small : goal.returns-clause-small
returns-clause-small c =
    let program = c.in_ok-program.program in
    let w = written program.moves.items program.sets.items (map act_of c.moves.result.now) (program_of (turned_if c.args.backwards (tree_of c.args.p.now))) (c.moves.ensures ∙ c.in_ok-draft.ensures) c.in_ok-program.ensures in
    exact_length program.moves.items program.sets.items (tree_of c.args.p.now) c.args.backwards w

pub returns-clause-few_sets : goal.returns-clause-few_sets
returns-clause-few_sets c =
    let program = c.in_ok-program.program in
    let w = written program.moves.items program.sets.items (map act_of c.moves.result.now) (program_of (turned_if c.args.backwards (tree_of c.args.p.now))) (c.moves.ensures ∙ c.in_ok-draft.ensures) c.in_ok-program.ensures in
    fewer_sets program.moves.items program.sets.items (tree_of c.args.p.now) c.args.backwards w
