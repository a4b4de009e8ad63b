use Rattle.std.proofs.Common.{◌≡◌, ◌+◌, ◌*◌, ◌≤◌, length, drop}
use Rattle.yr_pattern.specs.Tree.{tree_of}
use Rattle.yr_pattern.specs.Sizes.{sizes_of}
use Rattle.yr_program.specs.Drafts.{acts_of}
use Rattle.yr_program.specs.Code.{any_size, copies, options, code_of, code_all, code_any}
use Rattle.yr_program.proofs.EmitLemmas.{forest, With}
use Rattle.yr_program.proofs.emission.+emit.Given as goal

abbrev pub invariant-emit_all-loop-i : goal.invariant-emit_all-loop-i
invariant-emit_all-loop-i l =
    (l.rest ≡ sizes_of (forest (drop l.i l.members))) × (length (acts_of l.draft) + l.rest ≤ 65535)
    × (With (code_all (forest (drop l.i l.members))) l.next (acts_of l.draft) ≡ With (code_all (forest l.members)) l.next (acts_of l.initial.draft))

abbrev pub invariant-emit_any-loop-i : goal.invariant-emit_any-loop-i
invariant-emit_any-loop-i l =
    let left = forest (drop l.i l.branches) in
    (l.rest ≡ any_size left) × (length (acts_of l.draft) + l.rest ≤ 65535)
    × (With (code_any left) l.next (acts_of l.draft) ≡ With (code_any (forest l.branches)) l.next (acts_of l.initial.draft))

abbrev pub invariant-emit_copies-loop-left : goal.invariant-emit_copies-loop-left
invariant-emit_copies-loop-left l =
    (l.rest ≡ l.left * l.one) × (length (acts_of l.draft) + l.rest ≤ 65535)
    × (With (copies l.left l.one (code_of (tree_of l.inner))) l.next (acts_of l.draft) ≡ With (copies l.count l.one (code_of (tree_of l.inner))) l.next (acts_of l.initial.draft))

abbrev pub invariant-emit_options-loop-left : goal.invariant-emit_options-loop-left
invariant-emit_options-loop-left l =
    (l.rest ≡ l.left * (l.one + 1)) × (length (acts_of l.draft) + l.rest ≤ 65535)
    × (With (options l.left l.one (code_of (tree_of l.inner))) l.next (acts_of l.draft) ≡ With (options l.count l.one (code_of (tree_of l.inner))) l.next (acts_of l.initial.draft))
