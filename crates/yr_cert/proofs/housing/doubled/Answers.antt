use Rattle.std.proofs.Common.{◌≤◌, inl, inr, refl, sym, ◌∙◌, subst, arith, length}
use Rattle.std.proofs.lemmas.Option.{slice_get_read}
use Rattle.yr_rows.specs.Words.{times}
use Rattle.yr_automaton.proofs.ListLemmas.{below_or_at}
use Rattle.yr_cert.specs.Tries.{edge_in, own_in, outputs_in}
use Rattle.yr_cert.proofs.HomeLemmas.{all_homes, many_outputs, few_outputs, one_output}
use Rattle.yr_cert.proofs.housing.doubled.Goals as goal

pub returns-then-is_many-clause-least : goal.returns-then-is_many-clause-least
returns-then-is_many-clause-least c =
    let trie = c.args.trie.now in
    let homes = c.args.homes.now in
    let s = c.loop-split.split in
    let at = slice_get_read homes (length homes) s c.index-homes-split.result refl (omega (arith, c.loop-split-test.true, c.requires.homes.long)) c.index-homes-split.is in
    let says = all_homes trie c.requires.readable homes c.requires.homes s c.index-homes-split.result at in
    let many = many_outputs (edge_in trie) (own_in trie) s (times s (outputs_in trie)) c.index-homes-split.result says (sym c.is_many.ensures ∙ c.if-is_many.true) in
    ((c.loop-split-test.true, many), λ m lt bad. omega (arith, bad.1, c.loop-split.invariant m lt))

pub loop-split-preserved : goal.loop-split-preserved
loop-split-preserved c = λ m lt.
    let trie = c.args.trie.now in
    let homes = c.args.homes.now in
    let s = c.loop-split.split in
    let at = slice_get_read homes (length homes) s c.index-homes-split.result refl (omega (arith, c.loop-split-test.true, c.requires.homes.long)) c.index-homes-split.is in
    let says = all_homes trie c.requires.readable homes c.requires.homes s c.index-homes-split.result at in
    let few = few_outputs (edge_in trie) (own_in trie) s (times s (outputs_in trie)) c.index-homes-split.result says (sym c.is_many.ensures ∙ c.if-is_many.false) in
    elim (below_or_at m s lt) [
      | inl old ↦ c.loop-split.invariant m old
      | inr same ↦ subst (λ i. times i (outputs_in trie) ≤ 1) (sym same) few
    ]

pub returns-clause-none : goal.returns-clause-none
returns-clause-none c = λ e. one_output c.args.trie.now c.requires.readable (λ s lt. c.loop-split.invariant s (omega (arith, lt, c.loop-split-test.false)))
