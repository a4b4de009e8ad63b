use Rattle.std.proofs.Common.{get_or, take, drop, refl, sym, ◌∙◌, subst, arith, true≢false}
use Rattle.std.proofs.lemmas.Option.{slice_get_within, slice_get-get_or, get_or_from_slice_get}
use Rattle.yr_image.specs.Views.{image_of}
use Rattle.yr_machine.specs.Automaton.{HasAtomOf}
use Rattle.yr_verifier.proofs.NodeLemmas.{in_range, of_range}
use Rattle.yr_verifier.proofs.nodes.have_atoms.Goals as goal

pub returns-then-not-has_atom : goal.returns-then-not-has_atom
returns-then-not-has_atom c = (
  λ e. absurd (true≢false (sym e)),
  λ all.
      let outputs = (image_of c.args.view.now).outputs in
      let part = take c.args.count (drop c.args.first outputs) in
      let k = c.loop-k.k in
      let at = of_range c.args.first c.args.count outputs c.requires k c.output.result c.loop-k-test.true c.output.ensures in
      let has = subst (HasAtomOf (image_of c.args.view.now) c.args.depth) (get_or_from_slice_get part k c.output.result 0 at) (all k 0 (slice_get_within part k c.output.result at)) in
      absurd (true≢false (sym (c.has_atom.ensures.1 has) ∙ c.if-not-has_atom.true)),
)

pub returns : goal.returns
returns c = (
  λ _ k d lt.
      let outputs = (image_of c.args.view.now).outputs in
      let part = take c.args.count (drop c.args.first outputs) in
      let here = in_range c.args.first c.args.count outputs c.requires k (get_or part k d) (slice_get-get_or part k d lt) in
      c.loop-k.invariant k (omega (arith, here.0, c.loop-k-test.false)) (get_or part k d) here.1,
  λ _. refl,
)
