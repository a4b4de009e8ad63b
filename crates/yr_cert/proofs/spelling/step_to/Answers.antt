use Rattle.std.proofs.Common.{Some, ◌∙◌, ap, arith}
use Rattle.std.proofs.lemmas.Option.{slice_get-get_or}
use Rattle.yr_automaton.proofs.ListLemmas.{get_or_some}
use Rattle.yr_cert.specs.declared.parent.Parent.TheVariants.{OneEdge}
use Rattle.yr_cert.proofs.ParentLemmas.{step_is, step_of}
use Rattle.yr_cert.proofs.spelling.step_to.Goals as goal

pub returns-in-OneEdge : goal.returns-in-OneEdge
returns-in-OneEdge c =
    step_is c.args.trie.now c.requires.readable c.args.parents.now c.requires.parents c.requires.one c.args.n c.in-OneEdge.step
    (slice_get-get_or c.args.parents.now c.args.n _ (omega (arith, c.requires.inside, c.requires.parents.long)) ∙ ap Some c.in-OneEdge.is)

pub returns-in_default : goal.returns-in_default
returns-in_default c =
    let found = step_of c.args.trie.now c.requires.readable c.args.parents.now c.requires.parents c.requires.one c.args.n c.requires.other c.requires.inside in
    absurd (c.in_default.not-OneEdge found.0 (get_or_some c.args.parents.now c.args.n _ (OneEdge found.0) found.1))
