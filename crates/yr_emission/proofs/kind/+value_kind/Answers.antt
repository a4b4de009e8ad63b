use Rattle.std.proofs.Common.{◌-◌, length, slice_get, map, sym, ap, ◌∙◌}
use Rattle.yr_rules.specs.NodeTree.{tree_of}
use Rattle.yr_rules.specs.Rules.{external_of}
use Rattle.yr_rules.proofs.CallerLemmas.{tree_of-Chain}
use Rattle.yr_emission.specs.Parts.{value_kind}
use Rattle.yr_emission.proofs.TreeLemmas.{links_last}
use Rattle.yr_emission.proofs.kind.+value_kind.Goals as goal

pub returns-in-Some : goal.returns-in-Some
returns-in-Some t c =
    let externals = map external_of c.args.externals.now in
    let links = c.in-Chain.rest.items in
    c.infix_answer.ensures
    ∙ sym (ap (value_kind externals) (ap tree_of c.in-Chain.is ∙ tree_of-Chain c.in-Chain.first c.in-Chain.rest)
    ∙ links_last links c.in-Some.link.now (value_kind externals (tree_of c.in-Chain.first.value))
    (sym (c.in-Some.ensures.value ∙ ap (λ s. slice_get s (length s - 1)) c.deref.ensures.value)))
