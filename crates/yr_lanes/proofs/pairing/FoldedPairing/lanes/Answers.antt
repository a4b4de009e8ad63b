use Rattle.std.proofs.Common.{sym, ◌∙◌, bit_xor}
use Rattle.std.proofs.lemmas.Bool.{eq-eqb}
use Rattle.yr_lanes.proofs.PairLemmas.{same_from_xor}
use Rattle.yr_lanes.proofs.pairing.FoldedPairing.lanes.Goals as goal

pub returns : goal.returns
returns c k l clear =
    let lowered_a = sym (c.in_lower_case.ensures.each k l) in
    let lowered_b = sym (c.in_lower_case-2.ensures.each k l) in
    eq-eqb _ _ (same_from_xor _ _ ((λ i. bit_xor (lowered_a i) (lowered_b i)) ∙ sym (c.difference.ensures.each k l) ∙ clear))
