use Rattle.std.proofs.Common.{get_or, sym, ap, ◌∙◌, bit_xor}
use Rattle.std.proofs.lemmas.Bool.{eq-eqb}
use Rattle.yr_lanes.proofs.PairLemmas.{same_from_xor}
use Rattle.yr_lanes.proofs.pairing.UnderKeyPairing.lanes.Goals as goal

pub returns : goal.returns
returns c k l clear =
    let y = get_or c.args.b k 0 in
    eq-eqb _ _ (same_from_xor _ y (ap (λ x. bit_xor x y) (sym (c.under_key.ensures.each k l)) ∙ sym (c.difference.ensures.each k l) ∙ clear))
