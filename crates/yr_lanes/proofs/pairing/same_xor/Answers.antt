use Rattle.std.proofs.Common.{◌≡◌, eqb, bit_xor}
use Rattle.yr_lanes.proofs.PairLemmas.{AllZip-agrees, eqb_tells}
use Rattle.yr_lanes.proofs.pairing.same_xor.Goals as goal

pub returns : goal.returns
returns c =
    let key = c.args.key in
    let same = AllZip-agrees (λ x y. eqb (bit_xor x key) y) (λ x y. bit_xor x key ≡ y) (λ x y. eqb_tells (bit_xor x key) y) c.args.a.now c.args.b.now c.if-a-b.false in
    (λ h. same.0 (c.agree.ensures.0 h), λ h. c.agree.ensures.1 (same.1 h))
