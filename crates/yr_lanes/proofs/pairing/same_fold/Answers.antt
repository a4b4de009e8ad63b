use Rattle.std.proofs.Common.{eqb}
use Rattle.yr_base.specs.Bytes.{lowered, SameLetter}
use Rattle.yr_lanes.proofs.PairLemmas.{AllZip-agrees, eqb_tells}
use Rattle.yr_lanes.proofs.pairing.same_fold.Goals as goal

pub returns : goal.returns
returns c =
    let same = AllZip-agrees (λ x y. eqb (lowered x) (lowered y)) SameLetter (λ x y. eqb_tells (lowered x) (lowered y)) c.args.a.now c.args.b.now c.if-a-b.false in
    (λ h. same.0 (c.agree.ensures.0 h), λ h. c.agree.ensures.1 (same.1 h))
