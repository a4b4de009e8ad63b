use Rattle.std.proofs.Common.{◌≡◌, ◌+◌, ◌-◌, take, drop, ap, arith}
use Rattle.yr_verifier.proofs.programs.part.Goals as goal

pub returns : goal.returns
returns c =
    let same : c.args.start + c.args.count - c.args.start ≡ c.args.count = omega arith in
    ap (λ m. take m (drop c.args.start c.args.bytes.now)) same
