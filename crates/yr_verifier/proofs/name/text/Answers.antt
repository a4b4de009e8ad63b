use Rattle.std.proofs.Common.{◌≡◌, ◌+◌, ◌-◌, take, drop, length, min, refl, ap, ◌∙◌, arith}
use Rattle.yr_verifier.proofs.RangeLemmas.{range_clipped}
use Rattle.yr_verifier.proofs.name.text.Goals as goal

pub returns : goal.returns
returns c =
    let pool = c.bytes_of-pool.result.now in
    let s = c.least-start.result in
    let n = c.least-count.result in
    let same : s + n - s ≡ n = omega arith in
    ap (λ m. take m (drop s pool)) same ∙ ap (λ m. take m (drop s pool)) c.least-count.ensures
    ∙ ap (λ m. take (min c.args.length (length pool - m)) (drop m pool)) c.least-start.ensures
    ∙ range_clipped c.args.place c.args.length (length pool) pool refl ∙ ap (λ l. take c.args.length (drop c.args.place l)) c.bytes_of-pool.ensures
