use Rattle.std.proofs.Common.{◌+◌, sym, subst}
use Rattle.yr_checking.specs.TextSizes.{IsTally, aligned_sum, encodings_sum}
use Rattle.yr_checking.proofs.text_sizes.encodings.Goals as goal

pub returns-then-some : goal.returns-then-some
returns-then-some c =
    let w = c.args.wide in let s = c.args.size in
    let first = c.both-first.ensures (λ g. aligned_sum g w s 0) (λ g. aligned_sum g w s 1) c.aligned.ensures c.aligned-then-some.ensures in
    let all = c.both.ensures (λ g. aligned_sum g w s 0 + aligned_sum g w s 1) (λ g. aligned_sum g w s 2) first c.aligned-then-some-2.ensures in
    subst (λ b. IsTally c.both.result (λ g. encodings_sum g b w s)) (sym c.if-some.true) all
