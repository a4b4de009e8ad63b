use Rattle.std.proofs.Common.{◌≡◌, ◌∙◌, ◌++◌, ◌∷◌, [], ◌+◌, sym, ap, arith}
use Rattle.std.specs.List.{range_with_len}
use Rattle.yr_conditions.proofs.NumberLemmas.{range-last}
use Rattle.yr_conditions.proofs.naming.numbers_from.Goals as goal

pub returns : goal.returns
returns c = let same : c.loop-place.place ≡ c.args.count = omega arith in c.loop-place.invariant ∙ ap (range_with_len c.args.first) same

pub loop-place-preserved : goal.loop-place-preserved
loop-place-preserved c =
    c.in_ok-push.ensures.items
    ∙ ap (λ l. l ++ (c.args.first + c.loop-place.place) ∷ []) c.loop-place.invariant
    ∙ sym (range-last c.args.first c.loop-place.place)
