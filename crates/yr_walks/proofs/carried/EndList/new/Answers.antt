use Rattle.std.proofs.Common.{◌∙◌, sym, rules}
use Rattle.yr_walks.proofs.KeptLemmas.{kept_new}
use Rattle.yr_walks.proofs.carried.EndList.new.Goals as goal

pub invariant_of-result : goal.invariant_of-result
invariant_of-result c =
    let len = c.in_ok-vec.ensures.len in
    let items = c.in_ok-vec-2.ensures.items_if_clones_equal in
    kept_new c.in_ok-vec.field-0.items c.in_ok-vec-2.field-0.items c.args.room (sym c.in_ok-vec.field-0.ok.0 ∙ len) (items (λ y e. search rules))
