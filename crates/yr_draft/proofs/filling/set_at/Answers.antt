use Rattle.std.proofs.Common.{◌≡◌, ◌+◌, ◌-◌, ◌*◌, ◌<◌, ◌/◌, length, take, drop, Some, sym, ap, ◌∙◌, subst, arith}
use Rattle.yr_rows.proofs.RowLemmas.{set_inside, length-rows_in, rows_in-get}
use Rattle.yr_draft.proofs.filling.set_at.Goals as goal

pub overflow_mul-at : goal.overflow_mul-at
overflow_mul-at c = omega (arith, set_inside c.args.sets.now c.args.k c.requires)

pub overflow_add-at : goal.overflow_add-at
overflow_add-at c = omega (arith, set_inside c.args.sets.now c.args.k c.requires)

pub slice_bounds-copy_from_slice-end-2 : goal.slice_bounds-copy_from_slice-end-2
slice_bounds-copy_from_slice-end-2 c = let inside = set_inside c.args.sets.now c.args.k c.requires in omega (arith, inside)

pub returns : goal.returns
returns c =
    let k = c.args.k in
    let sets = c.args.sets.now in
    let within : k < length sets / 32 = subst (λ n. k < n) (length-rows_in 32 (take 32) sets) c.requires in
    let wide : 32 * k + 32 - 32 * k ≡ 32 = omega arith in
    rows_in-get 32 (take 32) sets k within
    ∙ ap Some (sym (c.copy_from_slice.ensures.after ∙ ap (λ n. take n (drop (32 * k) sets)) wide))
