use Rattle.std.proofs.Common.{arith, length, ap, ◌≡◌, ◌<◌, ◌≤◌, ◌+◌, ◌∙◌, get_or, sym, subst, List, ℕ}
use Rattle.std.proofs.lemmas.List.{get_or_default}
use Rattle.yr_name_tables.specs.declared.ranges.Range.{Range}
use Rattle.yr_name_tables.proofs.RangeLemmas.{IsSwept, swept-end, swept-passed, swept-start, swept-taken}
use Rattle.yr_name_tables.proofs.ranges.swept.Goals.{then-start-range+in_ok-add_numbers, else-start-range}
use Rattle.yr_name_tables.proofs.ranges.swept.Goals as goal

pub loop-range-init : goal.loop-range-init
loop-range-init c = swept-start c.args.order.now c.args.ranges.now c.new-met.result.items c.new-met.ensures.items

pub loop-range-preserved : goal.loop-range-preserved
loop-range-preserved c =
    let order = c.args.order.now in
    let ranges = c.args.ranges.now in
    let i = c.loop-range.range-index in
    let none : Range = record { low = 0; high = 0 } in
    let range = get_or ranges i none in
    let here : i < length ranges = omega arith in
    let is : range ≡ get_or ranges i range = get_or_default ranges i none range here in
    let fits : range.high ≤ length order = c.requires.within i none here in
    let taken = c.if-start-range.met.items in
    elim c.if-start-range.branch [
      | then-start-range+in_ok-add_numbers w ↦
          subst (λ (end : ℕ). IsSwept order ranges (i + 1) end taken) (sym w.end-is)
          (swept-taken order ranges i c.loop-range.end c.max-start.result range c.loop-range.met.items taken c.loop-range.invariant c.requires.ascending here is fits c.max-start.ensures w.if-start-range.true
          (ap (λ v. v.items) w.met-is ∙ w.in_ok-add_numbers.ensures))
      | else-start-range w ↦
          subst (λ (end : ℕ). IsSwept order ranges (i + 1) end taken) (sym w.end-is)
          (subst (λ (l : List ℕ). IsSwept order ranges (i + 1) c.loop-range.end l) (sym (ap (λ v. v.items) w.met-is))
          (swept-passed order ranges i c.loop-range.end c.max-start.result range c.loop-range.met.items c.loop-range.invariant here is c.max-start.ensures w.if-start-range.false))
    ]

pub returns : goal.returns
returns c = swept-end c.args.order.now c.args.ranges.now c.loop-range.range-index c.loop-range.end c.loop-range.met.items c.loop-range.invariant (omega arith)
