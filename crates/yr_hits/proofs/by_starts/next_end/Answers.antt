use Rattle.std.proofs.Common.{◌≡◌, ℕ, ◌+◌, ◌-◌, ◌∷◌, Option, None, nat_lt, sym, ap, ◌∙◌, subst, arith}
use Rattle.std.specs.Prelude.{if◌then◌else◌}
use Rattle.yr_base.specs.Places.{has_left_border}
use Rattle.yr_walks.specs.StartWalks as starts
use Rattle.yr_hits.specs.Spans.{IsBestOf}
use Rattle.yr_hits.specs.Sweeps.{IsCountBelow, SpansOfAll}
use Rattle.yr_hits.proofs.PaidLemmas.{paid_if}
use Rattle.yr_hits.proofs.SweepStartLemmas.{told_here, told_more, best_start, far_needs}
use Rattle.yr_hits.proofs.by_starts.next_end.Goals as goal

pub end_of_atom-at-requires-clause-small : goal.end_of_atom-at-requires-clause-small
end_of_atom-at-requires-clause-small g c = omega (arith, c.place.ensures, c.requires.inside, c.requires.good.small)

pub count_below-below-requires-clause-below : goal.count_below-below-requires-clause-below
count_below-below-requires-clause-below g c =
    let at : c.end_of_atom-at.result + 1 ≡ c.args.walk.now.place + c.args.hit.now.row.atom_length = omega (arith, c.end_of_atom-at.ensures, c.place.ensures) in
    subst (λ p. IsCountBelow c.args.hits.now p c.args.left.now) (sym at) c.requires.left

pub told_if-told-requires-clause-inside : goal.told_if-told-requires-clause-inside
told_if-told-requires-clause-inside g c =
    let at : c.end_of_atom-at.result + 1 ≡ c.args.walk.now.place + c.args.hit.now.row.atom_length = omega (arith, c.end_of_atom-at.ensures, c.place.ensures) in
    (omega (arith, at, c.requires.inside), omega (arith, at, c.requires.more))

pub next-end-requires-clause-far : goal.next-end-requires-clause-far
next-end-requires-clause-far g c =
    let hit = c.args.hit.now in
    let hits = c.args.hits.now in
    let at = c.end_of_atom-at.result in
    let below = c.count_below-below.result in
    let place = c.args.walk.now.place - 1 in
    let ends = c.told_if-told.result in
    let next_at : at + 1 ≡ c.args.walk.now.place + hit.row.atom_length = omega (arith, c.end_of_atom-at.ensures, c.place.ensures) in
    let is : at ≡ place + hit.row.atom_length = omega (arith, next_at, c.requires.more) in
    let next = subst (λ p. IsCountBelow hits p c.args.left.now) (sym next_at) c.requires.left in
    let here = told_here hit hits at place c.args.left.now below ends is next c.count_below-below.ensures.below c.told_if-told.ensures.told c.told_if-told.ensures.none in
    far_needs hit c.requires.good hits c.requires.hits place (nat_lt below c.args.left.now) ends here

pub returns-clause-end : goal.returns-clause-end
returns-clause-end g c =
    let hit = c.args.hit.now in
    let hits = c.args.hits.now in
    let walk = c.args.walk.now in
    let at = c.end_of_atom-at.result in
    let below = c.count_below-below.result in
    let place = c.next-end.new.self.place in
    let ends = c.told_if-told.result in
    let old : place ≡ walk.place - 1 = ap (λ (w : starts.Walk). w.place) c.next-end.ensures.walk in
    let down : walk.place ≡ place + 1 = omega (arith, old, c.requires.more) in
    let next_at : at + 1 ≡ walk.place + hit.row.atom_length = omega (arith, c.end_of_atom-at.ensures, c.place.ensures) in
    let is : at ≡ place + hit.row.atom_length = omega (arith, next_at, down) in
    let next = subst (λ p. IsCountBelow hits p c.args.left.now) (sym next_at) c.requires.left in
    let here = told_here hit hits at place c.args.left.now below ends is next c.count_below-below.ensures.below c.told_if-told.ensures.told c.told_if-told.ensures.none in
    let mid = c.requires.midway in
    let best =
    best_start hit c.requires.good hits c.requires.hits place (nat_lt below c.args.left.now) ends here walk c.requires.walk mid.told walk.place down mid.were c.next-end.result
    (c.next-end.ensures.start mid.told mid.midway)
    in
    let same : c.with_left_border.result ≡ (if (has_left_border hit.border hit.file.now place) then c.next-end.result else None) =
    c.with_left_border.ensures ∙ ap (λ s. if (has_left_border hit.border hit.file.now s) then c.next-end.result else None) c.place-start.ensures
    in
    let B : Option ℕ → Type 0 = λ o. IsBestOf hit.greatest (SpansOfAll hit hits place) o in
    subst B (sym same) best

pub returns-clause-midway : goal.returns-clause-midway
returns-clause-midway g c =
    let hit = c.args.hit.now in
    let hits = c.args.hits.now in
    let walk = c.args.walk.now in
    let at = c.end_of_atom-at.result in
    let below = c.count_below-below.result in
    let place = c.next-end.new.self.place in
    let ends = c.told_if-told.result in
    let old : place ≡ walk.place - 1 = ap (λ (w : starts.Walk). w.place) c.next-end.ensures.walk in
    let down : walk.place ≡ place + 1 = omega (arith, old, c.requires.more) in
    let next_at : at + 1 ≡ walk.place + hit.row.atom_length = omega (arith, c.end_of_atom-at.ensures, c.place.ensures) in
    let is : at ≡ place + hit.row.atom_length = omega (arith, next_at, down) in
    let next = subst (λ p. IsCountBelow hits p c.args.left.now) (sym next_at) c.requires.left in
    let here = told_here hit hits at place c.args.left.now below ends is next c.count_below-below.ensures.below c.told_if-told.ensures.told c.told_if-told.ensures.none in
    let mid = c.requires.midway in
    record {
      told = record { at = place; near = ends.near; far = ends.far } ∷ mid.told;
      midway = c.next-end.ensures.midway mid.told mid.midway;
      were = told_more hit c.requires.good hits c.requires.hits place (nat_lt below c.args.left.now) ends here mid.told walk.place down mid.were;
    }

pub returns-clause-left : goal.returns-clause-left
returns-clause-left g c =
    let hit = c.args.hit.now in
    let walk = c.args.walk.now in
    let place = c.next-end.new.self.place in
    let old : place ≡ walk.place - 1 = ap (λ (w : starts.Walk). w.place) c.next-end.ensures.walk in
    let is : c.end_of_atom-at.result ≡ place + hit.row.atom_length = omega (arith, c.end_of_atom-at.ensures, c.place.ensures, old, c.requires.more) in
    subst (λ p. IsCountBelow c.args.hits.now p c.count_below-below.result) is c.count_below-below.ensures.below

pub returns-clause-most_cost : goal.returns-clause-most_cost
returns-clause-most_cost g c =
    let share = paid_if 1 c.count_below-below.result c.args.left.now c.count_below-below.ensures.falls in
    omega (arith, c.told_if-told.ensures.most_cost, c.next-end.ensures.most_cost, share)
