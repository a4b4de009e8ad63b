use Rattle.std.proofs.Common.{◌≡◌, ◌+◌, ◌-◌, ◌∷◌, nat_lt, length, sym, ap, subst, arith}
use Rattle.std.specs.Prelude.{if◌then◌else◌}
use Rattle.yr_walks.specs.EndWalks as ends
use Rattle.yr_walks.specs.StartWalks as starts
use Rattle.yr_hits.specs.Sweeps.{IsCountBelow}
use Rattle.yr_hits.proofs.SpanLemmas.{atoms_here, counted_spans, span_walk_on}
use Rattle.yr_hits.proofs.by_spans.next_end.Goals as goal

pub end_of_atom-at-requires-clause-small : goal.end_of_atom-at-requires-clause-small
end_of_atom-at-requires-clause-small g c = omega (arith, c.place.ensures, c.requires.inside, c.requires.good.small)

pub count_below-below-requires-clause-below : goal.count_below-below-requires-clause-below
count_below-below-requires-clause-below g c =
    let at : c.end_of_atom-at.result + 1 ≡ c.args.walk.now.starts.place + c.args.hit.now.row.atom_length = omega (arith, c.end_of_atom-at.ensures, c.place.ensures) in
    subst (λ p. IsCountBelow c.args.hits.now p c.args.left.now) (sym at) c.requires.left

pub returns-clause-end : goal.returns-clause-end
returns-clause-end g c =
    let hit = c.args.hit.now in
    let hits = c.args.hits.now in
    let walk = c.args.walk.now in
    let at = c.end_of_atom-at.result in
    let below = c.count_below-below.result in
    let place = c.next.new.self.starts.place in
    let old : place ≡ walk.starts.place - 1 = ap (λ (w : starts.Walk). w.place) c.next.ensures.starts in
    let down : walk.starts.place ≡ place + 1 = omega (arith, old, c.requires.more) in
    let next_at : at + 1 ≡ walk.starts.place + hit.row.atom_length = omega (arith, c.end_of_atom-at.ensures, c.place.ensures) in
    let is : at ≡ place + hit.row.atom_length = omega (arith, next_at, down) in
    let next = subst (λ p. IsCountBelow hits p c.args.left.now) (sym next_at) c.requires.left in
    let mid = c.requires.midway in
    let atoms_are = atoms_here hit hits at place walk.starts.place c.args.left.now below down is next c.count_below-below.ensures.below mid.atoms mid.are in
    counted_spans hit c.requires.good hits c.requires.hits place walk.starts.place down walk (if (nat_lt below c.args.left.now) then place ∷ mid.atoms else mid.atoms) c.requires.walk atoms_are c.next.result
    (c.next.ensures.span mid.atoms mid.midway)

pub returns-clause-place : goal.returns-clause-place
returns-clause-place g c =
    let old : c.next.new.self.starts.place ≡ c.args.walk.now.starts.place - 1 = ap (λ (w : starts.Walk). w.place) c.next.ensures.starts in
    omega (arith, old, c.requires.more)

pub returns-clause-moves : goal.returns-clause-moves
returns-clause-moves g c = (ap (λ (w : starts.Walk). length w.moves) c.next.ensures.starts, ap (λ (w : ends.Walk). length w.moves) c.next.ensures.ends)

pub returns-clause-walk : goal.returns-clause-walk
returns-clause-walk g c =
    let walk = c.args.walk.now in
    span_walk_on c.args.hit.now walk c.next.new.self (walk.ends.place - 1) (walk.starts.place - 1) c.next.ensures.ends c.next.ensures.starts c.next.ensures.atom c.requires.walk

pub returns-clause-midway : goal.returns-clause-midway
returns-clause-midway g c =
    let hit = c.args.hit.now in
    let hits = c.args.hits.now in
    let walk = c.args.walk.now in
    let at = c.end_of_atom-at.result in
    let below = c.count_below-below.result in
    let place = c.next.new.self.starts.place in
    let old : place ≡ walk.starts.place - 1 = ap (λ (w : starts.Walk). w.place) c.next.ensures.starts in
    let down : walk.starts.place ≡ place + 1 = omega (arith, old, c.requires.more) in
    let next_at : at + 1 ≡ walk.starts.place + hit.row.atom_length = omega (arith, c.end_of_atom-at.ensures, c.place.ensures) in
    let is : at ≡ place + hit.row.atom_length = omega (arith, next_at, down) in
    let next = subst (λ p. IsCountBelow hits p c.args.left.now) (sym next_at) c.requires.left in
    let mid = c.requires.midway in
    record {
      atoms = if (nat_lt below c.args.left.now) then place ∷ mid.atoms else mid.atoms;
      midway = c.next.ensures.midway mid.atoms mid.midway;
      are = atoms_here hit hits at place walk.starts.place c.args.left.now below down is next c.count_below-below.ensures.below mid.atoms mid.are;
    }

pub returns-clause-left : goal.returns-clause-left
returns-clause-left g c =
    let hit = c.args.hit.now in
    let place = c.next.new.self.starts.place in
    let old : place ≡ c.args.walk.now.starts.place - 1 = ap (λ (w : starts.Walk). w.place) c.next.ensures.starts in
    let is : c.end_of_atom-at.result ≡ place + hit.row.atom_length = omega (arith, c.end_of_atom-at.ensures, c.place.ensures, old, c.requires.more) in
    subst (λ p. IsCountBelow c.args.hits.now p c.count_below-below.result) is c.count_below-below.ensures.below
