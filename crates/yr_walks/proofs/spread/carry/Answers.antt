use Rattle.std.proofs.Common.{◌≡◌, inl, inr, ℕ, Bool, Some, length, refl, sym, ◌∙◌, subst, arith}
use Rattle.yr_moves.specs.Programs.{moves_of, sets_of}
use Rattle.yr_walks.specs.Spreads.{AreClosed, Carries, HasFloor}
use Rattle.yr_walks.proofs.HoldLemmas.{grows_cases, grows_length}
use Rattle.yr_walks.proofs.ListLemmas.{get_within}
use Rattle.yr_walks.proofs.SpreadLemmas.{carries_start, carries_step, carried_below}
use Rattle.yr_walks.proofs.spread.carry.Goals as goal

pub loop-k-init : goal.loop-k-init
loop-k-init g c =
    let rows = c.args.rows.now in
    (carries_start c.args.edges.now.back (moves_of rows) (sets_of rows) c.args.file.now c.args.i c.args.byte c.args.old.now.items c.args.from c.args.list.now.items, c.requires.below, refl, refl)

pub join-requires-clause-inside : goal.join-requires-clause-inside
join-requires-clause-inside g c = let lt = c.requires.inside c.get-c.result.by c.get-c.result.end (c.loop-k.k, c.get-c.ensures) in omega (arith, lt)

pub close-requires-clause-below : goal.close-requires-clause-below
close-requires-clause-below g c =
    let rows = c.args.rows.now in
    carried_below c.args.edges.now.back (moves_of rows) (sets_of rows) c.args.file.now c.args.i (Some c.args.byte) c.get-c.result.by c.get-c.result.end c.loop-k.list.items c.join.new.list.items
    c.requires.wellformed c.join.ensures.spreads c.loop-k.invariant.1

pub close-requires-clause-from : goal.close-requires-clause-from
close-requires-clause-from g c = omega (arith, c.len-known.ensures.len, grows_length c.get-c.result.end c.loop-k.list.items c.join.new.list.items c.join.ensures.spreads.grows)

pub close-requires-clause-end : goal.close-requires-clause-end
close-requires-clause-end g c = λ q d le e. elim (grows_cases c.get-c.result.end c.loop-k.list.items c.join.new.list.items q d c.join.ensures.spreads.grows e) [
  | inl was ↦ absurd (omega (arith, get_within c.loop-k.list.items q d was, le, c.len-known.ensures.len))
  | inr came ↦ came.1
]

pub loop-k-preserved : goal.loop-k-preserved
loop-k-preserved g c =
    let rows = c.args.rows.now in
    let back = c.args.edges.now.back in
    let known : c.len-known.result ≡ length c.loop-k.list.items = c.len-known.ensures.len in
    let mid = c.join.new.list.items in
    let new = c.close.new.list.items in
    let closed : (greatest : Bool) → HasFloor greatest c.get-c.result.end mid → AreClosed back (moves_of rows) (sets_of rows) c.args.file.now c.args.i greatest (length c.loop-k.list.items) mid →
    AreClosed back (moves_of rows) (sets_of rows) c.args.file.now c.args.i greatest (length new) new =
    λ greatest floor done.
    let A : ℕ → Type 0 = λ n. AreClosed back (moves_of rows) (sets_of rows) c.args.file.now c.args.i greatest n mid in
    c.close.ensures.closed greatest floor (subst A (sym known) done)
    in (
      carries_step back (moves_of rows) (sets_of rows) c.args.file.now c.args.i c.args.byte c.args.old.now.items c.args.from c.loop-k.k c.get-c.result c.args.list.now.items c.loop-k.list.items mid new
          (omega arith) c.get-c.ensures c.loop-k.invariant.0 c.join.ensures.spreads closed c.close.ensures.grows c.close.ensures.came,
      c.close.ensures.below,
      c.close.ensures.room ∙ c.join.ensures.room ∙ c.loop-k.invariant.2,
      omega (arith, c.close.ensures.cost, known, c.loop-k.invariant.3),
    )

pub returns-clause-carries : goal.returns-clause-carries
returns-clause-carries g c =
    let rows = c.args.rows.now in
    let all : c.loop-k.k ≡ c.args.to = omega (arith, c.loop-k-test.false, c.loop-k.auto.k-end, c.requires.range.0) in
    let C : ℕ → Type 0 = λ k. Carries c.args.edges.now.back (moves_of rows) (sets_of rows) c.args.file.now c.args.i c.args.byte c.args.old.now.items c.args.from k c.args.list.now.items c.loop-k.list.items in
    subst C all c.loop-k.invariant.0
