use Rattle.std.proofs.Common.{◌≡◌, ◌+◌, ◌*◌, ◌≤◌, ◌<◌, ℕ, List, length, Some, None, refl, sym, ap, ◌∙◌, subst, arith, Vec, Global}
use Rattle.std.specs.Prelude.{option_and_then, slice_set}
use Rattle.yr_moves.specs.Programs.{moves_of, sets_of}
use Rattle.yr_walks.specs.Arcs.{AreChained, head, head_at}
use Rattle.yr_walks.proofs.ChainLemmas.{chained_add, chained_pass}
use Rattle.yr_walks.proofs.JoinLemmas.{head_below}
use Rattle.yr_walks.proofs.edges.Edges.of.Goals as goal
use Rattle.yr_walks.proofs.edges.Edges.of.Goals.{in-Some, in-None}

pub loop-e-preserved : goal.loop-e-preserved
loop-e-preserved c =
    let moves = moves_of c.args.rows in
    let e = c.loop-e.e in
    let lt : e < 2 * length moves = omega (arith, c.loop-e-test.true, c.len-count.ensures) in
    let heads : head_at c.args.back moves e ≡ head c.args.back (length moves) e c.move_at.result = ap (option_and_then (head c.args.back (length moves) e)) c.move_at.ensures.is in
    let found : head c.args.back (length moves) e c.move_at.result ≡ c.head.result = ap (λ n. head c.args.back n e c.move_at.result) (sym c.len-count.ensures) ∙ sym c.head.ensures in
    elim c.match-head.branch [
      | in-Some w ↦
          let is : head c.args.back (length moves) e c.move_at.result ≡ Some w.in-Some.x = found ∙ w.in-Some.is in
          let inside : w.in-Some.x < length moves + 1 = head_below c.args.back (length moves) (length (sets_of c.args.rows)) e c.move_at.result w.in-Some.x c.move_at.ensures.names lt is in
          let within : w.in-Some.x ≤ length moves = omega (arith, inside) in
          let o = c.loop-e.invariant.chains w.in-Some.x within in
          let new = w.chain.ensures o.0 o.1 in
          let more = chained_add c.args.back moves e w.in-Some.x o.0 c.loop-e.first.items c.loop-e.after.items c.loop-e.invariant lt within (heads ∙ is) o.1 in
          let F : List ℕ → Type 0 = λ l. AreChained c.args.back moves (e + 1) l (slice_set c.loop-e.after.items e o.0) in
          let A : List ℕ → Type 0 = λ l. AreChained c.args.back moves (e + 1) c.match-head.first.items l in
          let first : c.match-head.first.items ≡ slice_set c.loop-e.first.items w.in-Some.x (e + 1) = ap (λ (v : Vec ℕ Global). v.items) w.first-is ∙ new.0 in
          let after : c.match-head.after.items ≡ slice_set c.loop-e.after.items e o.0 = ap (λ (v : Vec ℕ Global). v.items) w.after-is ∙ new.1 in
          subst A (sym after) (subst F (sym first) more)
      | in-None w ↦
          let is : head c.args.back (length moves) e c.move_at.result ≡ None = found ∙ w.in-None.is in
          let more = chained_pass c.args.back moves e c.loop-e.first.items c.loop-e.after.items c.loop-e.invariant (heads ∙ is) in
          let F : List ℕ → Type 0 = λ l. AreChained c.args.back moves (e + 1) l c.loop-e.after.items in
          let A : List ℕ → Type 0 = λ l. AreChained c.args.back moves (e + 1) c.match-head.first.items l in
          subst A (sym (ap (λ (v : Vec ℕ Global). v.items) w.after-is)) (subst F (sym (ap (λ (v : Vec ℕ Global). v.items) w.first-is)) more)
    ]

pub returns : goal.returns
returns c =
    let moves = moves_of c.args.rows in
    let all : c.loop-e.e ≡ 2 * length moves = omega (arith, c.loop-e-test.false, c.loop-e.auto.e-end, c.len-count.ensures) in
    let C : ℕ → Type 0 = λ k. AreChained c.args.back moves k c.loop-e.first.items c.loop-e.after.items in
    (refl, subst C all c.loop-e.invariant)
