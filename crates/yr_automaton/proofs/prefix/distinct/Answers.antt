use Rattle.std.proofs.Common.{◌≡◌, ◌≤◌, ◌+◌, ℕ, List, [], ◌∷◌, ◌++◌, length, arith, sym, ap, subst, ◌∙◌, get_or, Contains}
use Rattle.yr_automaton.proofs.ListLemmas.{at_has}
use Rattle.yr_automaton.proofs.BuildLemmas.{Once, once_start, once_keep, once_push}
use Rattle.yr_automaton.proofs.prefix.distinct.Goals as goal
use Rattle.yr_automaton.proofs.prefix.distinct.Goals.{then-key-last+in_ok-push-2, else-key-last}

pub loop-key-init : goal.loop-key-init
loop-key-init c =
    let first : c.push.new.self.items ≡ 0 ∷ [] = c.in_ok-push.ensures.items ∙ ap (λ l. l ++ 0 ∷ []) c.new-keys.ensures.items in
    subst (λ l. Once c.args.sorted.now 0 l 0) (sym first) (once_start c.args.sorted.now c.requires)

pub loop-key-preserved : goal.loop-key-preserved
loop-key-preserved c =
    let sorted = c.args.sorted.now in
    let i = c.loop-key.key-index in
    elim c.if-key-last.branch [
      | then-key-last+in_ok-push-2 w ↦
          let all : c.if-key-last.keys.items ≡ c.loop-key.keys.items ++ get_or sorted i 0 ∷ [] = ap (λ v. v.items) w.keys-is ∙ w.in_ok-push-2.ensures.items in
          let O : List ℕ → ℕ → Type 0 = λ l n. Once sorted (i + 1) l n in
          subst (λ n. O c.if-key-last.keys.items n) (sym w.last-is) (subst (λ l. O l (get_or sorted i 0)) (sym all)
          (once_push sorted c.requires i c.loop-key.last c.loop-key.keys.items c.loop-key-test.true c.loop-key.invariant w.if-key-last.true))
      | else-key-last w ↦
          let O : List ℕ → ℕ → Type 0 = λ l n. Once sorted (i + 1) l n in
          subst (λ n. O c.if-key-last.keys.items n) (sym w.last-is) (subst (λ l. O l c.loop-key.last) (sym (ap (λ v. v.items) w.keys-is))
          (once_keep sorted c.requires i c.loop-key.last c.loop-key.keys.items c.loop-key-test.true c.loop-key.invariant w.if-key-last.false))
    ]

pub returns-clause-all : goal.returns-clause-all
returns-clause-all c =
    let o = c.loop-key.invariant in
    let whole : length c.args.sorted.now ≤ c.loop-key.key-index = omega (arith, c.loop-key-test.false) in
    λ x h. let p = at_has c.args.sorted.now x h in subst (Contains c.loop-key.keys.items) p.2 (o.all p.0 (omega (arith, whole, p.1)))
