use Rattle.std.proofs.Common.{◌≡◌, ℕ, Option, Some, length, ap, ◌∙◌, subst, arith}
use Rattle.std.specs.Prelude.{◌↔◌}
use Rattle.yr_walks.specs.Carried.{Holds}
use Rattle.yr_walks.specs.StartWalks.{Walk, IsBetter}
use Rattle.yr_walks.proofs.start_walk.StartWalk.answer.Goals as goal

pub overflow_cast-accept : goal.overflow_cast-accept
overflow_cast-accept c = omega (arith, c.len-accept.ensures, c.requires.wellformed.1, ap (λ (x : Walk). length x.moves) c.self.view_is)

pub returns : goal.returns
returns c =
    let count : c.len-accept.result ≡ length c.args.self.now.moves = c.len-accept.ensures ∙ ap (λ (x : Walk). length x.moves) c.self.view_is in
    let F : ℕ → Type 0 = λ n. (j : ℕ) → (c.end-above.result ≡ Some j) ↔ Holds c.args.carried.now.items n j in
    let A : ℕ → Type 0 = λ n. (j : ℕ) → (c.end.result ≡ Some j) ↔ Holds c.args.own.now.items n j in
    let B : Option ℕ → Type 0 = λ o. IsBetter c.args.self.now.greedy c.end-above.result o c.better.result in
    let W : Walk → Type 0 = λ x. IsBetter x.greedy c.end-above.result c.only_with-here.result c.better.result in
    (c.end-above.result, c.end.result, subst F count c.end-above.ensures, subst A count c.end.ensures, subst B c.only_with-here.ensures (subst W c.self.view_is c.better.ensures))
