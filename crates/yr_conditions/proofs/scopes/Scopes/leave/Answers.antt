use Rattle.std.proofs.Common.{◌≡◌, ◌+◌, ◌∙◌, ap, map, drop, vec_len, arith}
use Rattle.yr_conditions.specs.UseViews.{scope_of}
use Rattle.yr_conditions.proofs.MeaningLemmas.{innermost-pop}
use Rattle.yr_conditions.proofs.scopes.Scopes.leave.Goals as goal

pub returns : goal.returns
returns c =
    innermost-pop scope_of c.pop.result c.self.inside.loops.items c.pop.new.self.items (vec_len c.self.inside.loops) (vec_len c.pop.new.self)
    (λ _. vec_len c.pop.new.self + 1 ≡ vec_len c.self.inside.loops) c.pop.ensures.cases (omega (arith, c.self.inside.loops.ok.0)) (omega (arith, c.pop.new.self.ok.0)) c.pop.ensures.items
    ∙ ap (drop 1) c.self.view_is
