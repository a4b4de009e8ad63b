use Rattle.std.proofs.Common.{◌≡◌, ◌∷◌, ◌∙◌, ap, map}
use Rattle.yr_conditions.specs.UseViews.{innermost_first, scope_of}
use Rattle.yr_conditions.proofs.MeaningLemmas.{map-last, innermost-last}
use Rattle.yr_conditions.proofs.scopes.Scopes.enter.Goals as goal

pub returns : goal.returns
returns c =
    let old = c.self.inside.loops.items in
    ap (λ l. innermost_first (map scope_of l)) c.in_ok-push.ensures.items
    ∙ ap innermost_first (map-last scope_of old c.args.inner)
    ∙ innermost-last (map scope_of old) (scope_of c.args.inner)
    ∙ ap (λ l. scope_of c.args.inner ∷ l) c.self.view_is
