use Rattle.std.proofs.Common.{◌≡◌, ◌∙◌, sym, ap, map, length, arith}
use Rattle.yr_conditions.specs.UseViews.{scope_of}
use Rattle.yr_conditions.proofs.MeaningLemmas.{innermost-length, length-map'}
use Rattle.yr_conditions.proofs.scopes.Scopes.count.Goals as goal

pub returns : goal.returns
returns c =
    c.len.ensures
    ∙ c.self.inside.loops.ok.0
    ∙ sym (length-map' scope_of c.self.inside.loops.items)
    ∙ sym (innermost-length (map scope_of c.self.inside.loops.items))
    ∙ ap length c.self.view_is
