use Rattle.std.proofs.Common.{◌≡◌, ◌∙◌, ap, Some, rules}
use Rattle.yr_rules.proofs.CallerLemmas.{tree_of-Field}
use Rattle.yr_rules.specs.NodeTree.{FieldAt, tree_of}
use Rattle.yr_conditions.proofs.valued.field_at.Goals as goal

pub returns : goal.returns
returns c = let same : c.in_ok-index.index.value ≡ c.args.index = search rules in tree_of-Field c.args.id c.args.kind (Some c.in_ok-index.index) ∙ ap (λ n. FieldAt c.args.id c.args.kind (tree_of n)) same
