use Rattle.std.proofs.Common.{rules}
use Rattle.std.proofs.lemmas.Fn.{dedup_same}
use Rattle.yr_hits.specs.Gathering.{has_same_offset}
use Rattle.yr_search.proofs.settling.keep_first.Goals as goal

pub returns : goal.returns
returns c = dedup_same _ has_same_offset _ (λ x y b f' x' y' k. search rules) _ _ c.dedup_by_key.ensures.filtered
