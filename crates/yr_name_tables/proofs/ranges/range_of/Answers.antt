use Rattle.std.proofs.Common.{map, List, ℕ, Bor}
use Rattle.yr_name_tables.proofs.OrderLemmas.{range-means}
use Rattle.yr_name_tables.proofs.ranges.range_of.Goals as goal

pub returns : goal.returns
returns c =
    let names = map (λ (n : Bor (List ℕ)). n.now) c.args.names.now in
    record {
      within = c.place-2.ensures.within;
      covers = range-means c.args.order.now names c.args.front.now c.args.wild c.place.result c.place-2.result c.place.ensures.place c.place-2.ensures.place;
    }
