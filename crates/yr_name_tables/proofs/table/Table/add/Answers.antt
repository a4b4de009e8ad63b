use Rattle.std.proofs.Common.{ap, ◌∙◌, Bor, List, ℕ, map}
use Rattle.yr_name_tables.specs.Places.{with_name}
use Rattle.yr_name_tables.proofs.NameLemmas.{with_name-map}
use Rattle.yr_name_tables.proofs.table.Table.add.Goals as goal

pub returns : goal.returns
returns c =
    let f = λ (k : Bor (List ℕ)). k.now in
    ap (map f) c.in_ok-insert.ensures.keys
    ∙ with_name-map f c.args.name c.self.inside.names.keys
    ∙ ap (with_name c.args.name.now) c.self.view_is
