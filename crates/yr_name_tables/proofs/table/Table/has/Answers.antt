use Rattle.std.proofs.Common.{sym, ap, ◌∙◌, Bor, List, ℕ}
use Rattle.std.specs.Str.{bytes_eq}
use Rattle.yr_name_tables.specs.Names.{has}
use Rattle.yr_name_tables.proofs.NameLemmas.{any-map}
use Rattle.yr_name_tables.proofs.table.Table.has.Goals as goal

pub returns : goal.returns
returns c =
    c.contains.ensures
    ∙ sym (any-map (λ (k : Bor (List ℕ)). k.now) (bytes_eq c.args.name.now) c.self.inside.names.keys)
    ∙ ap (has c.args.name.now) c.self.view_is
