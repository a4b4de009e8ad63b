-- What a rule may name of the module `hash`: its three calls.
use Rattle.std.specs.Prelude.{List, [], ◌∷◌, codes}
use Rattle.yr_values.specs.Names.{NamedRow, NamedModule}
use Rattle.yr_modules.specs.Listed.{text_call}

abbrev pub call_rows : List NamedRow
call_rows = text_call (codes "md5") 64 ∷ text_call (codes "sha1") 65 ∷ text_call (codes "sha256") 66 ∷ []

abbrev pub hash_module : NamedModule
hash_module = record { name = codes "hash"; rows = call_rows }
