use Rattle.yr_modules.specs.Pe.Header.{header_place}
use Rattle.yr_modules.proofs.PeFieldLemmas.{value-suits, text-short}
use Rattle.yr_modules.proofs.pe.laws.fields_have_values_of_their_kinds.Goals as goal

pub returns-clause-kind : goal.returns-clause-kind
returns-clause-kind c file index f = value-suits (header_place file) file index f

pub returns-clause-short : goal.returns-clause-short
returns-clause-short c file index f text e = text-short (header_place file) file text index f e
