-- One unit in the namespace `default`, and no external.
use Rattle.std.proofs.Common.{◌≡◌, ℕ, true, List, [], ◌∷◌, length, map, All, codes, leb, refl, arith}
use Rattle.std.proofs.lemmas.Bool.{leb-true}
use Rattle.std.proofs.lemmas.List.Elements.{All-cons, All-nil}
use Rattle.yr_base.specs.Words.{is_word}
use Rattle.yr_base.proofs.WordLemmas.{word_test}
use Rattle.yr_rules.specs.Rules.{PlainExternal}
use Rattle.yr_rules.specs.Wellformed.{IsShortWord}
use Rattle.yr_checks.specs.declared.unit.Unit.{Unit as UnitRow}
use Rattle.yr_checks.specs.Resolving.{AreExternals, AreUnits, IsUnit}
use Rattle.yr_checks.specs.Sources.{unit_of}

pub default_word : IsShortWord (codes "default")
default_word = ((word_test (codes "default")).0 refl, leb-true (length (codes "default")) 128 refl)

pub one_unit : (u : UnitRow) → IsUnit (unit_of u) → AreUnits (map unit_of (u ∷ []))
one_unit u is = (omega arith, All-cons IsUnit (unit_of u) [] is (All-nil IsUnit))

pub no_externals : AreExternals []
no_externals = (All-nil (λ (e : PlainExternal). IsShortWord e.name), refl)
