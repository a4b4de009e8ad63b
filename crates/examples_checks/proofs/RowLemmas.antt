-- The namespaces, externals and units of rows.
use Rattle.std.proofs.Common.{◌≡◌, ℕ, ◌<◌, ◌+◌, Bool, true, List, [], ◌∷◌, ◌++◌, length, map, All, codes, leb, refl, sym, subst, arith}
use Rattle.std.proofs.lemmas.Bool.{leb-true}
use Rattle.std.proofs.lemmas.List.{map-append, length-append, length-map}
use Rattle.std.proofs.lemmas.List.Elements.{All-cons, All-nil, All-push}
use Rattle.yr_base.specs.Words.{is_word}
use Rattle.yr_base.proofs.WordLemmas.{word_test}
use Rattle.yr_rules.specs.Rules.{PlainExternal}
use Rattle.yr_rules.specs.Wellformed.{IsShortWord, AreDifferent}
use Rattle.yr_checks.specs.declared.unit.Unit.{Unit as UnitRow}
use Rattle.yr_checks.specs.Resolving.{AreExternals, AreUnits, IsUnit}
use Rattle.yr_checks.specs.Sources.{UnitTree, unit_of}

short_word : (w : List ℕ) → is_word w ≡ true → leb (length w) 128 ≡ true → IsShortWord w
short_word w h short = ((word_test w).0 h, leb-true (length w) 128 short)

pub default_word : IsShortWord (codes "default")
default_word = short_word (codes "default") refl refl

pub d_word : IsShortWord (codes "d")
d_word = short_word (codes "d") refl refl

pub e_word : IsShortWord (codes "e")
e_word = short_word (codes "e") refl refl

n_word : IsShortWord (codes "n")
n_word = short_word (codes "n") refl refl

name_word : IsShortWord (codes "name")
name_word = short_word (codes "name") refl refl

elf_word : IsShortWord (codes "elf")
elf_word = short_word (codes "elf") refl refl

-- three externals of these names
pub three_fit : (a b c : PlainExternal) → a.name ≡ codes "n" → b.name ≡ codes "name" → c.name ≡ codes "elf" → AreExternals (a ∷ b ∷ c ∷ [])
three_fit a b c x y z =
    let Named = λ (e : PlainExternal). IsShortWord e.name in (
      All-cons Named a (b ∷ c ∷ []) (subst IsShortWord (sym x) n_word)
          (All-cons Named b (c ∷ []) (subst IsShortWord (sym y) name_word) (All-cons Named c [] (subst IsShortWord (sym z) elf_word) (All-nil Named))),
      subst (λ p. AreDifferent (p ∷ b.name ∷ c.name ∷ [])) (sym x)
          (subst (λ q. AreDifferent (codes "n" ∷ q ∷ c.name ∷ [])) (sym y)
          (subst (λ r. AreDifferent (codes "n" ∷ codes "name" ∷ r ∷ [])) (sym z) refl)),
    )

-- one unit more
pub unit_added : (units : List UnitRow) (u : UnitRow) → length units < 16 → AreUnits (map unit_of units) → IsUnit (unit_of u) → AreUnits (map unit_of (units ++ u ∷ []))
unit_added units u few are is =
    let more = map-append unit_of units (u ∷ []) in
    let count = length-append units (u ∷ []) in
    let size = length-map (units ++ u ∷ []) unit_of in
    (omega (arith, few, count, size), subst (All IsUnit) (sym more) (All-push IsUnit (map unit_of units) (unit_of u) are.1 is))
