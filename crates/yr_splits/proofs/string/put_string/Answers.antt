use Rattle.std.proofs.Common.{ℕ, ◌+◌, ◌*◌, List, ◌++◌, length, map, refl, subst, ap, ap₂, ◌∙◌}
use Rattle.yr_pattern.specs.Variants.{PlainVariant, variant_of}
use Rattle.yr_rules.specs.Rules.{string_of}
use Rattle.yr_atoms.specs.Coded.{word}
use Rattle.yr_image.specs.declared.rows.StringRow.{StringRow}
use Rattle.yr_draft.specs.Added.{HasText}
use Rattle.yr_splits.specs.Filling.{FilledPart}
use Rattle.yr_splits.proofs.FillLemmas.{filled_begins, filled_ends}
use Rattle.yr_splits.proofs.string.put_string.Goals as goal

pub returns : goal.returns
returns c = λ start placed strings count f.
    let s = c.args.string.now in
    let old = c.put_variants.new.draft in
    let middle = c.put_text.new.self in
    let atoms : List (List ℕ) = map word c.put_variants.new.atoms.items in
    let r = c.in_ok-put_variants.ensures start placed strings count (filled_begins start c.args.draft.now placed strings (map word c.args.atoms.now.items) f) in
    let P : List PlainVariant → Type 0 = λ vs. FilledPart start old (placed ++ r.0) strings vs atoms in
    let part = subst P (ap (map variant_of) c.deref.ensures.value) r.1 in
    let Q : List ℕ → Type 0 = λ name. HasText old middle name c.in_ok-place.place in
    let text = subst Q c.deref-name.ensures.value c.in_ok-place.ensures in
    let row : StringRow = record { name_place = c.in_ok-place.place; name_length = length c.deref-name.result.now; flags = c.from.result + 2 * c.from-2.result; rule = s.rule } in
    let flags = ap₂ (λ (a b : ℕ). a + 2 * b) (c.from.ensures ∙ c.one_if.ensures) (c.from-2.ensures ∙ c.one_if-2.ensures) in (
      r.0,
      filled_ends start old middle c.put_string.new.self (placed ++ r.0) strings (string_of s) atoms c.in_ok-place.place row text c.in_ok-put_string.ensures refl (ap length c.deref-name.ensures.value) flags refl part,
    )
