-- What is found on a text string, and what it weighs, by the number of its bytes.
use Rattle.std.proofs.Common.{◌≡◌, ℕ, ◌+◌, List, length, sym, ap, ◌∙◌, nat_lt, None}
use Rattle.std.specs.List.{list_any}
use Rattle.yr_name_tables.specs.Names.{with_sign}
use Rattle.yr_conditions.specs.Readers.{Readers, body_variants, modifiers_of, string_variants}
use Rattle.yr_pattern.specs.Variants.{variant_size}
use Rattle.yr_rules.specs.Weight.{string_weight, total, variant_weight}
use Rattle.yr_syntax.specs.Declaration.{StringTree, Text}
use Rattle.yr_text.specs.declared.modifiers.Modifiers.{Modifiers}
use Rattle.yr_text.specs.Variants.{variants_of}
use Rattle.yr_checks.specs.declared.refusal.Code.TheVariants as code
use Rattle.yr_checks.specs.Checked.{checked_string}
use Rattle.yr_checks.specs.Given.{name_if, naming}
use Rattle.yr_checks.specs.Patterns.{bad_hex, bad_regex, is_large, large_string}
use Rattle.yr_checking.specs.TextSizes.{large_count, literal_weight, text_sum}
use Rattle.yr_checking.proofs.TextSizeLemmas.{large-total, weight-total}

module _ (readers : Readers) (s : StringTree) (t : List ℕ) (is : s.body ≡ Text t) where
  pub text_hex : bad_hex readers s ≡ None
  text_hex = ap (λ b. bad_hex readers (record s { body = b })) is

  pub text_regex : bad_regex readers s ≡ None
  text_regex = ap (λ b. bad_regex readers (record s { body = b })) is

  text-variants : (m : Modifiers) → m ≡ modifiers_of s → string_variants readers s ≡ variants_of t m
  text-variants m said = ap (λ b. body_variants readers b (modifiers_of s)) is ∙ ap (variants_of t) (sym said)

  pub text_large : (m : Modifiers) → m ≡ modifiers_of s
      → large_string readers s ≡ naming code.PatternTooLarge (name_if (nat_lt 0 (text_sum large_count m (length t))) (with_sign s.name))
  text_large m said =
      ap (λ vs. naming code.PatternTooLarge (name_if (list_any (λ v. is_large (variant_size v)) vs) (with_sign s.name))) (text-variants m said)
      ∙ ap (λ b. naming code.PatternTooLarge (name_if b (with_sign s.name))) (large-total t m)

  pub text_weight : (rule : ℕ) (m : Modifiers) → m ≡ modifiers_of s
      → string_weight (checked_string readers rule s) ≡ 32 + length s.name + text_sum literal_weight m (length t)
  text_weight rule m said = ap (λ vs. 32 + length s.name + total variant_weight vs) (text-variants m said) ∙ ap (λ n. 32 + length s.name + n) (weight-total t m)
