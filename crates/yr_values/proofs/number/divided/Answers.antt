use Rattle.std.proofs.Common.{◌≡◌, ap, sym, ◌∙◌}
use Rattle.std.specs.Prelude.{negsuc, neg_ℤ}
use Rattle.std.specs.Int.{w64, int_wrapping_neg, cast_signed as to_z, cast_unsigned as of_z}
use Rattle.std.proofs.lemmas.Int.{wrapping_neg_is, SFits-int_wrap}
use Rattle.std.proofs.Math.Facts.{to_z-of_z}
use Rattle.yr_values.specs.Values.{Number}
use Rattle.yr_values.specs.Numbers.{quotient, in_64_bits}
use Rattle.yr_values.proofs.NumberLemmas.{by_minus_one}
use Rattle.yr_values.proofs.number.divided.Goals as goal

pub returns-then-y-eqminus1 : goal.returns-then-y-eqminus1
returns-then-y-eqminus1 c =
    let y : c.args.y ≡ negsuc 0 = sym (to_z-of_z c.ranges.y) ∙ ap (to_z w64) c.if-y-eqminus1.true in
    let q : Number (in_64_bits (neg_ℤ c.args.x)) ≡ quotient c.args.x c.args.y = ap (λ z. Number (in_64_bits z)) (sym (by_minus_one c.args.x)) ∙ ap (quotient c.args.x) (sym y) in
    let r : c.wrapping_neg.result ≡ in_64_bits (neg_ℤ c.args.x) = c.wrapping_neg.ensures ∙ ap (int_wrapping_neg w64) (to_z-of_z c.ranges.x) ∙ wrapping_neg_is w64 c.args.x c.ranges.x in
    let n : to_z w64 (of_z w64 c.wrapping_neg.result) ≡ c.wrapping_neg.result = ap (λ z. to_z w64 (of_z w64 z)) r ∙ to_z-of_z (SFits-int_wrap w64 (neg_ℤ c.args.x)) ∙ sym r in
    ap Number (n ∙ r) ∙ q
