-- Small conditions, read by the grammar or by none of its cases.
use Rattle.std.proofs.Common.{◌≡◌, ℕ, ◌≤◌, length, Option, Some, None, refl, ap, arith}
use Rattle.yr_syntax.specs.Condition.{Condition}
use Rattle.yr_parser.specs.declared.level.Level.TheVariants as levels
use Rattle.yr_parser.specs.declared.level.Entry.TheVariants as entry
use Rattle.yr_parser.specs.Terminals.{Terminals}
use Rattle.yr_parser.specs.Levels.{level, unary}
use Rattle.yr_parser.specs.Conditions.{Reads, one, chain, pair, plain, negated, found, of, for_in, compared, bare, number, text, path, offset_at, count, reads, last, some, at_least, counts, percent, anywhere, at, within, from_to, over_path, no_step, name_step, strings, one_wild, them}
use Rattle.yr_parser.specs.Input.{Outcome, same_sign, sees, after, expect, many}
use Rattle.yr_parser.specs.Reading.{same_level, joins_at, negates_at, prefix_at, count_at, string_at, same_operator, sees_operator, sees_percent_of, read_word, next_link, level_from, pair_from, matches_from, primary_sign, primary_name, read_primary, read_unary, prod_from, read_prod, sum_from, read_sum, shift_from, read_shift, band_from, read_band, bxor_from, read_bxor, bits_from, read_bits, rel_from, read_rel, equal_rest, equal_from, place_at, place_in, read_place, found_from, read_count, for_of_from, for_in_from, read_for, percent_from, test_from, test_count, test_other, read_test, read_not, read_and, read_or, cond_at}
use Rattle.yr_parser.specs.Examples as examples
use Rattle.yr_parser.specs.Examples.{Spells, IsNoCondition, brace, Examples}
use Rattle.yr_parser.proofs.Complete.{read-complete}
use Rattle.yr_parser.proofs.Deep.{Shallow-always}

-- what the reader does not read is no condition
none-read : (k : Terminals) (m : ℕ) → length k ≤ m → ((c : Condition) → cond_at 20 entry.Or k ≡ Some (c, brace) → ⊥) → length k ≤ 19 → IsNoCondition k
unfolding cond_at
none-read k m h f few c r = f c (read-complete r 19 19 0 (omega arith) (Shallow-always k 19 0 (omega arith)) (omega arith))

empty_none : IsNoCondition brace
unfolding cond_at read_or read_and read_not negates_at read_test string_at test_other sees test_count count_at read_unary prefix_at read_primary primary_sign same_sign after expect
empty_none = none-read brace 1 (omega arith) (λ c e. absurd cc) (omega arith)

-- what is left after a reading
rest_of : Outcome Condition → Option Terminals
rest_of None = None
rest_of (Some x) = Some x.1

rest-is : (o : Outcome Condition) (c : Condition) → o ≡ Some (c, brace) → rest_of o ≡ Some brace
unfolding rest_of
rest-is o c e = ap rest_of e

percent_count_none : IsNoCondition examples.percent_count
unfolding rest_of cond_at read_or read_and level_from many next_link joins_at same_level read_not negates_at read_test string_at test_other sees test_count count_at read_unary prefix_at read_primary primary_sign primary_name same_sign after expect test_from percent_from sees_percent_of sees_operator same_operator equal_from rel_from bits_from bxor_from band_from shift_from sum_from prod_from read_rel read_bits read_bxor read_band read_shift read_sum read_prod pair_from equal_rest matches_from found_from read_place place_at place_in read_for read_count for_in_from for_of_from read_word
percent_count_none = none-read examples.percent_count 10 (omega arith) (λ c e. let r = rest-is (cond_at 20 entry.Or examples.percent_count) c e in absurd cc) (omega arith)

sum_of_none : IsNoCondition examples.sum_of
unfolding rest_of cond_at read_or read_and level_from many next_link joins_at same_level read_not negates_at read_test string_at test_other sees test_count count_at read_unary prefix_at read_primary primary_sign primary_name same_sign after expect test_from percent_from sees_percent_of sees_operator same_operator equal_from rel_from bits_from bxor_from band_from shift_from sum_from prod_from read_rel read_bits read_bxor read_band read_shift read_sum read_prod pair_from equal_rest matches_from found_from read_place place_at place_in read_for read_count for_in_from for_of_from read_word
sum_of_none = none-read examples.sum_of 10 (omega arith) (λ c e. let r = rest-is (cond_at 20 entry.Or examples.sum_of) c e in absurd cc) (omega arith)

string_equal_none : IsNoCondition examples.string_equal
unfolding rest_of cond_at read_or read_and level_from many next_link joins_at same_level read_not negates_at read_test string_at test_other sees test_count count_at read_unary prefix_at read_primary primary_sign primary_name same_sign after expect test_from percent_from sees_percent_of sees_operator same_operator equal_from rel_from bits_from bxor_from band_from shift_from sum_from prod_from read_rel read_bits read_bxor read_band read_shift read_sum read_prod pair_from equal_rest matches_from found_from read_place place_at place_in read_for read_count for_in_from for_of_from read_word
string_equal_none = none-read examples.string_equal 10 (omega arith) (λ c e. let r = rest-is (cond_at 20 entry.Or examples.string_equal) c e in absurd cc) (omega arith)

two_comparisons_none : IsNoCondition examples.two_comparisons
unfolding rest_of cond_at read_or read_and level_from many next_link joins_at same_level read_not negates_at read_test string_at test_other sees test_count count_at read_unary prefix_at read_primary primary_sign primary_name same_sign after expect test_from percent_from sees_percent_of sees_operator same_operator equal_from rel_from bits_from bxor_from band_from shift_from sum_from prod_from read_rel read_bits read_bxor read_band read_shift read_sum read_prod pair_from equal_rest matches_from found_from read_place place_at place_in read_for read_count for_in_from for_of_from read_word
two_comparisons_none = none-read examples.two_comparisons 10 (omega arith) (λ c e. let r = rest-is (cond_at 20 entry.Or examples.two_comparisons) c e in absurd cc) (omega arith)

percent_loop_none : IsNoCondition examples.percent_loop
unfolding cond_at read_or read_and level_from many next_link joins_at same_level read_not negates_at read_test string_at test_other sees test_count count_at read_unary prefix_at read_primary primary_sign primary_name same_sign after expect test_from percent_from sees_percent_of sees_operator same_operator equal_from rel_from bits_from bxor_from band_from shift_from sum_from prod_from read_rel read_bits read_bxor read_band read_shift read_sum read_prod pair_from equal_rest matches_from found_from read_place place_at place_in read_for read_count for_in_from for_of_from read_word
percent_loop_none = none-read examples.percent_loop 10 (omega arith) (λ c e. absurd cc) (omega arith)

bits_of : {k rest : Terminals} {c : Condition} → Reads unary k c rest → Reads (level levels.Bits) k c rest
bits_of r = one (one (one (one (one (one r)))))

rel_of : {k rest : Terminals} {c : Condition} → Reads unary k c rest → Reads (level levels.Rel) k c rest
rel_of r = one (bits_of r)

two_of_spelled : Spells examples.two_of examples.two_of_tree
two_of_spelled =
    chain refl (one (plain (of (counts (at_least (bare number))) (strings one_wild) anywhere)))
    (last refl (one (plain (of (counts some) (strings one_wild) anywhere))))

percent_of_spelled : Spells examples.percent_of examples.percent_of_tree
percent_of_spelled = one (one (plain (of (percent (bare number)) them (at (bits_of (bare number))))))

sections_spelled : Spells examples.sections examples.sections_tree
sections_spelled =
    one (one (plain (for_in some (over_path (name_step no_step))
    (one (one (plain (compared (pair refl (rel_of (bare (path (name_step no_step)))) refl (rel_of (bare text))))))))))

mixed_spelled : Spells examples.mixed examples.mixed_tree
mixed_spelled = one (chain refl (negated (plain (found (within (from_to (bits_of (bare number)) (bits_of (bare count))))))) (last refl (plain (compared (one (pair refl (one (one (one (one (chain refl (one (bare (offset_at (bits_of (bare number))))) (last refl (chain refl (bare number) (last refl (bare number))))))))) refl (bits_of (bare (reads (bits_of (bare number)))))))))))

pub small_conditions : Examples
small_conditions = record {
  two_of = two_of_spelled;
  percent_of = percent_of_spelled;
  sections = sections_spelled;
  mixed = mixed_spelled;
  empty = empty_none;
  percent_count = percent_count_none;
  sum_of = sum_of_none;
  string_equal = string_equal_none;
  two_comparisons = two_comparisons_none;
  percent_loop = percent_loop_none;
}
