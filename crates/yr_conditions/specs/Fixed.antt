-- Readers that read by the definitions, held fast: what the code is compared with.
use Rattle.std.specs.Prelude.{ℕ, ◌-◌, ◌&&◌, not, Bool, true, false, List, [], ◌∷◌, length, Option, Some, None, Result, Ok, Err}
use Rattle.yr_pattern.specs.Tree.{Tree}
use Rattle.yr_hex.specs.Reading as hex_reading
use Rattle.yr_hex.proofs.AnswerLemmas as hex_lemmas
use Rattle.yr_regex.specs.Expressions.{Branches}
use Rattle.yr_regex.specs.Faults.{has_lazy, has_eager}
use Rattle.yr_regex.specs.Meaning.{meaning}
use Rattle.yr_regex.specs.Reading as regex_reading
use Rattle.yr_regex.proofs.Summary.{branches_part}
use Rattle.yr_conditions.specs.Readers.{Readers, HexRefusal, Jump, RegexRefusal, Range, Mixed, Expression}

abbrev pub hex_judged : List ℕ → hex_reading.PartRead → Option ℕ → Result Tree HexRefusal
hex_judged t p None = Ok p.tree
hex_judged t p (Some left) = Err (Jump (length t - left))

abbrev pub hex_of : List ℕ → Option (hex_reading.PartRead × List ℕ) → Result Tree HexRefusal
hex_of t None = Err HexRefusal.NoReading
hex_of t (Some (p, [])) = hex_judged t p p.bad
hex_of t (Some (p, b ∷ u)) = Err HexRefusal.NoReading

abbrev pub greed_judged : Bool → Bool → Branches → Bool → Result Expression RegexRefusal
greed_judged nocase dot_all bs true = Err Mixed
greed_judged nocase dot_all bs false = Ok (record { pattern = meaning nocase dot_all bs; greedy = not (has_lazy bs) })

abbrev pub regex_judged : List ℕ → Bool → Bool → Branches → Option ℕ → Result Expression RegexRefusal
regex_judged t nocase dot_all bs None = greed_judged nocase dot_all bs (has_lazy bs && has_eager bs)
regex_judged t nocase dot_all bs (Some left) = Err (Range (length t - left))

abbrev pub regex_of : List ℕ → Bool → Bool → Option (Branches × List ℕ) → Result Expression RegexRefusal
regex_of t nocase dot_all None = Err RegexRefusal.NoReading
regex_of t nocase dot_all (Some (bs, [])) = regex_judged t nocase dot_all bs (branches_part nocase dot_all bs).marks.bad
regex_of t nocase dot_all (Some (bs, b ∷ u)) = Err RegexRefusal.NoReading

unfoldable pub the_readers : Readers
the_readers = record {
  hex = λ t. hex_of t (hex_lemmas.first_read t);
  regex = λ t nocase dot_all. regex_of t nocase dot_all (regex_reading.read_branches (regex_reading.group_at 64) t);
}
