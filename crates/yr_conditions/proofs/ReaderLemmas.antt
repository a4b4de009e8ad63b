-- Readers that read by the definitions: there are some, and they all answer alike.
use Rattle.std.proofs.Common.{◌≡◌, ℕ, ◌-◌, ◌≤◌, Bool, true, false, [], ◌∷◌, List, length, Option, Some, None, Result, Ok, Err, refl, sym, ap, subst, ◌∙◌, arith}
use Rattle.std.specs.Prelude.{not, ◌&&◌}
use Rattle.yr_pattern.specs.Tree.{Tree}
use Rattle.yr_hex.specs.Reading as hex_reading
use Rattle.yr_hex.proofs.AnswerLemmas as hex_lemmas
use Rattle.yr_regex.specs.Answers as regex
use Rattle.yr_regex.specs.Expressions.{Branches}
use Rattle.yr_regex.specs.Faults.{HasBadBranch, has_lazy, has_eager}
use Rattle.yr_regex.specs.Grammar.{SpellsRegex}
use Rattle.yr_regex.specs.Meaning.{meaning}
use Rattle.yr_regex.specs.Reading as regex_reading
use Rattle.yr_regex.proofs.AnswerLemmas.{one-reading}
use Rattle.yr_regex.proofs.BadLemmas.{IsGreatest, branches-greatest}
use Rattle.yr_regex.proofs.Complete.{regex-complete}
use Rattle.yr_regex.proofs.MeaningLemmas.{branches-place}
use Rattle.yr_regex.proofs.OutcomeLemmas.{some_is}
use Rattle.yr_regex.proofs.Sound.{regex-sound}
use Rattle.yr_regex.proofs.Summary.{branches_part}
use Rattle.yr_conditions.specs.Fixed.{hex_judged, hex_of, greed_judged, regex_judged, regex_of, the_readers}
use Rattle.yr_conditions.specs.Readers.{Readers, Read, HexRefusal, Jump, RegexRefusal, Range, Mixed, Expression, IsHexAnswer, IsRegexAnswer}

-- ---- some readers

hex-judged : (t : List ℕ) (p : hex_reading.PartRead) (o : Option ℕ) → hex_lemmas.IsWhole t p → p.bad ≡ o → IsHexAnswer t (hex_judged t p o)
hex-judged t p None w e = hex_lemmas.pattern-read t p w e
hex-judged t p (Some left) w e = hex_lemmas.jump-read t p left (length t - left) w e refl

hex-of : (t : List ℕ) (o : Option (hex_reading.PartRead × List ℕ)) → hex_lemmas.first_read t ≡ o → IsHexAnswer t (hex_of t o)
hex-of t None e = hex_lemmas.nothing-read t e
hex-of t (Some (p, [])) e = hex-judged t p p.bad (hex_lemmas.whole-read t p [] e (omega arith)) refl
hex-of t (Some (p, b ∷ u)) e = hex_lemmas.more-read t p (b ∷ u) e (omega arith)

module _ (t : List ℕ) (nocase dot_all : Bool) where
  greed-judged : (bs : Branches) (b : Bool) → SpellsRegex t bs → ((left : ℕ) → ¬ HasBadBranch bs left) → (has_lazy bs && has_eager bs) ≡ b
      → IsRegexAnswer t nocase dot_all (greed_judged nocase dot_all bs b)
  greed-judged bs true spells good e = record { branches = bs; spells = spells; good = good; mixed = e }
  greed-judged bs false spells good e = record { branches = bs; spells = spells; good = good; one_greed = e; means = refl; greed = refl }

  regex-judged : (bs : Branches) (o : Option ℕ) → SpellsRegex t bs → IsGreatest (HasBadBranch bs) o → IsRegexAnswer t nocase dot_all (regex_judged t nocase dot_all bs o)
  regex-judged bs None spells g = greed-judged bs (has_lazy bs && has_eager bs) spells g refl
  regex-judged bs (Some left) spells g =
      let within : left ≤ length t = branches-place spells g.0 in
      record { branches = bs; left = left; spells = spells; bad = g.0; first = g.1; at = omega arith }

  regex-of : (o : Option (Branches × List ℕ)) → regex_reading.read_branches (regex_reading.group_at 64) t ≡ o → IsRegexAnswer t nocase dot_all (regex_of t nocase dot_all o)
  regex-of None e = λ bs r. let f = regex-complete t bs r in absurd cc
  regex-of (Some (bs, [])) e = regex-judged bs (branches_part nocase dot_all bs).marks.bad (regex-sound t (bs, []) e) (branches-greatest nocase dot_all bs)
  regex-of (Some (bs, b ∷ u)) e = λ other r.
      let f = ap (λ (x : Branches × List ℕ). length x.1) (some_is (bs, b ∷ u) (other, []) (sym e ∙ regex-complete t other r)) in absurd (omega arith)

pub the-read : Read the_readers
unfolding the_readers
the-read = record {
  hex = λ t. hex-of t (hex_lemmas.first_read t) refl;
  regex = λ t nocase dot_all. regex-of t nocase dot_all (regex_reading.read_branches (regex_reading.group_at 64) t) refl;
}

pub some_readers : (readers : Readers) × Read readers
some_readers = (the_readers, the-read)

-- ---- one answer

pub one-hex : (t : List ℕ) (a b : Result Tree HexRefusal) → IsHexAnswer t a → IsHexAnswer t b → a ≡ b
one-hex t (Ok x) (Ok y) f g = ap Ok (hex_lemmas.one_pattern t x y f g)
one-hex t (Ok x) (Err HexRefusal.NoReading) f g = absurd (g f.items f.spells)
one-hex t (Ok x) (Err (Jump q)) f g = absurd (hex_lemmas.not_both_answers t x q f g)
one-hex t (Err HexRefusal.NoReading) (Ok y) f g = absurd (f g.items g.spells)
one-hex t (Err HexRefusal.NoReading) (Err HexRefusal.NoReading) f g = refl
one-hex t (Err HexRefusal.NoReading) (Err (Jump q)) f g = absurd (f g.items g.spells)
one-hex t (Err (Jump p)) (Ok y) f g = absurd (hex_lemmas.not_both_answers t y p g f)
one-hex t (Err (Jump p)) (Err HexRefusal.NoReading) f g = absurd (g f.items f.spells)
one-hex t (Err (Jump p)) (Err (Jump q)) f g = ap (λ x. Err (Jump x)) (hex_lemmas.one_jump t p q f g)

module _ (t : List ℕ) (nocase dot_all : Bool) where
  same-expression : (x y : Expression) → x.pattern ≡ y.pattern → x.greedy ≡ y.greedy → x ≡ y
  same-expression x y e f =
      ap (λ (p : Tree). record { pattern = p; greedy = x.greedy }) e ∙ ap (λ (g : Bool). record { pattern = y.pattern; greedy = g }) f

  no-bad : (x : Expression) (q : ℕ) → regex.IsRegex t nocase dot_all x.pattern x.greedy → regex.IsFirstBad t q → ⊥
  no-bad x q f g = f.good g.left (subst (λ (z : Branches). HasBadBranch z g.left) (one-reading t g.branches f.branches g.spells f.spells) g.bad)

  no-mixed : (x : Expression) → regex.IsRegex t nocase dot_all x.pattern x.greedy → regex.HasMixedGreed t → ⊥
  no-mixed x f g =
      let h = ap (λ (z : Branches). has_lazy z && has_eager z) (one-reading t f.branches g.branches f.spells g.spells) in
      let a = f.one_greed in let b = g.mixed in absurd cc

  no-both : (p : ℕ) → regex.IsFirstBad t p → regex.HasMixedGreed t → ⊥
  no-both p f g = g.good f.left (subst (λ (z : Branches). HasBadBranch z f.left) (one-reading t f.branches g.branches f.spells g.spells) f.bad)

  one-place : (p q : ℕ) → regex.IsFirstBad t p → regex.IsFirstBad t q → p ≡ q
  one-place p q f g =
      let e = one-reading t f.branches g.branches f.spells g.spells in
      let a = g.first f.left (subst (λ (z : Branches). HasBadBranch z f.left) e f.bad) in
      let b = f.first g.left (subst (λ (z : Branches). HasBadBranch z g.left) (sym e) g.bad) in
      let c = f.at in let d = g.at in omega arith

  pub one-regex : (a b : Result Expression RegexRefusal) → IsRegexAnswer t nocase dot_all a → IsRegexAnswer t nocase dot_all b → a ≡ b
  one-regex (Ok x) (Ok y) f g =
      let e = one-reading t f.branches g.branches f.spells g.spells in
      ap Ok (same-expression x y (f.means ∙ ap (meaning nocase dot_all) e ∙ sym g.means) (f.greed ∙ ap (λ (z : Branches). not (has_lazy z)) e ∙ sym g.greed))
  one-regex (Ok x) (Err RegexRefusal.NoReading) f g = absurd (g f.branches f.spells)
  one-regex (Ok x) (Err (Range q)) f g = absurd (no-bad x q f g)
  one-regex (Ok x) (Err Mixed) f g = absurd (no-mixed x f g)
  one-regex (Err RegexRefusal.NoReading) (Ok y) f g = absurd (f g.branches g.spells)
  one-regex (Err RegexRefusal.NoReading) (Err RegexRefusal.NoReading) f g = refl
  one-regex (Err RegexRefusal.NoReading) (Err (Range q)) f g = absurd (f g.branches g.spells)
  one-regex (Err RegexRefusal.NoReading) (Err Mixed) f g = absurd (f g.branches g.spells)
  one-regex (Err (Range p)) (Ok y) f g = absurd (no-bad y p g f)
  one-regex (Err (Range p)) (Err RegexRefusal.NoReading) f g = absurd (g f.branches f.spells)
  one-regex (Err (Range p)) (Err (Range q)) f g = ap (λ x. Err (Range x)) (one-place p q f g)
  one-regex (Err (Range p)) (Err Mixed) f g = absurd (no-both p f g)
  one-regex (Err Mixed) (Ok y) f g = absurd (no-mixed y g f)
  one-regex (Err Mixed) (Err RegexRefusal.NoReading) f g = absurd (g f.branches f.spells)
  one-regex (Err Mixed) (Err (Range q)) f g = absurd (no-both q g f)
  one-regex (Err Mixed) (Err Mixed) f g = refl

pub one-answer : (a b : Readers) → Read a → Read b → ((t : List ℕ) → a.hex t ≡ b.hex t) × ((t : List ℕ) (nocase dot_all : Bool) → a.regex t nocase dot_all ≡ b.regex t nocase dot_all)
one-answer a b f g = (
  λ t. one-hex t (a.hex t) (b.hex t) (f.hex t) (g.hex t),
  λ t nocase dot_all. one-regex t nocase dot_all (a.regex t nocase dot_all) (b.regex t nocase dot_all) (f.regex t nocase dot_all) (g.regex t nocase dot_all),
)
