-- Runs of letters, digits and `_`.
use Rattle.std.proofs.Common.{◌≡◌, ℕ, ◌≤◌, true, false, [], ◌∷◌, ◌++◌, length, refl, ap, subst, arith}
use Rattle.std.proofs.lemmas.List.Elements.{All-nil, All-cons, All-head, All-tail}
use Rattle.yr_base.specs.Bytes.{is_word_byte}
use Rattle.yr_lexer.specs.Gaps.{Text}
use Rattle.yr_lexer.specs.Forms.{AreWordBytes}
use Rattle.yr_lexer.specs.Reading.{past_word}
use Rattle.yr_lexer.proofs.Basics.{by_test}

abbrev pub IsWordByte : ℕ → Type 0
IsWordByte b = is_word_byte b ≡ true

abbrev pub HasRun : Text → Text → Type 0
HasRun t rest = (w : Text) × (t ≡ w ++ rest) × AreWordBytes w

pub word-run : (t : Text) → HasRun t (past_word t)
unfolding past_word
word-run [] = ([], refl, All-nil IsWordByte)
word-run (b ∷ t) = by_test (is_word_byte b) (past_word t) (b ∷ t) (HasRun (b ∷ t))
    (λ e. let r = word-run t in (b ∷ r.0, ap (λ (x : Text). b ∷ x) r.1, All-cons IsWordByte b r.0 e r.2))
    (λ e. ([], refl, All-nil IsWordByte))

pub past_word-shorter : (t : Text) → length (past_word t) ≤ length t
unfolding past_word
past_word-shorter [] = omega arith
past_word-shorter (b ∷ t) = by_test (is_word_byte b) (past_word t) (b ∷ t) (λ r. length r ≤ length (b ∷ t)) (λ e. let h = past_word-shorter t in omega arith) (λ e. omega arith)

pub word-least : (w rest : Text) → AreWordBytes w → length (past_word (w ++ rest)) ≤ length rest
unfolding past_word
word-least [] rest a = past_word-shorter rest
word-least (b ∷ w) rest a = rw (All-head IsWordByte b w a) (word-least w rest (All-tail IsWordByte b w a))

pub word-stops : (t : Text) (b : ℕ) (more : Text) → past_word t ≡ b ∷ more → is_word_byte b ≡ false
unfolding past_word
word-stops [] b more = λ e. absurd cc
word-stops (c ∷ t) b more = by_test (is_word_byte c) (past_word t) (c ∷ t) (λ r. r ≡ b ∷ more → is_word_byte b ≡ false)
    (λ _ e. word-stops t b more e) (λ n e. let same : c ≡ b = cc in subst (λ (x : ℕ). is_word_byte x ≡ false) same n)

pub past_word-at : (b : ℕ) (t : Text) → is_word_byte b ≡ true → past_word (b ∷ t) ≡ past_word t
unfolding past_word
past_word-at b t e = rw e refl
