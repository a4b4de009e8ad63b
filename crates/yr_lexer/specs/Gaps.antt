-- What may stand between tokens: blanks and comments. Each relation says that something stands at the front of a text, and what follows it.
use Rattle.std.specs.Prelude.{◌≡◌, ◌≢◌, ℕ, ◌+◌, ◌-◌, ◌==◌, true, List, [], ◌∷◌, length, take, count_by}
use Rattle.yr_base.specs.Bytes.{is_blank}

-- bytes
abbrev pub Text : Type 0
Text = List ℕ

-- bytes up to a line feed or the end
pub data Line : Text → Text → Type 0 where
  at_end : Line [] []
  at_feed : {t : Text} → Line (10 ∷ t) (10 ∷ t)
  more : {b : ℕ} {t rest : Text} → b ≢ 10 → Line t rest → Line (b ∷ t) rest

-- bytes up to and with the next `*/`
pub data Block : Text → Text → Type 0 where
  closes : {t : Text} → Block (42 ∷ 47 ∷ t) t
  inside : {b : ℕ} {t rest : Text} → ((u : Text) → b ∷ t ≢ 42 ∷ 47 ∷ u) → Block t rest → Block (b ∷ t) rest

-- a comment: from `//` to the end of the line, or from `/*` to the next `*/`
pub data Comment : Text → Text → Type 0 where
  line : {t rest : Text} → Line t rest → Comment (47 ∷ 47 ∷ t) rest
  block : {t rest : Text} → Block t rest → Comment (47 ∷ 42 ∷ t) rest

-- a blank or a closed comment
pub data Piece : Text → Text → Type 0 where
  blank : {b : ℕ} {t : Text} → is_blank b ≡ true → Piece (b ∷ t) t
  comment : {t rest : Text} → Comment t rest → Piece t rest

-- the longest run of blanks and closed comments
pub data Gap : Text → Text → Type 0 where
  ends : {t : Text} → ((rest : Text) → ¬ Piece t rest) → Gap t t
  piece : {t more rest : Text} → Piece t more → Gap more rest → Gap t rest

-- the bytes of a text before one of its rests
abbrev pub before : Text → Text → Text
before whole rest = take (length whole - length rest) whole

-- how many line feeds
abbrev pub feeds_in : Text → ℕ
feeds_in t = count_by (λ b. b == 10) t

-- the line of the place where a rest begins: one more than the line feeds before it
abbrev pub line_at : Text → Text → ℕ
line_at whole rest = feeds_in (before whole rest) + 1
