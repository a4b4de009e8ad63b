-- Classes of regular expressions.
use Rattle.std.specs.Prelude.{◌≡◌, ◌≢◌, ℕ, Bool, true, false, not, ◌&&◌, ◌==◌, List, [], ◌∷◌, length, Some}
use Rattle.yr_regex.specs.Escapes.{Text, kind, ReadsEscape}
use Rattle.yr_regex.specs.Expressions.{Member, Single, Kind, Range}

-- a byte of a class: any but `\` and `]`, an escape, or a `]` that stands first
pub data ReadsSingle : (first : Bool) → Text → ℕ → Text → Type 0 where
  plain : {first : Bool} {b : ℕ} {rest : Text} → b ≢ 92 → b ≢ 93 → ReadsSingle first (b ∷ rest) b rest
  bracket : {rest : Text} → ReadsSingle true (93 ∷ rest) 93 rest
  escape : {first : Bool} {b : ℕ} {t rest : Text} → ReadsEscape t b rest → ReadsSingle first t b rest

-- a range goes on: a `-`, and then something other than the `]` that closes the class
abbrev pub goes_on : Text → Bool
goes_on (b ∷ c ∷ t) = b == 45 && not (c == 93)
goes_on (b ∷ []) = false
goes_on [] = false

-- a set, a range of bytes, or a byte with which no range begins
pub data ReadsMember : (first : Bool) → Text → Member → Text → Type 0 where
  set : {first : Bool} {c : ℕ} {bytes : ℕ → Bool} {rest : Text} → kind c ≡ Some bytes → ReadsMember first (92 ∷ c ∷ rest) (Kind bytes) rest
  range : {first : Bool} {a b : ℕ} {t u rest : Text} → ReadsSingle first t a (45 ∷ u) → ReadsSingle false u b rest → ReadsMember first t (Range (length t) a b) rest
  single : {first : Bool} {b : ℕ} {t rest : Text} → ReadsSingle first t b rest → goes_on rest ≡ false → ReadsMember first t (Single b) rest

-- one or more, and the `]` behind them
pub data ReadsMembers : (first : Bool) → Text → List Member → Text → Type 0 where
  last_member : {first : Bool} {m : Member} {t rest : Text} → ReadsMember first t m (93 ∷ rest) → ReadsMembers first t (m ∷ []) rest
  member_then : {first : Bool} {m : Member} {ms : List Member} {t u rest : Text} → ReadsMember first t m u → ReadsMembers false u ms rest → ReadsMembers first t (m ∷ ms) rest

-- a `^` stands in front
abbrev pub begins_caret : Text → Bool
begins_caret [] = false
begins_caret (b ∷ t) = b == 94

-- a class; a `^` behind its `[` is always the sign of the complement
pub data ReadsClass : Text → Bool → List Member → Text → Type 0 where
  members : {ms : List Member} {t rest : Text} → begins_caret t ≡ false → ReadsMembers true t ms rest → ReadsClass (91 ∷ t) false ms rest
  complement : {ms : List Member} {t rest : Text} → ReadsMembers true t ms rest → ReadsClass (91 ∷ 94 ∷ t) true ms rest
