-- Texts and expressions between their quotes, and what the inside of a text stands for ('Writing YARA rules', 'Text strings').
use Rattle.std.specs.Prelude.{◌≢◌, ℕ, ◌+◌, ◌-◌, ◌*◌, ◌<◌, ◌&&◌, nat_le, if◌then◌else◌, List, [], ◌∷◌}
use Rattle.yr_base.specs.Bytes.{is_digit}
use Rattle.yr_lexer.specs.Gaps.{Text}

-- units between two bytes q: a byte other than a line feed, q and `\`, or `\` and a byte other than a line feed
pub data AreUnits (q : ℕ) : Text → Type 0 where
  no_unit : AreUnits q []
  plain_unit : {b : ℕ} {t : Text} → b ≢ 10 → b ≢ q → b ≢ 92 → AreUnits q t → AreUnits q (b ∷ t)
  escaped_unit : {b : ℕ} {t : Text} → b ≢ 10 → AreUnits q t → AreUnits q (92 ∷ b ∷ t)

-- the value of a digit in any base up to 16, and 16 for a byte that is no digit
abbrev pub digit_of : ℕ → ℕ
digit_of b =
    if is_digit b then b - 48
    else if nat_le 97 b && nat_le b 102 then b - 87
    else if nat_le 65 b && nat_le b 70 then b - 55
    else 16

-- a unit of a text, the byte that it stands for, and what follows
pub data Stands : Text → ℕ → Text → Type 0 where
  itself : {b : ℕ} {t : Text} → b ≢ 10 → b ≢ 34 → b ≢ 92 → Stands (b ∷ t) b t
  quote : {t : Text} → Stands (92 ∷ 34 ∷ t) 34 t
  backslash : {t : Text} → Stands (92 ∷ 92 ∷ t) 92 t
  tab : {t : Text} → Stands (92 ∷ 116 ∷ t) 9 t
  feed : {t : Text} → Stands (92 ∷ 110 ∷ t) 10 t
  carriage_return : {t : Text} → Stands (92 ∷ 114 ∷ t) 13 t
  code : {h l : ℕ} {t : Text} → digit_of h < 16 → digit_of l < 16 → Stands (92 ∷ 120 ∷ h ∷ l ∷ t) (16 * digit_of h + digit_of l) t

-- the inside of a text, and the bytes that it stands for
pub data Unescapes : Text → List ℕ → Type 0 where
  nothing : Unescapes [] []
  unit : {t more : Text} {b : ℕ} {bytes : List ℕ} → Stands t b more → Unescapes more bytes → Unescapes t (b ∷ bytes)
