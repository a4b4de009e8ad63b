-- A token has a byte.
use Rattle.std.proofs.Common.{◌≡◌, ◌≢◌, ℕ, ◌<◌, Bool, [], ◌∷◌, ◌++◌, length, refl, ap, arith, length-append}
use Rattle.std.specs.Prelude.{nat_lt}
use Rattle.std.proofs.lemmas.Bool.{ltb-true}
use Rattle.yr_base.specs.Words.{reserved_words}
use Rattle.yr_lexer.specs.declared.token.TokenKind.{TokenKind}
use Rattle.yr_lexer.specs.declared.token.TokenKind.TheVariants as kind
use Rattle.yr_lexer.specs.Gaps.{Text}
use Rattle.yr_lexer.specs.Numbers.{IsNumber, decimal, kilobytes, megabytes, hexadecimal, octal}
use Rattle.yr_lexer.specs.Forms.{HasForm, signs}
use Rattle.yr_lexer.proofs.FirstLemmas.{every-contains}

abbrev has_byte : Text → Bool
has_byte w = nat_lt 0 (length w)

some-length : (w : Text) → w ≢ [] → 0 < length w
some-length [] n = absurd (n refl)
some-length (b ∷ w) n = omega arith

number-length : {w : Text} {v : ℕ} → IsNumber w v → 0 < length w
number-length (decimal {ds = ds} a) = some-length ds a.some
number-length (kilobytes {ds = ds} a) = let l = length-append ds (75 ∷ 66 ∷ []) in omega arith
number-length (megabytes {ds = ds} a) = let l = length-append ds (77 ∷ 66 ∷ []) in omega arith
number-length (hexadecimal a) = omega arith
number-length (octal a) = omega arith

cons-length : (w t : Text) (b : ℕ) → w ≡ b ∷ t → 0 < length w
cons-length w t b e = let l = ap (λ (x : Text). length x) e in omega arith

pub form-length : (e : Bool) (w : Text) (k : TokenKind) → HasForm e w k → 0 < length w
form-length e w kind.Word f = cons-length w f.0.rest f.0.first f.0.whole
form-length e w kind.Reserved f = ltb-true 0 (length w) (every-contains has_byte reserved_words w refl f)
form-length e w kind.StringName f = cons-length w f.0 36 f.1
form-length e w kind.StringWild f = cons-length w (f.0 ++ 42 ∷ []) 36 f.1
form-length e w kind.CountName f = cons-length w f.0 35 f.1
form-length e w kind.PlaceName f = cons-length w f.0 64 f.1
form-length e w kind.LengthName f = cons-length w f.0 33 f.1
form-length e w (kind.Number n) f = number-length f.2
form-length e w kind.Text f = cons-length w (f.0 ++ 34 ∷ []) 34 f.1
form-length e w (kind.Regex i s) f = cons-length w (f.0 ++ 47 ∷ f.1) 47 f.2
form-length e w kind.Hex f = cons-length w f.1 123 f.2
form-length e w kind.Sign f = ltb-true 0 (length w) (every-contains has_byte signs w refl f)
