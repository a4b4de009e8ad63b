-- The first byte of a token tells which kinds it may have.
use Rattle.std.proofs.Common.{◌≡◌, ◌≢◌, ℕ, zero, suc, ◌<◌, Bool, true, false, List, [], ◌∷◌, ◌++◌, length, if◌then◌else◌, refl, sym, ap, subst, ◌∙◌, arith}
use Rattle.std.specs.Prelude.{◌==◌, ◌||◌, ◌&&◌, nat_lt, Contains, slice_index_or, ℤ}
use Rattle.std.proofs.lemmas.Bool.{lt-ltb, eqb-true, eq-eqb, and_parts}
use Rattle.std.proofs.lemmas.List.Elements.{All-head}
use Rattle.yr_base.specs.Bytes.{is_digit, is_word_start}
use Rattle.yr_base.specs.Words.{reserved_words, IsReserved}
use Rattle.yr_lexer.specs.declared.token.TokenKind.{TokenKind}
use Rattle.yr_lexer.specs.declared.token.TokenKind.TheVariants as kind
use Rattle.yr_lexer.specs.declared.fault.FaultRow.{FaultRow}
use Rattle.yr_lexer.specs.declared.fault.FaultRow.TheVariants as row
use Rattle.yr_lexer.specs.Gaps.{Text}
use Rattle.yr_lexer.specs.Texts.{digit_of}
use Rattle.yr_lexer.specs.Numbers.{AreDigits, IsNumber, decimal, kilobytes, megabytes, hexadecimal, octal}
use Rattle.yr_lexer.specs.Forms.{signs}
use Rattle.yr_lexer.specs.Faults.{Fits, IsUnclosed, open_text, open_regex, open_hex, open_comment, IsBadEscape, IsFloat, IsBadByte, no_token, no_number, IsFault, rank}

-- every element passes a test
abbrev pub every : {X : Type 0} → (X → Bool) → List X → Bool
every p [] = true
every p (x ∷ xs) = p x && every p xs

pub every-at : {X : Type 0} (p : X → Bool) (xs : List X) (k : ℕ) (x : X) → every p xs ≡ true → k < length xs → slice_index_or xs k x ≡ x → p x ≡ true
every-at p [] k x e h at = absurd (omega arith)
every-at p (y ∷ xs) zero x e h at = subst (λ z. p z ≡ true) at (and_parts (p y) (every p xs) e).0
every-at p (y ∷ xs) (suc k) x e h at = every-at p xs k x (and_parts (p y) (every p xs) e).1 (omega arith) at

pub every-contains : {X : Type 0} (p : X → Bool) (xs : List X) (x : X) → every p xs ≡ true → Contains xs x → p x ≡ true
every-contains p xs x e c = every-at p xs c.0 x e c.1 c.2

-- what a byte may begin: 0 a word, 1 a number, and so on, 9 a sign alone or nothing
abbrev pub class_of : ℕ → ℕ
class_of b =
    if is_word_start b then 0
    else if nat_lt (digit_of b) 10 then 1
    else if b == 34 then 2
    else if b == 36 then 3
    else if b == 35 then 4
    else if b == 64 then 5
    else if b == 33 then 6
    else if b == 47 then 7
    else if b == 123 then 8
    else 9

abbrev pub may_begin : TokenKind → ℕ → Bool
may_begin kind.Word c = c == 0
may_begin kind.Reserved c = c == 0
may_begin kind.StringName c = c == 3
may_begin kind.StringWild c = c == 3
may_begin kind.CountName c = c == 4
may_begin kind.PlaceName c = c == 5
may_begin kind.LengthName c = c == 6
may_begin (kind.Number _) c = c == 1
may_begin kind.Text c = c == 2
may_begin (kind.Regex _ _) c = c == 7
may_begin kind.Hex c = c == 8
may_begin kind.Sign c = c == 6 || (c == 8 || c == 9)

abbrev first_class : Text → ℕ
first_class [] = 10
first_class (b ∷ t) = class_of b

abbrev is_sign_class : Text → Bool
is_sign_class w = may_begin kind.Sign (first_class w)

abbrev is_word_class : Text → Bool
is_word_class w = first_class w == 0

pub class-word : (b : ℕ) → is_word_start b ≡ true → class_of b ≡ 0
class-word b h = rw h refl

digit-is : (b : ℕ) → digit_of b < 10 → is_digit b ≡ true
digit-is b h = go (is_digit b) refl
  where
    go : (x : Bool) → is_digit b ≡ x → is_digit b ≡ true
    go true e = e
    go false e = absurd (no_digit e)
      where
        no_digit : is_digit b ≡ false → ⊥
        no_digit f = grind arith

digit-start : (b : ℕ) → is_digit b ≡ true → is_word_start b ≡ false
digit-start b h = grind arith

pub class-digit : (b : ℕ) → digit_of b < 10 → class_of b ≡ 1
class-digit b h = rw (digit-start b (digit-is b h), lt-ltb (digit_of b) 10 h) refl

-- the same byte stands first
first-byte : (b c : ℕ) (t w rest : Text) → b ∷ t ≡ c ∷ w ++ rest → b ≡ c
first-byte b c t w rest e = cc

digits-first : (b : ℕ) (t ds rest : Text) → b ∷ t ≡ ds ++ rest → AreDigits 10 ds → digit_of b < 10
digits-first b t [] rest e a = absurd (a.some refl)
digits-first b t (d ∷ ds) rest e a = let same : b ≡ d = cc in subst (λ (x : ℕ). digit_of x < 10) (sym same) (All-head (λ x. digit_of x < 10) d ds a.digits)

append-digits : (ds more rest t : Text) (b : ℕ) → b ∷ t ≡ (ds ++ more) ++ rest → AreDigits 10 ds → digit_of b < 10
append-digits [] more rest t b e a = absurd (a.some refl)
append-digits (d ∷ ds) more rest t b e a = let same : b ≡ d = cc in subst (λ (x : ℕ). digit_of x < 10) (sym same) (All-head (λ x. digit_of x < 10) d ds a.digits)

zero-digit : (b : ℕ) → b ≡ 48 → digit_of b < 10
zero-digit b e = subst (λ (x : ℕ). digit_of x < 10) (sym e) (omega arith)

number-first : {w : Text} {v : ℕ} → IsNumber w v → (b : ℕ) (t rest : Text) → b ∷ t ≡ w ++ rest → digit_of b < 10
number-first (decimal {ds = ds} a) b t rest e = digits-first b t ds rest e a
number-first (kilobytes {ds = ds} a) b t rest e = append-digits ds (75 ∷ 66 ∷ []) rest t b e a
number-first (megabytes {ds = ds} a) b t rest e = append-digits ds (77 ∷ 66 ∷ []) rest t b e a
number-first (hexadecimal {ds = ds} a) b t rest e = zero-digit b (cc e)
number-first (octal {ds = ds} a) b t rest e = zero-digit b (cc e)

class-at : (b c : ℕ) (t w bytes rest : Text) (n : ℕ) → b ∷ t ≡ bytes ++ rest → bytes ≡ c ∷ w → class_of c ≡ n → (class_of b == n) ≡ true
class-at b c t w bytes rest n e f h =
    let same : b ≡ c = cc in
    eq-eqb (class_of b) n (ap class_of same ∙ h)

pub same-head : (b c : ℕ) (t u : Text) → b ∷ t ≡ c ∷ u → b ≡ c
same-head b c t u e = cc

pub same-tail : (b c : ℕ) (t u : Text) → b ∷ t ≡ c ∷ u → t ≡ u
same-tail b c t u e = cc

word_class-begins : (b : ℕ) (t w rest : Text) → b ∷ t ≡ w ++ rest → is_word_class w ≡ true → (class_of b == 0) ≡ true
word_class-begins b t [] rest e h = absurd cc
word_class-begins b t (c ∷ w) rest e h = let same : c ≡ b = cc e in subst (λ (x : ℕ). (class_of x == 0) ≡ true) same h

sign_class-begins : (b : ℕ) (t w rest : Text) → b ∷ t ≡ w ++ rest → is_sign_class w ≡ true → may_begin kind.Sign (class_of b) ≡ true
sign_class-begins b t [] rest e h = absurd cc
sign_class-begins b t (c ∷ w) rest e h = let same : c ≡ b = cc e in subst (λ (x : ℕ). may_begin kind.Sign (class_of x) ≡ true) same h

pub reserved-class : (w : Text) → IsReserved w → is_word_class w ≡ true
reserved-class w r = every-contains is_word_class reserved_words w refl r

pub sign-class : (w : Text) → Contains signs w → is_sign_class w ≡ true
sign-class w s = every-contains is_sign_class signs w refl s

pub begins : (a : Bool) (b : ℕ) (t : Text) (k : TokenKind) (rest : Text) → Fits a (b ∷ t) k rest → may_begin k (class_of b) ≡ true
begins a b t kind.Word rest f = let w = f.form.0 in class-at b w.first t w.rest f.bytes rest 0 f.whole w.whole (class-word w.first w.begins)
begins a b t kind.Reserved rest f = word_class-begins b t f.bytes rest f.whole (reserved-class f.bytes f.form)
begins a b t kind.StringName rest f = class-at b 36 t f.form.0 f.bytes rest 3 f.whole f.form.1 refl
begins a b t kind.StringWild rest f = class-at b 36 t (f.form.0 ++ 42 ∷ []) f.bytes rest 3 f.whole f.form.1 refl
begins a b t kind.CountName rest f = class-at b 35 t f.form.0 f.bytes rest 4 f.whole f.form.1 refl
begins a b t kind.PlaceName rest f = class-at b 64 t f.form.0 f.bytes rest 5 f.whole f.form.1 refl
begins a b t kind.LengthName rest f = class-at b 33 t f.form.0 f.bytes rest 6 f.whole f.form.1 refl
begins a b t (kind.Number n) rest f = eq-eqb (class_of b) 1 (class-digit b (number-first f.form.2 b t rest f.whole))
begins a b t kind.Text rest f = class-at b 34 t (f.form.0 ++ 34 ∷ []) f.bytes rest 2 f.whole f.form.1 refl
begins a b t (kind.Regex i s) rest f = class-at b 47 t (f.form.0 ++ 47 ∷ f.form.1) f.bytes rest 7 f.whole f.form.2 refl
begins a b t kind.Hex rest f = class-at b 123 t f.form.1 f.bytes rest 8 f.whole f.form.2 refl
begins a b t kind.Sign rest f = sign_class-begins b t f.bytes rest f.whole (sign-class f.bytes f.form)

pub begins-at : (a : Bool) (b : ℕ) (t : Text) (k : TokenKind) (rest : Text) (c : ℕ) → class_of b ≡ c → Fits a (b ∷ t) k rest → may_begin k c ≡ true
begins-at a b t k rest c e f = subst (λ (x : ℕ). may_begin k x ≡ true) e (begins a b t k rest f)

-- ---- the rows of the table of faults by the first byte

pub no-unclosed : (a : Bool) (b : ℕ) (t : Text) → class_of b ≢ 2 → class_of b ≢ 7 → (class_of b ≡ 8 → a ≡ true → ⊥) → ¬ IsUnclosed a (b ∷ t)
no-unclosed a b t n m h u = go (b ∷ t) refl u
  where
    go : (x : Text) → x ≡ b ∷ t → ¬ IsUnclosed a x
    go x e (open_text f) = n (ap class_of (sym (same-head _ _ _ _ e)))
    go x e (open_regex f) = m (ap class_of (sym (same-head _ _ _ _ e)))
    go x e (open_hex y f) = h (ap class_of (sym (same-head _ _ _ _ e))) y
    go x e (open_comment f) = m (ap class_of (sym (same-head _ _ _ _ e)))

pub no-bad_escape : (b : ℕ) (t : Text) → class_of b ≢ 2 → ¬ IsBadEscape (b ∷ t)
no-bad_escape b t n h = n (ap class_of (same-head b 34 t (h.inside ++ 34 ∷ h.rest) h.whole))

pub no-float : (b : ℕ) (t : Text) → class_of b ≢ 1 → ¬ IsFloat (b ∷ t)
no-float b t n h = n (class-digit b (digits-first b t h.digits (46 ∷ h.next ∷ h.rest) h.whole h.before_dot))

pub no-bad_byte : (a : Bool) (b : ℕ) (t : Text) (k : TokenKind) (rest : Text) → class_of b ≢ 1 → Fits a (b ∷ t) k rest → ¬ IsBadByte a (b ∷ t)
no-bad_byte a b t k rest n f h = go (b ∷ t) refl h
  where
    go : (x : Text) → x ≡ b ∷ t → ¬ IsBadByte a x
    go x e (no_token g) = g k rest (subst (λ (y : Text). Fits a y k rest) (sym e) f)
    go x e (no_number {b = c} d r m) = n (class-digit b (subst (λ (y : ℕ). digit_of y < 10) (same-head _ _ _ _ e) d))

pub no-too_large : (a : Bool) (b : ℕ) (t : Text) → class_of b ≢ 1 → ¬ IsFault row.TooLargeNumber a (b ∷ t)
no-too_large a b t n h = n (eqb-true (class_of b) 1 (begins a b t _ h.1 h.2.fits))

-- a text, an expression or a hex literal that fits has an end
pub not-unclosed : (a : Bool) (b : ℕ) (t : Text) → (b ≡ 34 → (rest : Text) × Fits a (b ∷ t) kind.Text rest)
    → (b ≡ 47 → ((u : Text) → t ≢ 42 ∷ u) × (i : Bool) × (s : Bool) × (rest : Text) × Fits a (b ∷ t) (kind.Regex i s) rest)
    → (b ≡ 123 → (rest : Text) × Fits a (b ∷ t) kind.Hex rest) → ¬ IsUnclosed a (b ∷ t)
not-unclosed a b t p q r u = go (b ∷ t) refl u
  where
    go : (x : Text) → x ≡ b ∷ t → ¬ IsUnclosed a x
    go x e (open_text {t = u} n) = let f = p (sym (same-head 34 b u t e)) in n f.0 (subst (λ (y : Text). Fits a y kind.Text f.0) (sym e) f.1)
    go x e (open_regex {t = u} n) = let f = q (sym (same-head 47 b u t e)) in n f.1 f.2 f.3 (subst (λ (y : Text). Fits a y (kind.Regex f.1 f.2) f.3) (sym e) f.4)
    go x e (open_hex {t = u} y n) = let f = r (sym (same-head 123 b u t e)) in n f.0 (subst (λ (y : Text). Fits a y kind.Hex f.0) (sym e) f.1)
    go x e (open_comment {t = u} n) = let f = q (sym (same-head 47 b (42 ∷ u) t e)) in f.0 u (sym (same-tail 47 b (42 ∷ u) t e))

-- the rows before the last do not hold where a token fits that is no text, expression, hex literal or number
pub no-earlier : (a : Bool) (b : ℕ) (t : Text) (k : TokenKind) (rest : Text) (c : ℕ) → class_of b ≡ c → c ≢ 1 → c ≢ 2 → c ≢ 7 → (c ≡ 8 → a ≡ true → ⊥)
    → Fits a (b ∷ t) k rest → (g : FaultRow) → rank g < 5 → ¬ IsFault g a (b ∷ t)
no-earlier a b t k rest c e n1 n2 n7 n8 f row.Unclosed h = no-unclosed a b t (λ x. n2 (sym e ∙ x)) (λ x. n7 (sym e ∙ x)) (λ x. n8 (sym e ∙ x))
no-earlier a b t k rest c e n1 n2 n7 n8 f row.BadEscape h = no-bad_escape b t (λ x. n2 (sym e ∙ x))
no-earlier a b t k rest c e n1 n2 n7 n8 f row.Float h = no-float b t (λ x. n1 (sym e ∙ x))
no-earlier a b t k rest c e n1 n2 n7 n8 f row.BadByte h = no-bad_byte a b t k rest (λ x. n1 (sym e ∙ x)) f
no-earlier a b t k rest c e n1 n2 n7 n8 f row.TooLargeNumber h = no-too_large a b t (λ x. n1 (sym e ∙ x))
no-earlier a b t k rest c e n1 n2 n7 n8 f row.LongName h = absurd (omega arith)

-- ---- the kinds of each class

pub only-word : (P : TokenKind → Type 0) → P kind.Word → P kind.Reserved → (k : TokenKind) → may_begin k 0 ≡ true → P k
only-word P p0 p1 kind.Word h = p0
only-word P p0 p1 kind.Reserved h = p1
only-word P p0 p1 kind.StringName h = absurd cc
only-word P p0 p1 kind.StringWild h = absurd cc
only-word P p0 p1 kind.CountName h = absurd cc
only-word P p0 p1 kind.PlaceName h = absurd cc
only-word P p0 p1 kind.LengthName h = absurd cc
only-word P p0 p1 (kind.Number n) h = absurd cc
only-word P p0 p1 kind.Text h = absurd cc
only-word P p0 p1 (kind.Regex i s) h = absurd cc
only-word P p0 p1 kind.Hex h = absurd cc
only-word P p0 p1 kind.Sign h = absurd cc

pub only-number : (P : TokenKind → Type 0) → ((n : ℤ) → P (kind.Number n)) → (k : TokenKind) → may_begin k 1 ≡ true → P k
only-number P p0 kind.Word h = absurd cc
only-number P p0 kind.Reserved h = absurd cc
only-number P p0 kind.StringName h = absurd cc
only-number P p0 kind.StringWild h = absurd cc
only-number P p0 kind.CountName h = absurd cc
only-number P p0 kind.PlaceName h = absurd cc
only-number P p0 kind.LengthName h = absurd cc
only-number P p0 (kind.Number n) h = p0 n
only-number P p0 kind.Text h = absurd cc
only-number P p0 (kind.Regex i s) h = absurd cc
only-number P p0 kind.Hex h = absurd cc
only-number P p0 kind.Sign h = absurd cc

pub only-text : (P : TokenKind → Type 0) → P kind.Text → (k : TokenKind) → may_begin k 2 ≡ true → P k
only-text P p0 kind.Word h = absurd cc
only-text P p0 kind.Reserved h = absurd cc
only-text P p0 kind.StringName h = absurd cc
only-text P p0 kind.StringWild h = absurd cc
only-text P p0 kind.CountName h = absurd cc
only-text P p0 kind.PlaceName h = absurd cc
only-text P p0 kind.LengthName h = absurd cc
only-text P p0 (kind.Number n) h = absurd cc
only-text P p0 kind.Text h = p0
only-text P p0 (kind.Regex i s) h = absurd cc
only-text P p0 kind.Hex h = absurd cc
only-text P p0 kind.Sign h = absurd cc

pub only-string_name : (P : TokenKind → Type 0) → P kind.StringName → P kind.StringWild → (k : TokenKind) → may_begin k 3 ≡ true → P k
only-string_name P p0 p1 kind.Word h = absurd cc
only-string_name P p0 p1 kind.Reserved h = absurd cc
only-string_name P p0 p1 kind.StringName h = p0
only-string_name P p0 p1 kind.StringWild h = p1
only-string_name P p0 p1 kind.CountName h = absurd cc
only-string_name P p0 p1 kind.PlaceName h = absurd cc
only-string_name P p0 p1 kind.LengthName h = absurd cc
only-string_name P p0 p1 (kind.Number n) h = absurd cc
only-string_name P p0 p1 kind.Text h = absurd cc
only-string_name P p0 p1 (kind.Regex i s) h = absurd cc
only-string_name P p0 p1 kind.Hex h = absurd cc
only-string_name P p0 p1 kind.Sign h = absurd cc

pub only-count : (P : TokenKind → Type 0) → P kind.CountName → (k : TokenKind) → may_begin k 4 ≡ true → P k
only-count P p0 kind.Word h = absurd cc
only-count P p0 kind.Reserved h = absurd cc
only-count P p0 kind.StringName h = absurd cc
only-count P p0 kind.StringWild h = absurd cc
only-count P p0 kind.CountName h = p0
only-count P p0 kind.PlaceName h = absurd cc
only-count P p0 kind.LengthName h = absurd cc
only-count P p0 (kind.Number n) h = absurd cc
only-count P p0 kind.Text h = absurd cc
only-count P p0 (kind.Regex i s) h = absurd cc
only-count P p0 kind.Hex h = absurd cc
only-count P p0 kind.Sign h = absurd cc

pub only-place : (P : TokenKind → Type 0) → P kind.PlaceName → (k : TokenKind) → may_begin k 5 ≡ true → P k
only-place P p0 kind.Word h = absurd cc
only-place P p0 kind.Reserved h = absurd cc
only-place P p0 kind.StringName h = absurd cc
only-place P p0 kind.StringWild h = absurd cc
only-place P p0 kind.CountName h = absurd cc
only-place P p0 kind.PlaceName h = p0
only-place P p0 kind.LengthName h = absurd cc
only-place P p0 (kind.Number n) h = absurd cc
only-place P p0 kind.Text h = absurd cc
only-place P p0 (kind.Regex i s) h = absurd cc
only-place P p0 kind.Hex h = absurd cc
only-place P p0 kind.Sign h = absurd cc

pub only-length : (P : TokenKind → Type 0) → P kind.LengthName → P kind.Sign → (k : TokenKind) → may_begin k 6 ≡ true → P k
only-length P p0 p1 kind.Word h = absurd cc
only-length P p0 p1 kind.Reserved h = absurd cc
only-length P p0 p1 kind.StringName h = absurd cc
only-length P p0 p1 kind.StringWild h = absurd cc
only-length P p0 p1 kind.CountName h = absurd cc
only-length P p0 p1 kind.PlaceName h = absurd cc
only-length P p0 p1 kind.LengthName h = p0
only-length P p0 p1 (kind.Number n) h = absurd cc
only-length P p0 p1 kind.Text h = absurd cc
only-length P p0 p1 (kind.Regex i s) h = absurd cc
only-length P p0 p1 kind.Hex h = absurd cc
only-length P p0 p1 kind.Sign h = p1

pub only-regex : (P : TokenKind → Type 0) → ((i s : Bool) → P (kind.Regex i s)) → (k : TokenKind) → may_begin k 7 ≡ true → P k
only-regex P p0 kind.Word h = absurd cc
only-regex P p0 kind.Reserved h = absurd cc
only-regex P p0 kind.StringName h = absurd cc
only-regex P p0 kind.StringWild h = absurd cc
only-regex P p0 kind.CountName h = absurd cc
only-regex P p0 kind.PlaceName h = absurd cc
only-regex P p0 kind.LengthName h = absurd cc
only-regex P p0 (kind.Number n) h = absurd cc
only-regex P p0 kind.Text h = absurd cc
only-regex P p0 (kind.Regex i s) h = p0 i s
only-regex P p0 kind.Hex h = absurd cc
only-regex P p0 kind.Sign h = absurd cc

pub only-hex : (P : TokenKind → Type 0) → P kind.Hex → P kind.Sign → (k : TokenKind) → may_begin k 8 ≡ true → P k
only-hex P p0 p1 kind.Word h = absurd cc
only-hex P p0 p1 kind.Reserved h = absurd cc
only-hex P p0 p1 kind.StringName h = absurd cc
only-hex P p0 p1 kind.StringWild h = absurd cc
only-hex P p0 p1 kind.CountName h = absurd cc
only-hex P p0 p1 kind.PlaceName h = absurd cc
only-hex P p0 p1 kind.LengthName h = absurd cc
only-hex P p0 p1 (kind.Number n) h = absurd cc
only-hex P p0 p1 kind.Text h = absurd cc
only-hex P p0 p1 (kind.Regex i s) h = absurd cc
only-hex P p0 p1 kind.Hex h = p0
only-hex P p0 p1 kind.Sign h = p1

pub only-sign : (P : TokenKind → Type 0) → P kind.Sign → (k : TokenKind) → may_begin k 9 ≡ true → P k
only-sign P p0 kind.Word h = absurd cc
only-sign P p0 kind.Reserved h = absurd cc
only-sign P p0 kind.StringName h = absurd cc
only-sign P p0 kind.StringWild h = absurd cc
only-sign P p0 kind.CountName h = absurd cc
only-sign P p0 kind.PlaceName h = absurd cc
only-sign P p0 kind.LengthName h = absurd cc
only-sign P p0 (kind.Number n) h = absurd cc
only-sign P p0 kind.Text h = absurd cc
only-sign P p0 (kind.Regex i s) h = absurd cc
only-sign P p0 kind.Hex h = absurd cc
only-sign P p0 kind.Sign h = p0
