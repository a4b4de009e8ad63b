-- How the front of a text is read. These functions serve the proofs: the definitions above them say what a text has.
use Rattle.std.specs.Prelude.{ℕ, ◌+◌, ◌*◌, ◌^◌, min, Bool, true, false, ◌||◌, ◌&&◌, ◌==◌, nat_lt, List, [], ◌∷◌, length, Option, Some, None, codes, if◌then◌else◌}
use Rattle.yr_base.specs.Bytes.{is_word_byte, is_blank}
use Rattle.yr_lexer.specs.Gaps.{Text}
use Rattle.yr_lexer.specs.Texts.{digit_of}

unfoldable pub past_word : Text → Text
past_word [] = []
past_word (b ∷ t) = if is_word_byte b then past_word t else b ∷ t

unfoldable pub past_line : Text → Text
past_line [] = []
past_line (b ∷ t) = if b == 10 then b ∷ t else past_line t

-- the flag says that a `*` stands before
unfoldable pub past_block : Bool → Text → Option Text
past_block star [] = None
past_block star (b ∷ t) = if star && b == 47 then Some t else past_block (b == 42) t

-- after the comment that the bytes behind a `/` go on with
abbrev pub past_comment : Text → Option Text
past_comment [] = None
past_comment (b ∷ t) = if b == 47 then Some (past_line t) else if b == 42 then past_block false t else None

abbrev pub opens_comment : Text → Bool
opens_comment [] = false
opens_comment (b ∷ t) = b == 47 || b == 42

-- after a byte of a hex literal, or the comment that it begins
abbrev pub past_hex_piece : ℕ → Text → Option Text
past_hex_piece b t = if b == 47 && opens_comment t then past_comment t else Some t

abbrev pub hex_next : Option Text → Option (Bool × Text)
hex_next None = None
hex_next (Some t) = Some (false, t)

-- after a byte or a comment of a hex literal; the flag says that the byte was the closing one
unfoldable pub hex_step : Text → Option (Bool × Text)
hex_step [] = None
hex_step (b ∷ t) = if b == 125 then Some (true, t) else hex_next (past_hex_piece b t)

-- after one blank or closed comment
unfoldable pub past_piece : Text → Option Text
past_piece [] = None
past_piece (b ∷ t) = if is_blank b then Some t else if b == 47 then past_comment t else None

-- after the units and the quote; the flag says that a `\` stands before
unfoldable pub past_units : ℕ → Bool → Text → Option Text
past_units q is_escaped [] = None
past_units q true (b ∷ t) = if b == 10 then None else past_units q false t
past_units q false (b ∷ t) = if b == 10 then None else if b == q then Some t else past_units q (b == 92) t

-- the byte of the code behind `\x`
abbrev pub code_in : Text → Option (ℕ × Text)
code_in [] = None
code_in (h ∷ []) = None
code_in (h ∷ l ∷ t) = if nat_lt (digit_of h) 16 && nat_lt (digit_of l) 16 then Some (16 * digit_of h + digit_of l, t) else None

-- the byte that an escape stands for, and what follows
abbrev pub escape_in : ℕ → Text → Option (ℕ × Text)
escape_in b t =
    if b == 34 then Some (34, t)
    else if b == 92 then Some (92, t)
    else if b == 116 then Some (9, t)
    else if b == 110 then Some (10, t)
    else if b == 114 then Some (13, t)
    else if b == 120 then code_in t
    else None

abbrev pub escape_of : Text → Option (ℕ × Text)
escape_of [] = None
escape_of (b ∷ t) = escape_in b t

-- the byte that a unit stands for, and what follows
unfoldable pub unit_of : Text → Option (ℕ × Text)
unit_of [] = None
unit_of (b ∷ t) = if b == 92 then escape_of t else if b == 10 || b == 34 then None else Some (b, t)

-- the digits of a number after the number n, capped at 2 ^ 63, and what follows
unfoldable pub past_digits : ℕ → ℕ → Text → ℕ × Text
past_digits base n [] = (n, [])
past_digits base n (b ∷ t) = if nat_lt (digit_of b) base then past_digits base (min (base * n + digit_of b) (2 ^ 63)) t else (n, b ∷ t)

-- the base of a number and its digits
abbrev pub base_after : Text → Text → ℕ × Text
base_after whole [] = (10, whole)
base_after whole (b ∷ t) = if b == 120 then (16, t) else if b == 111 then (8, t) else (10, whole)

abbrev pub base_of : Text → ℕ × Text
base_of [] = (10, [])
base_of (b ∷ t) = if b == 48 then base_after (b ∷ t) t else (10, b ∷ t)

abbrev pub is_one : ℕ → Text → Bool
is_one b [] = false
is_one b (c ∷ []) = b == c
is_one b (c ∷ d ∷ t) = false

-- what the bytes behind the digits multiply by
abbrev pub scale_of : Text → Option ℕ
scale_of [] = Some 1
scale_of (b ∷ t) = if is_one 66 t then (if b == 75 then Some 1024 else if b == 77 then Some 1048576 else None) else None

-- a number in units, capped at 2 ^ 63
abbrev pub scaled : ℕ → Option ℕ → Option ℕ
scaled n None = None
scaled n (Some scale) = Some (min (n * scale) (2 ^ 63))

abbrev pub if_nothing : ℕ → Text → Option ℕ
if_nothing n [] = Some n
if_nothing n (b ∷ t) = None

abbrev pub value_of : ℕ → ℕ → Text → Option ℕ
value_of base n behind = if base == 10 then scaled n (scale_of behind) else if_nothing n behind

abbrev pub value_from : ℕ → Text → ℕ × Text → Option ℕ
value_from base digits x = if length x.1 == length digits then None else value_of base x.0 x.1

-- the value of a number with these digits and what stands behind them, capped at 2 ^ 63
abbrev pub value_in : ℕ → Text → Option ℕ
value_in base digits = value_from base digits (past_digits base 0 digits)

abbrev pub number_in : Text → Option ℕ
number_in run = value_in (base_of run).0 (base_of run).1

-- a digit behind a dot
abbrev pub begins_digit : Text → Bool
begins_digit [] = false
begins_digit (b ∷ t) = nat_lt (digit_of b) 10

abbrev pub is_fraction : Text → Bool
is_fraction [] = false
is_fraction (b ∷ t) = b == 46 && begins_digit t

-- whether a byte stands next, and what follows it
abbrev pub past_byte : ℕ → Text → Bool × Text
past_byte x [] = (false, [])
past_byte x (b ∷ t) = if b == x then (true, t) else (false, b ∷ t)

-- a byte of this list
abbrev pub is_one_of : List ℕ → ℕ → Bool
is_one_of [] b = false
is_one_of (x ∷ xs) b = b == x || is_one_of xs b

-- two bytes that are a pair of this list
abbrev pub is_pair_of : List (ℕ × ℕ) → ℕ → ℕ → Bool
is_pair_of [] b c = false
is_pair_of (x ∷ xs) b c = (b == x.0 && c == x.1) || is_pair_of xs b c

-- the signs of one byte, and of two
abbrev pub sign_bytes : List ℕ
sign_bytes = codes "{}()[]:,.=<>+-*\\%&^|~"

abbrev pub sign_pairs : List (ℕ × ℕ)
sign_pairs = (46, 46) ∷ (61, 61) ∷ (33, 61) ∷ (60, 61) ∷ (62, 61) ∷ (60, 60) ∷ (62, 62) ∷ []

abbrev pub past_sign_byte : ℕ → Text → Option Text
past_sign_byte b t = if is_one_of sign_bytes b then Some t else None

-- after the longest sign
abbrev pub past_sign : ℕ → Text → Option Text
past_sign b [] = past_sign_byte b []
past_sign b (c ∷ t) = if is_pair_of sign_pairs b c then Some t else past_sign_byte b (c ∷ t)

-- the flags of an expression: i and s, and what follows
pub record Flags : Type 0 where
  pub nocase : Bool
  pub dot_all : Bool
  pub rest : Text

abbrev pub flags_by : ℕ → Text → Flags
flags_by b t =
    let second_s = past_byte 115 t in
    let second_i = past_byte 105 t in
    if b == 105 then record { nocase = true; dot_all = second_s.0; rest = second_s.1 }
    else if b == 115 then record { nocase = second_i.0; dot_all = true; rest = second_i.1 }
    else record { nocase = false; dot_all = false; rest = b ∷ t }

abbrev pub flags_of : Text → Flags
flags_of [] = record { nocase = false; dot_all = false; rest = [] }
flags_of (b ∷ t) = flags_by b t
