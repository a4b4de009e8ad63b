-- Each text has tokens or a fault, and the inside of each text has a meaning where it can.
use Rattle.std.proofs.Common.{◌≡◌, ◌≢◌, ℕ, zero, suc, ◌-◌, ◌^◌, ◌<◌, ◌≤◌, Bool, true, false, ◌&&◌, ◌⊎◌, inl, inr, List, [], ◌∷◌, length, take, Option, Some, None, Result, Ok, Err, refl, sym, ap, subst, ◌∙◌, length-append, arith}
use Rattle.std.specs.Prelude.{◌==◌, nat_lt, nat_le, pos}
use Rattle.std.proofs.lemmas.Bool.{eqb-true, eqb-false, ltb-true, ltb-false, leb-true}
use Rattle.yr_base.specs.Bytes.{is_word_start, is_digit}
use Rattle.yr_base.specs.Words.{reserved_words}
use Rattle.yr_lexer.specs.declared.token.TokenKind.{TokenKind}
use Rattle.yr_lexer.specs.declared.token.TokenKind.TheVariants as kind
use Rattle.yr_lexer.specs.declared.token.Token.{Token}
use Rattle.yr_lexer.specs.declared.fault.FaultRow.{FaultRow}
use Rattle.yr_lexer.specs.declared.fault.FaultRow.TheVariants as row
use Rattle.yr_lexer.specs.declared.fault.LexFault.{LexFault}
use Rattle.yr_lexer.specs.Gaps.{Text, Piece, Gap, piece, before, line_at}
use Rattle.yr_lexer.specs.Texts.{digit_of, Unescapes, nothing, unit}
use Rattle.yr_lexer.specs.Forms.{HexEnds, name_length}
use Rattle.yr_lexer.specs.Faults.{IsFirstFault}
use Rattle.yr_lexer.specs.Tokens.{IsToken, token_at, with_token, is_equals, LexesFrom, Lexes, fault_on, refused, token}
use Rattle.yr_lexer.specs.Tokens as tokens
use Rattle.yr_lexer.specs.Reading.{past_piece, past_word, past_byte, past_units, past_digits, past_sign, hex_step, flags_of, is_fraction, number_in, unit_of}
use Rattle.yr_lexer.specs.Candidates.{IsCandidate, IsNoWord, IsOther}
use Rattle.yr_lexer.specs.Includes.{IsLexing, IsUnescaping}
use Rattle.yr_lexer.proofs.Basics.{bool_cases}
use Rattle.yr_lexer.proofs.ListLemmas.{is_in, is_in-contains, contains-is_in}
use Rattle.yr_lexer.proofs.GapLemmas.{piece-some, gap-ends, gap-last, Piece-shorter}
use Rattle.yr_lexer.proofs.EscapeLemmas.{decided, unit-read, Stands-shorter}
use Rattle.yr_lexer.proofs.FormLemmas.{form-length}
use Rattle.yr_lexer.proofs.HexLemmas.{step-end, step-on, step-stuck, hex-unclosed, hex-candidate}
use Rattle.yr_lexer.proofs.NameLemmas.{word-reserved, word-plain, string_name-wild, string_name-plain, count-read, place-read}
use Rattle.yr_lexer.proofs.SignLemmas.{length_name-sign, length_name-plain, sign-bad, sign-candidate, other-place, hex-parts}
use Rattle.yr_lexer.proofs.NumberBranch.{read-float, read-bad, read-large, read-number}
use Rattle.yr_lexer.proofs.TextBranch.{text-unclosed, text-bad, text-candidate}
use Rattle.yr_lexer.proofs.RegexBranch.{read-comment, regex-unclosed, read-regex}
use Rattle.yr_lexer.proofs.TokenLemmas.{token-is, name-long}
use Rattle.yr_lexer.proofs.Whole.{gap-within}

-- the longest run of blanks and comments
gap-of : (n : ℕ) (t : Text) → length t ≤ n → (u : Text) × Gap t u
gap-of zero t h = go (past_piece t) refl
  where
    go : (o : Option Text) → past_piece t ≡ o → (u : Text) × Gap t u
    go None e = (t, gap-ends t e)
    go (Some more) e = absurd (let l = Piece-shorter (piece-some t more e) in omega arith)
gap-of (suc n) t h = go (past_piece t) refl (λ more l. gap-of n more l)
  where
    go : (o : Option Text) → past_piece t ≡ o → ((more : Text) → length more ≤ n → (u : Text) × Gap more u) → (u : Text) × Gap t u
    go None e f = (t, gap-ends t e)
    go (Some more) e f =
        let l = Piece-shorter (piece-some t more e) in
        let r = f more (omega arith) in
        (r.0, piece (piece-some t more e) r.1)

abbrev EndsHex : Text → Type 0
EndsHex t = ((r : Text) × HexEnds t r) ⊎ ((r : Text) → ¬ HexEnds t r)

-- a hex literal has an end or none
hex-step : (t m : Text) → hex_step t ≡ Some (false, m) → EndsHex m → EndsHex t
hex-step t m e (inl r) = inl (r.0, (step-on t m false e refl).on r.0 r.1)
hex-step t m e (inr n) = inr (λ r x. n r ((step-on t m false e refl).back r x))

hex-of : (n : ℕ) (t : Text) → length t ≤ n → EndsHex t
hex-of zero t h = go (hex_step t) refl
  where
    go : (o : Option (Bool × Text)) → hex_step t ≡ o → EndsHex t
    go None e = inr (step-stuck t e)
    go (Some (true, m)) e = inl (m, step-end t m true e refl)
    go (Some (false, m)) e = absurd (let l = (step-on t m false e refl).shorter in omega arith)
hex-of (suc n) t h = go (hex_step t) refl (λ m l. hex-of n m l)
  where
    go : (o : Option (Bool × Text)) → hex_step t ≡ o → ((m : Text) → length m ≤ n → EndsHex m) → EndsHex t
    go None e f = inr (step-stuck t e)
    go (Some (true, m)) e f = inl (m, step-end t m true e refl)
    go (Some (false, m)) e f = hex-step t m e (f m (let l = (step-on t m false e refl).shorter in omega arith))

abbrev Candidate : Bool → Text → Type 0
Candidate e t = ((x : TokenKind × Text) × IsCandidate e t x.0 x.1) ⊎ ((f : FaultRow) × IsFirstFault f e t)

word-found : (e : Bool) (b : ℕ) (t : Text) → is_word_start b ≡ true → Candidate e (b ∷ t)
word-found e b t s =
    let rest = past_word (b ∷ t) in
    let w = before (b ∷ t) rest in
    let r = is_in reserved_words w in
    bool_cases (Candidate e (b ∷ t)) r
    (λ y. inl ((kind.Reserved, rest), word-reserved e (b ∷ t) rest (b, t, refl, s) r refl (is_in-contains reserved_words w, contains-is_in reserved_words w) y))
    (λ n. inl ((kind.Word, rest), word-plain e (b ∷ t) rest (b, t, refl, s) r refl (is_in-contains reserved_words w, contains-is_in reserved_words w) n))

and-both : (a b : Bool) → a && b ≡ true → (a ≡ true) × (b ≡ true)
and-both true b h = (refl, h)
and-both false b h = absurd cc

digit-small : (b : ℕ) → is_digit b ≡ true → digit_of b < 10
digit-small b e = rw e (let p = and-both (nat_le 48 b) (nat_le b 57) e in let l = leb-true b 57 p.1 in omega arith)

number-found : (e : Bool) (b : ℕ) (t : Text) → digit_of b < 10 → Candidate e (b ∷ t)
number-found e b t s =
    bool_cases (Candidate e (b ∷ t)) (is_fraction (past_digits 10 0 (b ∷ t)).1)
    (λ y. inr (row.Float, read-float e (b ∷ t) (b, t, refl, s) (is_fraction (past_digits 10 0 (b ∷ t)).1) refl y))
    (λ n. by n (number_in (before (b ∷ t) (past_word (b ∷ t)))) refl)
  where
    by : is_fraction (past_digits 10 0 (b ∷ t)).1 ≡ false → (o : Option ℕ) → number_in (before (b ∷ t) (past_word (b ∷ t))) ≡ o → Candidate e (b ∷ t)
    by n None x = inr (row.BadByte, read-bad e (b ∷ t) (b, t, refl, s) (is_fraction (past_digits 10 0 (b ∷ t)).1) (past_word (b ∷ t)) refl n refl x)
    by n (Some v) x =
        bool_cases (Candidate e (b ∷ t)) (nat_lt v (2 ^ 63))
        (λ y. inl (
          (kind.Number (pos v), past_word (b ∷ t)),
          read-number e (b ∷ t) (b, t, refl, s) (is_fraction (past_digits 10 0 (b ∷ t)).1) (past_word (b ∷ t)) v refl n refl x (ltb-true v (2 ^ 63) y),
        ))
        (λ y. inr (row.TooLargeNumber, read-large e (b ∷ t) (b, t, refl, s) (is_fraction (past_digits 10 0 (b ∷ t)).1) (past_word (b ∷ t)) v refl n refl x (ltb-false v (2 ^ 63) y)))

quoted-found : (e : Bool) (t : Text) → Candidate e (34 ∷ t)
quoted-found e t = by (past_units 34 false t) refl
  where
    by : (o : Option Text) → past_units 34 false t ≡ o → Candidate e (34 ∷ t)
    by None x = inr (row.Unclosed, text-unclosed e t x)
    by (Some rest) x = by_meaning (decided (take (length t - length rest - 1) t))
      where
        by_meaning : ((bytes : List ℕ) × Unescapes (take (length t - length rest - 1) t) bytes) ⊎ ((bytes : List ℕ) → ¬ Unescapes (take (length t - length rest - 1) t) bytes) → Candidate e (34 ∷ t)
        by_meaning (inl g) = inl ((kind.Text, rest), text-candidate e t rest (take (length t - length rest - 1) t) g.0 x refl g.1)
        by_meaning (inr n) = inr (row.BadEscape, text-bad e t rest (take (length t - length rest - 1) t) x refl n)

regex-found : (e : Bool) (t : Text) → ((rest : Text) → ¬ Piece (47 ∷ t) rest) → Candidate e (47 ∷ t)
regex-found e t none =
    bool_cases (Candidate e (47 ∷ t)) (past_byte 42 t).0
    (λ y. inr (row.Unclosed, read-comment e t none (past_byte 42 t).0 (past_byte 42 t).1 refl y))
    (λ n. by n (past_units 47 false t) refl)
  where
    by : (past_byte 42 t).0 ≡ false → (o : Option Text) → past_units 47 false t ≡ o → Candidate e (47 ∷ t)
    by n None x = inr (row.Unclosed, regex-unclosed e t none x)
    by n (Some after) x =
        inl ((kind.Regex (flags_of after).nocase (flags_of after).dot_all, (flags_of after).rest), read-regex e t none (past_byte 42 t).0 (past_byte 42 t).1 after (flags_of after) refl n x refl)

string-found : (e : Bool) (t : Text) → Candidate e (36 ∷ t)
string-found e t =
    bool_cases (Candidate e (36 ∷ t)) (past_byte 42 (past_word t)).0
    (λ y. inl ((kind.StringWild, (past_byte 42 (past_word t)).1), string_name-wild e t (past_word t) (past_byte 42 (past_word t)).0 (past_byte 42 (past_word t)).1 refl refl y))
    (λ n. inl ((kind.StringName, (past_byte 42 (past_word t)).1), string_name-plain e t (past_word t) (past_byte 42 (past_word t)).0 (past_byte 42 (past_word t)).1 refl refl n))

length-found : (e : Bool) (t : Text) → Candidate e (33 ∷ t)
length-found e t =
    bool_cases (Candidate e (33 ∷ t)) (past_byte 61 t).0
    (λ y. inl ((kind.Sign, (past_byte 61 t).1), length_name-sign e t (past_byte 61 t).0 (past_byte 61 t).1 refl y))
    (λ n. inl ((kind.LengthName, past_word t), length_name-plain e t (past_byte 61 t).0 (past_byte 61 t).1 (past_word t) refl n refl))

brace-found : (t : Text) → Candidate true (123 ∷ t)
brace-found t = by (hex-of (length t) t (omega arith))
  where
    by : EndsHex t → Candidate true (123 ∷ t)
    by (inl r) = inl ((kind.Hex, r.0), hex-candidate t r.0 r.1)
    by (inr n) = inr (row.Unclosed, hex-unclosed t n)

other-found : (e : Bool) (b : ℕ) (t : Text) → IsOther b → Candidate e (b ∷ t)
other-found e b t o = bool_cases (Candidate e (b ∷ t)) (e && b == 123)
    (λ y. let p = hex-parts e b (e && b == 123) refl y in
    subst (λ (x : Bool). Candidate x (b ∷ t)) (sym p.0) (subst (λ x. Candidate true (x ∷ t)) (sym p.1) (brace-found t)))
    (λ n. by n (past_sign b t) refl)
  where
    by : e && b == 123 ≡ false → (s : Option Text) → past_sign b t ≡ s → Candidate e (b ∷ t)
    by n None x = inr (row.BadByte, sign-bad e b t (other-place e b t (e && b == 123) o refl n) x)
    by n (Some rest) x = inl ((kind.Sign, rest), sign-candidate e b t rest (other-place e b t (e && b == 123) o refl n) x)

-- the byte is this one, or it is another
byte-cases : (P : ℕ → Type 0) (b c : ℕ) → P c → (b ≢ c → P b) → P b
byte-cases P b c x y = bool_cases (P b) (b == c) (λ e. subst P (sym (eqb-true b c e)) x) (λ e. y (eqb-false b c e))

name-found : (e : Bool) (b : ℕ) (t : Text) → IsNoWord b → Candidate e (b ∷ t)
name-found e b t o =
    byte-cases (λ x. Candidate e (x ∷ t)) b 36 (string-found e t)
    (λ n36. byte-cases (λ x. Candidate e (x ∷ t)) b 35 (inl ((kind.CountName, past_word t), count-read e t (past_word t) refl))
    (λ n35. byte-cases (λ x. Candidate e (x ∷ t)) b 64 (inl ((kind.PlaceName, past_word t), place-read e t (past_word t) refl))
    (λ n64. byte-cases (λ x. Candidate e (x ∷ t)) b 33 (length-found e t)
    (λ n33. other-found e b t (record { no_word = o; no_dollar = n36; no_hash = n35; no_at = n64; no_bang = n33 })))))

candidate-found : (e : Bool) (b : ℕ) (t : Text) → ((rest : Text) → ¬ Piece (b ∷ t) rest) → Candidate e (b ∷ t)
candidate-found e b t none =
    bool_cases (Candidate e (b ∷ t)) (is_word_start b) (word-found e b t)
    (λ no_word. bool_cases (Candidate e (b ∷ t)) (is_digit b) (λ d. number-found e b t (digit-small b d))
    (λ no_digit. byte-cases (λ x. ((rest : Text) → ¬ Piece (x ∷ t) rest) → Candidate e (x ∷ t)) b 34 (λ _. quoted-found e t)
    (λ no_quote. byte-cases (λ x. ((rest : Text) → ¬ Piece (x ∷ t) rest) → Candidate e (x ∷ t)) b 47 (regex-found e t)
    (λ no_slash _. name-found e b t (record { no_word = no_word; no_digit = no_digit; no_quote = no_quote; no_slash = no_slash }))) none))

abbrev Found : Bool → Text → Type 0
Found e t = ((x : TokenKind × Text) × IsToken e t x.0 x.1) ⊎ ((f : FaultRow) × IsFirstFault f e t)

token-found : (e : Bool) (t : Text) → t ≢ [] → ((rest : Text) → ¬ Piece t rest) → Found e t
token-found e [] some none = absurd (some refl)
token-found e (b ∷ t) some none = by (candidate-found e b t none)
  where
    by : Candidate e (b ∷ t) → Found e (b ∷ t)
    by (inr f) = inr f
    by (inl c) =
        let n = name_length c.0.0 (length (b ∷ t) - length c.0.1) in
        bool_cases (Found e (b ∷ t)) (nat_lt 128 n)
        (λ y. inr (row.LongName, name-long e (b ∷ t) c.0.0 c.0.1 n c.1 refl (ltb-true 128 n y)))
        (λ y. inl (c.0, token-is e (b ∷ t) c.0.0 c.0.1 n some c.1 refl (ltb-false 128 n y)))

token-shorter : (e : Bool) (t rest : Text) (k : TokenKind) → IsToken e t k rest → length rest < length t
token-shorter e t rest k i =
    let f = i.longest.fits in
    let l = ap (λ (x : Text). length x) f.whole ∙ length-append f.bytes rest in
    let h = form-length e f.bytes k f.form in
    omega arith

abbrev Answer : Type 0
Answer = Result (List Token) LexFault

module _ (whole : Text) where
  answer-at : (e : Bool) (t u : Text) → Gap t u → u ≢ [] → Found e u → ((e' : Bool) (rest : Text) → length rest < length u → (a : Answer) × LexesFrom whole e' rest a)
      → (a : Answer) × LexesFrom whole e t a
  answer-at e t u g some (inr f) next = (Err (fault_on f.0 (line_at whole u)), refused g some f.1)
  answer-at e t u g some (inl i) next =
      let r = next (is_equals (before u i.0.1)) i.0.1 (token-shorter e u i.0.1 i.0.0 i.1) in
      (with_token (token_at whole i.0.0 u i.0.1) r.0, token g some i.1 r.1)

  answer-from : (n : ℕ) (e : Bool) (t : Text) → length t ≤ n → (a : Answer) × LexesFrom whole e t a
  answer-from zero e t h = let g = gap-of (length t) t (omega arith) in by_place g.0 g.1
    where
      by_place : (u : Text) → Gap t u → (a : Answer) × LexesFrom whole e t a
      by_place [] g = (Ok [], tokens.nothing g)
      by_place (b ∷ u) g = absurd (let l = gap-within t (b ∷ u) g in omega arith)
  answer-from (suc n) e t h = let g = gap-of (length t) t (omega arith) in by_place g.0 g.1 (λ e' rest l. answer-from n e' rest l)
    where
      by_place : (u : Text) → Gap t u → ((e' : Bool) (rest : Text) → length rest ≤ n → (a : Answer) × LexesFrom whole e' rest a) → (a : Answer) × LexesFrom whole e t a
      by_place [] g next = (Ok [], tokens.nothing g)
      by_place (b ∷ u) g next =
          let l = gap-within t (b ∷ u) g in
          answer-at e t (b ∷ u) g (λ x. cc) (token-found e (b ∷ u) (λ x. cc) (gap-last g)) (λ e' rest m. next e' rest (omega arith))

answer-of : (text : Text) → (a : Answer) × Lexes text a
answer-of text = answer-from text (length text) false text (omega arith)

-- there is a function from texts to their answers
pub some-lexing : (lexed : Text → Answer) × IsLexing lexed
some-lexing = (λ text. (answer-of text).0, λ text. (answer-of text).1)

bytes-next : Option (ℕ × Text) → (Text → List ℕ) → List ℕ
bytes-next None more = []
bytes-next (Some x) more = x.0 ∷ more x.1

bytes-in : ℕ → Text → List ℕ
bytes-in zero t = []
bytes-in (suc n) t = bytes-next (unit_of t) (λ more. bytes-in n more)

bytes-none : (n : ℕ) → bytes-in n [] ≡ []
unfolding bytes-in bytes-next unit_of
bytes-none zero = refl
bytes-none (suc n) = refl

bytes-more : (n : ℕ) (t more : Text) (b : ℕ) → unit_of t ≡ Some (b, more) → bytes-in (suc n) t ≡ b ∷ bytes-in n more
unfolding bytes-in bytes-next
bytes-more n t more b e = rw e refl

bytes-read : {t : Text} {bytes : List ℕ} → Unescapes t bytes → (n : ℕ) → length t ≤ n → bytes-in n t ≡ bytes
bytes-read nothing n h = bytes-none n
bytes-read (unit {t = t} {more = more} {b = b} s u) zero h = absurd (let l = Stands-shorter s in omega arith)
bytes-read (unit {t = t} {more = more} {b = b} s u) (suc n) h =
    let l = Stands-shorter s in
    bytes-more n t more b (unit-read s) ∙ ap (λ (x : List ℕ). b ∷ x) (bytes-read u n (omega arith))

-- there is a function from the insides of texts to what they stand for
pub some-unescaping : (unescaped : List ℕ → List ℕ) × IsUnescaping unescaped
some-unescaping = (λ inside. bytes-in (length inside) inside, λ inside bytes u. bytes-read u (length inside) (omega arith))
