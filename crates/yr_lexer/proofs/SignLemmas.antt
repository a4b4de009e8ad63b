-- Signs, and the names of lengths beside `!=`.
use Rattle.std.proofs.Common.{◌≡◌, ◌≢◌, ℕ, ◌<◌, ◌≤◌, Bool, true, false, List, [], ◌∷◌, ◌++◌, length, Option, Some, None, refl, sym, ap, subst, ◌∙◌, arith}
use Rattle.std.specs.Prelude.{◌==◌, ◌||◌, ◌&&◌, nat_lt, Contains, not}
use Rattle.std.proofs.lemmas.Bool.{eqb-true, eqb-false, and_parts, ne_eqb, le-ltb}
use Rattle.std.proofs.lemmas.List.Elements.{All-head}
use Rattle.yr_base.specs.Bytes.{is_word_byte, is_digit}
use Rattle.yr_lexer.specs.declared.token.TokenKind.{TokenKind}
use Rattle.yr_lexer.specs.declared.token.TokenKind.TheVariants as kind
use Rattle.yr_lexer.specs.declared.fault.FaultRow.{FaultRow}
use Rattle.yr_lexer.specs.declared.fault.FaultRow.TheVariants as row
use Rattle.yr_lexer.specs.Gaps.{Text}
use Rattle.yr_lexer.specs.Texts.{digit_of}
use Rattle.yr_lexer.specs.Forms.{signs, AreWordBytes}
use Rattle.yr_lexer.specs.Faults.{Fits, IsFault, IsFirstFault, no_token, rank}
use Rattle.yr_lexer.specs.Candidates.{IsCandidate, IsOther}
use Rattle.yr_lexer.specs.Reading.{past_word, past_byte, is_one_of, is_pair_of, sign_bytes, sign_pairs, past_sign, past_sign_byte}
use Rattle.yr_lexer.proofs.Basics.{by_test, bool_cases}
use Rattle.yr_lexer.proofs.ListLemmas.{is_in, is_in-contains}
use Rattle.yr_lexer.proofs.WordLemmas.{word-run}
use Rattle.yr_lexer.proofs.NameLemmas.{least-at, tail-of, past_byte-true, past_byte-false}
use Rattle.yr_lexer.proofs.FirstLemmas.{every, every-contains, class_of, begins-at, no-earlier, no-unclosed, no-bad_escape, no-float, only-length, only-sign, only-hex}

-- ---- a list has what a test finds

one_of-every : (p : ℕ → Bool) (xs : List ℕ) (b : ℕ) → every p xs ≡ true → is_one_of xs b ≡ true → p b ≡ true
one_of-every p [] b e h = absurd cc
one_of-every p (x ∷ xs) b e h = bool_cases (p b ≡ true) (b == x)
    (λ f. subst (λ (z : ℕ). p z ≡ true) (sym (eqb-true b x f)) (and_parts (p x) (every p xs) e).0)
    (λ f. one_of-every p xs b (and_parts (p x) (every p xs) e).1 (rw f at h))

pair_of-every : (p : ℕ × ℕ → Bool) (xs : List (ℕ × ℕ)) (b c : ℕ) → every p xs ≡ true → is_pair_of xs b c ≡ true → p (b, c) ≡ true
pair_of-every p [] b c e h = absurd cc
pair_of-every p (x ∷ xs) b c e h = bool_cases (p (b, c) ≡ true) (b == x.0 && c == x.1)
    (λ f.
    let q = and_parts (b == x.0) (c == x.1) f in
    let i = eqb-true b x.0 q.0 in
    let j = eqb-true c x.1 q.1 in
    let same : ◌≡◌ {A = ℕ × ℕ} (b, c) (x.0, x.1) = ap (λ (y : ℕ). (y, c)) i ∙ ap (λ (y : ℕ). (x.0, y)) j in
    subst (λ (z : ℕ × ℕ). p z ≡ true) (sym same) (and_parts (p x) (every p xs) e).0)
    (λ f. pair_of-every p xs b c (and_parts (p x) (every p xs) e).1 (rw f at h))

-- ---- one byte and two

abbrev byte_test : ℕ → Bool
byte_test b = is_in signs (b ∷ [])

abbrev pair_test : ℕ × ℕ → Bool
pair_test x = is_in signs (x.0 ∷ x.1 ∷ [])

all-bytes : every byte_test sign_bytes ≡ true
unfolding is_in
all-bytes = refl

all-pairs : every pair_test sign_pairs ≡ true
unfolding is_in
all-pairs = refl

sign-byte : (b : ℕ) → is_one_of sign_bytes b ≡ true → Contains signs (b ∷ [])
sign-byte b h = is_in-contains signs (b ∷ []) (one_of-every byte_test sign_bytes b all-bytes h)

sign-pair : (b c : ℕ) → is_pair_of sign_pairs b c ≡ true → Contains signs (b ∷ c ∷ [])
sign-pair b c h = is_in-contains signs (b ∷ c ∷ []) (pair_of-every pair_test sign_pairs b c all-pairs h)

-- a sign is of one byte or of two
abbrev sign_test : Text → Bool
sign_test [] = false
sign_test (b ∷ []) = is_one_of sign_bytes b
sign_test (b ∷ c ∷ []) = is_pair_of sign_pairs b c
sign_test (b ∷ c ∷ d ∷ t) = false

pub sign-tests : (w : Text) → Contains signs w → sign_test w ≡ true
sign-tests w s = every-contains sign_test signs w refl s

-- what a sign leaves of a text
pub data Leaves : ℕ → Text → Text → Type 0 where
  one : {b : ℕ} {t : Text} → is_one_of sign_bytes b ≡ true → Leaves b t t
  two : {b c : ℕ} {t : Text} → is_pair_of sign_pairs b c ≡ true → Leaves b (c ∷ t) t

leaves-by : (b : ℕ) (t w rest : Text) → b ∷ t ≡ w ++ rest → sign_test w ≡ true → Leaves b t rest
leaves-by b t [] rest e h = absurd cc
leaves-by b t (x ∷ []) rest e h =
    let i : x ≡ b = cc in let j : rest ≡ t = cc in
    subst (λ (y : Text). Leaves b t y) (sym j) (one (subst (λ (y : ℕ). is_one_of sign_bytes y ≡ true) i h))
leaves-by b t (x ∷ y ∷ []) rest e h =
    let i : x ≡ b = cc in
    let j : y ∷ rest ≡ t = cc in
    subst (λ (z : Text). Leaves b z rest) j (two (subst (λ (z : ℕ). is_pair_of sign_pairs z y ≡ true) i h))
leaves-by b t (x ∷ y ∷ z ∷ w) rest e h = absurd cc

pub leaves : (a : Bool) (b : ℕ) (t rest : Text) → Fits a (b ∷ t) kind.Sign rest → Leaves b t rest
leaves a b t rest f = leaves-by b t f.bytes rest f.whole (sign-tests f.bytes f.form)

one-fits : (a : Bool) (b : ℕ) (t : Text) → is_one_of sign_bytes b ≡ true → Fits a (b ∷ t) kind.Sign t
one-fits a b t h = record { bytes = b ∷ []; whole = refl; form = sign-byte b h }

two-fits : (a : Bool) (b c : ℕ) (t : Text) → is_pair_of sign_pairs b c ≡ true → Fits a (b ∷ c ∷ t) kind.Sign t
two-fits a b c t h = record { bytes = b ∷ c ∷ []; whole = refl; form = sign-pair b c h }

-- ---- the longest sign

abbrev IsPast : Bool → ℕ → Text → Option Text → Type 0
IsPast a b t None = (rest : Text) → ¬ Fits a (b ∷ t) kind.Sign rest
IsPast a b t (Some rest) = Fits a (b ∷ t) kind.Sign rest × ((rest' : Text) → Fits a (b ∷ t) kind.Sign rest' → length rest ≤ length rest')

no_pair : Text → ℕ → Type 0
no_pair [] b = Unit {0}
no_pair (c ∷ t) b = is_pair_of sign_pairs b c ≡ false

past-byte : (a : Bool) (b : ℕ) (t : Text) → ((rest : Text) → Leaves b t rest → (rest ≡ t) × (is_one_of sign_bytes b ≡ true)) → IsPast a b t (past_sign_byte b t)
past-byte a b t only = by_test (is_one_of sign_bytes b) (Some t) None (IsPast a b t)
    (λ h. (one-fits a b t h, λ rest' f. let p = (only rest' (leaves a b t rest' f)).0 in let l = ap (λ (x : Text). length x) p in omega arith))
    (λ h rest f. let p = (only rest (leaves a b t rest f)).1 in cc)

only-one : (b : ℕ) (rest : Text) → Leaves b [] rest → (rest ≡ []) × (is_one_of sign_bytes b ≡ true)
only-one b rest (one h) = (refl, h)

only-short : (b c : ℕ) (t : Text) → is_pair_of sign_pairs b c ≡ false → (rest : Text) → Leaves b (c ∷ t) rest → (rest ≡ c ∷ t) × (is_one_of sign_bytes b ≡ true)
only-short b c t n rest (one h) = (refl, h)
only-short b c t n rest (two h) = absurd cc

leaves-least : (b c : ℕ) (t rest : Text) → Leaves b (c ∷ t) rest → length t ≤ length rest
leaves-least b c t rest (one h) = omega arith
leaves-least b c t rest (two h) = omega arith

pub past-found : (a : Bool) (b : ℕ) (t : Text) → IsPast a b t (past_sign b t)
past-found a b [] = past-byte a b [] (only-one b)
past-found a b (c ∷ t) = by_test (is_pair_of sign_pairs b c) (Some t) (past_sign_byte b (c ∷ t)) (IsPast a b (c ∷ t))
    (λ h. (two-fits a b c t h, λ rest' f. leaves-least b c t rest' (leaves a b (c ∷ t) rest' f)))
    (λ h. past-byte a b (c ∷ t) (only-short b c t h))

-- only a sign may stand here
pub record IsSignPlace (a : Bool) (b : ℕ) (t : Text) : Type 0 where
  pub only : (k : TokenKind) (rest : Text) → Fits a (b ∷ t) k rest → Fits a (b ∷ t) kind.Sign rest
  pub no_one : class_of b ≢ 1
  pub no_two : class_of b ≢ 2
  pub no_seven : class_of b ≢ 7
  pub no_hex : class_of b ≡ 8 → a ≡ true → ⊥

pub place-other : (a : Bool) (b : ℕ) (t : Text) → class_of b ≡ 9 → IsSignPlace a b t
place-other a b t e = record {
  only = λ k rest f. only-sign (λ k. Fits a (b ∷ t) k rest → Fits a (b ∷ t) kind.Sign rest) (λ f. f) k (begins-at a b t k rest 9 e f) f;
  no_one = λ h. let x = sym e ∙ h in cc;
  no_two = λ h. let x = sym e ∙ h in cc;
  no_seven = λ h. let x = sym e ∙ h in cc;
  no_hex = λ h y. let x = sym e ∙ h in cc;
}

pub place-brace : (a : Bool) (t : Text) → a ≡ false → IsSignPlace a 123 t
place-brace a t n = record {
  only = λ k rest f. only-hex (λ k. Fits a (123 ∷ t) k rest → Fits a (123 ∷ t) kind.Sign rest) (λ f. absurd (let y = f.form.0 in cc)) (λ f. f) k (begins-at a 123 t k rest 8 refl f) f;
  no_one = λ h. cc;
  no_two = λ h. cc;
  no_seven = λ h. cc;
  no_hex = λ h y. cc;
}

pub sign-candidate : (a : Bool) (b : ℕ) (t rest : Text) → IsSignPlace a b t → past_sign b t ≡ Some rest → IsCandidate a (b ∷ t) kind.Sign rest
sign-candidate a b t rest p e =
    let x : IsPast a b t (Some rest) = subst (IsPast a b t) e (past-found a b t) in
    record {
      longest = record { fits = x.0; greatest = λ k' rest' f. x.1 rest' (p.only k' rest' f) };
      earlier = no-earlier a b t kind.Sign rest (class_of b) refl p.no_one p.no_two p.no_seven p.no_hex x.0;
    }

pub sign-bad : (a : Bool) (b : ℕ) (t : Text) → IsSignPlace a b t → past_sign b t ≡ None → IsFirstFault row.BadByte a (b ∷ t)
sign-bad a b t p e =
    let x : IsPast a b t None = subst (IsPast a b t) e (past-found a b t) in
    record { holds = no_token (λ k rest f. x rest (p.only k rest f)); first = earlier }
  where
    earlier : (g : FaultRow) → rank g < 3 → ¬ IsFault g a (b ∷ t)
    earlier row.Unclosed h = no-unclosed a b t p.no_two p.no_seven p.no_hex
    earlier row.BadEscape h = no-bad_escape b t p.no_two
    earlier row.Float h = no-float b t p.no_one
    earlier row.BadByte h = absurd (omega arith)
    earlier row.TooLargeNumber h = absurd (omega arith)
    earlier row.LongName h = absurd (omega arith)

-- ---- behind `!`

module _ (a : Bool) (t : Text) where
  bang-candidate : (k : TokenKind) (rest : Text) → Fits a (33 ∷ t) k rest
      → ((k' : TokenKind) (rest' : Text) → Fits a (33 ∷ t) k' rest' → length rest ≤ length rest') → IsCandidate a (33 ∷ t) k rest
  bang-candidate k rest f g = record {
    longest = record { fits = f; greatest = g };
    earlier = no-earlier a 33 t k rest 6 refl (λ e. cc) (λ e. cc) (λ e. cc) (λ e y. cc) f;
  }

  -- a sign that begins with `!` is `!=`
  pub bang-sign : (rest : Text) → Fits a (33 ∷ t) kind.Sign rest → t ≡ 61 ∷ rest
  bang-sign rest f = go t refl (leaves a 33 t rest f)
    where
      go : (u : Text) → u ≡ t → Leaves 33 u rest → t ≡ 61 ∷ rest
      go u e (one h) = absurd cc
      go u e (two {c = c} h) = sym e ∙ ap (λ (x : ℕ). x ∷ rest) (second c h)
        where
          second : (c : ℕ) → is_pair_of sign_pairs 33 c ≡ true → c ≡ 61
          second c h = eqb-true c 61 (pair_of-every (λ x. not (x.0 == 33) || x.1 == 61) sign_pairs 33 c refl h)

  pub unequal-candidate : (rest : Text) → t ≡ 61 ∷ rest → IsCandidate a (33 ∷ t) kind.Sign rest
  unequal-candidate rest e = bang-candidate kind.Sign rest
      (record { bytes = 33 ∷ 61 ∷ []; whole = ap (λ (l : Text). 33 ∷ l) e; form = sign-pair 33 61 refl })
      (λ k' rest' f. only-length (λ k. Fits a (33 ∷ t) k rest' → length rest ≤ length rest')
      (λ f. name f.form.0 rest' (tail-of a t 33 f.form.0 f.bytes rest' f.whole f.form.1) f.form.2)
      (λ f. let g = bang-sign rest' f in let l = ap (λ (x : Text). length x) (sym e ∙ g) in omega arith)
      k' (begins-at a 33 t k' rest' 6 refl f) f)
    where
      name : (w rest' : Text) → t ≡ w ++ rest' → AreWordBytes w → length rest ≤ length rest'
      name [] rest' g h = let l = ap (λ (x : Text). length x) (sym e ∙ g) in omega arith
      name (b ∷ w) rest' g h =
          let same : b ≡ 61 = cc in
          let i : is_word_byte b ≡ true = All-head (λ b. is_word_byte b ≡ true) b w h in
          absurd (let j : is_word_byte 61 ≡ true = subst (λ (x : ℕ). is_word_byte x ≡ true) same i in cc)

  pub length-candidate : ((u : Text) → t ≢ 61 ∷ u) → IsCandidate a (33 ∷ t) kind.LengthName (past_word t)
  length-candidate n =
      let r = word-run t in
      bang-candidate kind.LengthName (past_word t)
      (record { bytes = 33 ∷ r.0; whole = ap (λ (l : Text). 33 ∷ l) r.1; form = (r.0, refl, r.2) })
      (λ k' rest' f. only-length (λ k. Fits a (33 ∷ t) k rest' → length (past_word t) ≤ length rest')
      (λ f. least-at t f.form.0 rest' (tail-of a t 33 f.form.0 f.bytes rest' f.whole f.form.1) f.form.2)
      (λ f. absurd (n rest' (bang-sign rest' f)))
      k' (begins-at a 33 t k' rest' 6 refl f) f)

pub length_name-sign : (a : Bool) (t : Text) (x : Bool) (rest : Text) → ◌≡◌ {A = Bool × Text} (x, rest) (past_byte 61 t) → x ≡ true → IsCandidate a (33 ∷ t) kind.Sign rest
length_name-sign a t true rest f y = unequal-candidate a t rest (past_byte-true 61 t rest f)
length_name-sign a t false rest f y = absurd cc

pub length_name-plain : (a : Bool) (t : Text) (x : Bool) (rest run : Text) → ◌≡◌ {A = Bool × Text} (x, rest) (past_byte 61 t) → x ≡ false → run ≡ past_word t → IsCandidate a (33 ∷ t) kind.LengthName run
length_name-plain a t false rest run f y e =
    subst (λ (x : Text). IsCandidate a (33 ∷ t) kind.LengthName x) (sym e) (length-candidate a t (past_byte-false 61 t rest f).1)
length_name-plain a t true rest run f y e = absurd cc

-- ---- what is neither a word, a number, a name nor a quote

other-class : (b : ℕ) → IsOther b → b ≢ 123 → class_of b ≡ 9
other-class b o n =
    rw (
      o.no_word.no_word,
      digit-false b o.no_word.no_digit,
      ne_eqb b 34 o.no_word.no_quote,
      ne_eqb b 36 o.no_dollar,
      ne_eqb b 35 o.no_hash,
      ne_eqb b 64 o.no_at,
      ne_eqb b 33 o.no_bang,
      ne_eqb b 47 o.no_word.no_slash,
      ne_eqb b 123 n,
    ) refl
  where
    digit-false : (b : ℕ) → is_digit b ≡ false → nat_lt (digit_of b) 10 ≡ false
    digit-false b h = le-ltb (digit_of b) 10 (grind arith)

pub other-place : (a : Bool) (b : ℕ) (t : Text) (r : Bool) → IsOther b → r ≡ (a && b == 123) → r ≡ false → IsSignPlace a b t
other-place a b t r o e n = bool_cases (IsSignPlace a b t) (b == 123)
    (λ y. subst (λ (x : ℕ). IsSignPlace a x t) (sym (eqb-true b 123 y)) (place-brace a t (no_equals a y (sym e ∙ n))))
    (λ y. place-other a b t (other-class b o (eqb-false b 123 y)))
  where
    no_equals : (x : Bool) → (b == 123) ≡ true → (x && b == 123) ≡ false → x ≡ false
    no_equals false y h = refl
    no_equals true y h = absurd cc

pub hex-parts : (a : Bool) (b : ℕ) (r : Bool) → r ≡ (a && b == 123) → r ≡ true → (a ≡ true) × (b ≡ 123)
hex-parts a b r e y = let p = and_parts a (b == 123) (sym e ∙ y) in (p.0, eqb-true b 123 p.1)
