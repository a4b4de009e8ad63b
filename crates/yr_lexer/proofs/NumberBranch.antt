-- What begins with a digit: a number, or its fault.
use Rattle.std.proofs.Common.{◌≡◌, ◌≢◌, ℕ, ◌^◌, ◌<◌, ◌≤◌, Bool, true, false, [], ◌∷◌, ◌++◌, length, Option, Some, None, refl, sym, ap, subst, ◌∙◌, arith}
use Rattle.std.specs.Prelude.{◌==◌, nat_lt, min, pos}
use Rattle.std.proofs.lemmas.Bool.{eqb-true, and_parts, ltb-true, lt-ltb}
use Rattle.std.proofs.lemmas.List.Elements.{All-nil, All-cons, All-append, All-weaker}
use Rattle.yr_base.specs.Bytes.{is_word_byte}
use Rattle.yr_lexer.specs.declared.token.TokenKind.TheVariants as kind
use Rattle.yr_lexer.specs.declared.fault.FaultRow.{FaultRow}
use Rattle.yr_lexer.specs.declared.fault.FaultRow.TheVariants as row
use Rattle.yr_lexer.specs.Gaps.{Text, before}
use Rattle.yr_lexer.specs.Texts.{digit_of}
use Rattle.yr_lexer.specs.Numbers.{AreDigits, IsNumber, decimal, kilobytes, megabytes, hexadecimal, octal, number_after}
use Rattle.yr_lexer.specs.Forms.{AreWordBytes}
use Rattle.yr_lexer.specs.Faults.{Fits, Longest, IsFloat, IsRun, IsBadByte, no_token, no_number, IsFault, IsFirstFault, rank}
use Rattle.yr_lexer.specs.Candidates.{IsCandidate}
use Rattle.yr_lexer.specs.Reading.{past_word, past_digits, number_in, is_fraction}
use Rattle.yr_lexer.proofs.Basics.{before-is, same-front}
use Rattle.yr_lexer.proofs.WordLemmas.{word-run, word-least, word-stops, past_word-shorter}
use Rattle.yr_lexer.proofs.NameLemmas.{least-at, word-exact}
use Rattle.yr_lexer.proofs.NumberLemmas.{all_digits, digits-capped, digits-split, digits-read, number-one, number-some, number-none}
use Rattle.yr_lexer.proofs.FirstLemmas.{class-digit, begins-at, only-number, no-unclosed, no-bad_escape}

abbrev IsWordByte : ℕ → Type 0
IsWordByte b = is_word_byte b ≡ true

digit-word : (b : ℕ) → digit_of b < 16 → is_word_byte b ≡ true
digit-word b h = grind arith

digits-word : (base : ℕ) (ds : Text) → base ≤ 16 → AreDigits base ds → AreWordBytes ds
digits-word base ds h a = All-weaker (λ d. digit_of d < base) IsWordByte (λ d l. digit-word d (omega arith)) ds a.digits

two-word : (b c : ℕ) → is_word_byte b ≡ true → is_word_byte c ≡ true → AreWordBytes (b ∷ c ∷ [])
two-word b c h i = All-cons IsWordByte b (c ∷ []) h (All-cons IsWordByte c [] i (All-nil IsWordByte))

number-word : {w : Text} {v : ℕ} → IsNumber w v → AreWordBytes w
number-word (decimal {ds = ds} a) = digits-word 10 ds (omega arith) a
number-word (kilobytes {ds = ds} a) = All-append IsWordByte ds (75 ∷ 66 ∷ []) (digits-word 10 ds (omega arith) a) (two-word 75 66 refl refl)
number-word (megabytes {ds = ds} a) = All-append IsWordByte ds (77 ∷ 66 ∷ []) (digits-word 10 ds (omega arith) a) (two-word 77 66 refl refl)
number-word (hexadecimal {ds = ds} a) = All-cons IsWordByte 48 (120 ∷ ds) refl (All-cons IsWordByte 120 ds refl (digits-word 16 ds (omega arith) a))
number-word (octal {ds = ds} a) = All-cons IsWordByte 48 (111 ∷ ds) refl (All-cons IsWordByte 111 ds refl (digits-word 8 ds (omega arith) a))

no_bytes : (x : Text) → length x ≤ 0 → x ≡ []
no_bytes [] h = refl
no_bytes (b ∷ x) h = absurd (omega arith)

run-exact : (run rest : Text) → AreWordBytes run → ((b : ℕ) (more : Text) → rest ≡ b ∷ more → is_word_byte b ≡ false) → past_word (run ++ rest) ≡ rest
run-exact run [] a n = no_bytes (past_word (run ++ [])) (word-least run [] a)
run-exact run (b ∷ more) a n = word-exact run b more a (n b more refl)

-- the longest run is one
run-one : (t run rest : Text) → IsRun t run rest → past_word t ≡ rest
run-one t run rest r = ap past_word r.whole ∙ run-exact run rest r.bytes r.longest

-- ---- a dot and a digit behind digits

abbrev Fraction : Text → Type 0
Fraction u = (d : ℕ) × (r : Text) × (u ≡ 46 ∷ d ∷ r) × (digit_of d < 10)

fraction-found : (u : Text) → is_fraction u ≡ true → Fraction u
fraction-found [] e = absurd cc
fraction-found (b ∷ []) e = absurd (let p = and_parts (b == 46) false e in let q = p.1 in cc)
fraction-found (b ∷ d ∷ r) e =
    let p = and_parts (b == 46) (nat_lt (digit_of d) 10) e in
    (d, r, ap (λ (x : ℕ). x ∷ d ∷ r) (eqb-true b 46 p.0), ltb-true (digit_of d) 10 p.1)

read-rest : (t : Text) → (past_digits 10 0 t).1 ≡ (all_digits 10 0 t).1
read-rest t = ap (λ (x : ℕ × Text). x.1) (digits-capped 10 t 0 (omega arith))

some-digits : (b : ℕ) (t ds u : Text) → digit_of b < 10 → b ∷ t ≡ ds ++ u → (d : ℕ) (r : Text) → u ≡ 46 ∷ d ∷ r → ds ≢ []
some-digits b t [] u h e d r f n =
    let same : b ≡ 46 = cc in
    let i : digit_of 46 < 10 = subst (λ (x : ℕ). digit_of x < 10) same h in
    absurd (omega arith)
some-digits b t (x ∷ ds) u h e d r f n = cc

pub float-holds : (b : ℕ) (t : Text) → digit_of b < 10 → is_fraction (past_digits 10 0 (b ∷ t)).1 ≡ true → IsFloat (b ∷ t)
float-holds b t h e =
    let u = (all_digits 10 0 (b ∷ t)).1 in
    let f = fraction-found u (ap is_fraction (sym (read-rest (b ∷ t))) ∙ e) in
    let s = digits-split 10 (b ∷ t) 0 in
    record {
      digits = s.0;
      next = f.0;
      rest = f.1;
      whole = s.1 ∙ ap (λ (x : Text). s.0 ++ x) f.2;
      before_dot = record { some = some-digits b t s.0 u h s.1 f.0 f.1 f.2; digits = s.2 };
      after_dot = f.3;
    }

pub float-not : (t : Text) → is_fraction (past_digits 10 0 t).1 ≡ false → ¬ IsFloat t
float-not t e f =
    let r : ◌≡◌ {A = ℕ × Text} (all_digits 10 0 (f.digits ++ 46 ∷ f.next ∷ f.rest)) (number_after 10 0 f.digits, 46 ∷ f.next ∷ f.rest) = digits-read 10 f.digits (46 ∷ f.next ∷ f.rest) 0 f.before_dot.digits refl in
    let u : (past_digits 10 0 t).1 ≡ 46 ∷ f.next ∷ f.rest = read-rest t ∙ ap (λ (x : Text). (all_digits 10 0 x).1) f.whole ∙ ap (λ (x : ℕ × Text). x.1) r in
    let g : is_fraction (46 ∷ f.next ∷ f.rest) ≡ true = lt-ltb (digit_of f.next) 10 f.after_dot in
    let i = ap is_fraction u in
    cc

-- ---- the branch

module _ (a : Bool) (b : ℕ) (t : Text) (digit : digit_of b < 10) where
  abbrev text : Text
  text = b ∷ t

  abbrev rest : Text
  rest = past_word text

  abbrev run : Text
  run = (word-run text).0

  run-read : before text rest ≡ run
  run-read = before-is text run rest (word-run text).1

  pub number-length : length rest ≤ length text
  number-length = past_word-shorter text

  is_run : IsRun text run rest
  is_run = record { whole = (word-run text).1; bytes = (word-run text).2; longest = word-stops text }

  not_unclosed : ¬ IsFault row.Unclosed a text
  not_unclosed = no-unclosed a b t (λ e. let x = sym (class-digit b digit) ∙ e in cc) (λ e. let x = sym (class-digit b digit) ∙ e in cc) (λ e y. let x = sym (class-digit b digit) ∙ e in cc)

  not_bad_escape : ¬ IsFault row.BadEscape a text
  not_bad_escape = no-bad_escape b t (λ e. let x = sym (class-digit b digit) ∙ e in cc)

  pub float-first : is_fraction (past_digits 10 0 text).1 ≡ true → IsFirstFault row.Float a text
  float-first e = record { holds = float-holds b t digit e; first = earlier }
    where
      earlier : (g : FaultRow) → rank g < 2 → ¬ IsFault g a text
      earlier row.Unclosed h = not_unclosed
      earlier row.BadEscape h = not_bad_escape
      earlier row.Float h = absurd (omega arith)
      earlier row.BadByte h = absurd (omega arith)
      earlier row.TooLargeNumber h = absurd (omega arith)
      earlier row.LongName h = absurd (omega arith)

  pub number-bad : is_fraction (past_digits 10 0 text).1 ≡ false → number_in (before text rest) ≡ None → IsFirstFault row.BadByte a text
  number-bad e n = record { holds = no_number digit is_run (number-none run (ap number_in (sym run-read) ∙ n)); first = earlier }
    where
      earlier : (g : FaultRow) → rank g < 3 → ¬ IsFault g a text
      earlier row.Unclosed h = not_unclosed
      earlier row.BadEscape h = not_bad_escape
      earlier row.Float h = float-not text e
      earlier row.BadByte h = absurd (omega arith)
      earlier row.TooLargeNumber h = absurd (omega arith)
      earlier row.LongName h = absurd (omega arith)

  number-longest : (v : ℕ) → IsNumber run v → Longest a text (kind.Number (pos v)) rest
  number-longest v n = record {
    fits = record { bytes = run; whole = (word-run text).1; form = (v, refl, n) };
    greatest = λ k' rest' f. only-number (λ k. Fits a text k rest' → length rest ≤ length rest')
        (λ m f. least-at text f.bytes rest' f.whole (number-word f.form.2))
        k' (begins-at a b t k' rest' 1 (class-digit b digit) f) f;
  }

  -- the longest number is that of the run
  number-same : (v w : ℕ) (rest' : Text) → IsNumber run v → Longest a text (kind.Number (pos w)) rest' → w ≡ v
  number-same v w rest' n l =
      let own = number-longest v n in
      let f = l.fits in
      let le = own.greatest (kind.Number (pos w)) rest' f in
      let ge = l.greatest (kind.Number (pos v)) rest own.fits in
      let same : run ≡ f.bytes = same-front run f.bytes rest rest' (sym (word-run text).1 ∙ f.whole) (omega arith) in
      let p = f.form.1 in
      let q : f.form.0 ≡ w = cc in
      let m : IsNumber run w = subst (λ (x : ℕ). IsNumber run x) q (subst (λ (x : Text). IsNumber x f.form.0) (sym same) f.form.2) in
      number-one run w v m n

  not_bad_byte : (v : ℕ) → IsNumber run v → ¬ IsBadByte a text
  not_bad_byte v n h = go text refl h
    where
      go : (x : Text) → x ≡ text → ¬ IsBadByte a x
      go x e (no_token g) = g (kind.Number (pos v)) rest (subst (λ (y : Text). Fits a y (kind.Number (pos v)) rest) (sym e) (number-longest v n).fits)
      go x e (no_number {run = r} {rest = s} d i m) =
          let j : IsRun text r s = subst (λ (y : Text). IsRun y r s) e i in
          let end : rest ≡ s = run-one text r s j in
          let l : length rest ≡ length s = ap (λ (y : Text). length y) end in
          let same : run ≡ r = same-front run r rest s (sym (word-run text).1 ∙ j.whole) l in
          m v (subst (λ (y : Text). IsNumber y v) same n)

  abbrev Read : ℕ → Type 0
  Read n = number_in (before text rest) ≡ Some n

  value : (n : ℕ) → Read n → (v : ℕ) × IsNumber run v × (n ≡ min v (2 ^ 63))
  value n e = number-some run n (ap number_in (sym run-read) ∙ e)

  pub number-large : (n : ℕ) → is_fraction (past_digits 10 0 text).1 ≡ false → Read n → 2 ^ 63 ≤ n → IsFirstFault row.TooLargeNumber a text
  number-large n e r large =
      let v = value n r in
      let same = v.2 in
      let h : 2 ^ 63 ≤ v.0 = omega arith in
      record { holds = (v.0, rest, number-longest v.0 v.1, h); first = earlier }
    where
      earlier : (g : FaultRow) → rank g < 4 → ¬ IsFault g a text
      earlier row.Unclosed h = not_unclosed
      earlier row.BadEscape h = not_bad_escape
      earlier row.Float h = float-not text e
      earlier row.BadByte h = let v = value n r in not_bad_byte v.0 v.1
      earlier row.TooLargeNumber h = absurd (omega arith)
      earlier row.LongName h = absurd (omega arith)

  pub number-candidate : (n : ℕ) → is_fraction (past_digits 10 0 text).1 ≡ false → Read n → n < 2 ^ 63 → IsCandidate a text (kind.Number (pos n)) rest
  number-candidate n e r small =
      let v = value n r in
      let m = v.2 in
      let same : n ≡ v.0 = omega arith in
      record { longest = subst (λ (x : ℕ). Longest a text (kind.Number (pos x)) rest) (sym same) (number-longest v.0 v.1); earlier = earlier }
    where
      earlier : (g : FaultRow) → rank g < 5 → ¬ IsFault g a text
      earlier row.Unclosed h = not_unclosed
      earlier row.BadEscape h = not_bad_escape
      earlier row.Float h = float-not text e
      earlier row.BadByte h = let v = value n r in not_bad_byte v.0 v.1
      earlier row.TooLargeNumber h = λ l. let v = value n r in let m = v.2 in let same = number-same v.0 l.0 l.1 v.1 l.2 in let le = l.3 in omega arith
      earlier row.LongName h = absurd (omega arith)

-- ---- the words of the code

abbrev BeginsNumber : Text → Type 0
BeginsNumber text = (b : ℕ) × (t : Text) × (text ≡ b ∷ t) × (digit_of b < 10)

abbrev float_test : Text → Bool
float_test text = is_fraction (past_digits 10 0 text).1

pub read-float : (a : Bool) (text : Text) → BeginsNumber text → (r : Bool) → r ≡ float_test text → r ≡ true → IsFirstFault row.Float a text
read-float a text w r e y =
    let g : float_test (w.0 ∷ w.1) ≡ true = ap float_test (sym w.2) ∙ sym e ∙ y in
    subst (λ (x : Text). IsFirstFault row.Float a x) (sym w.2) (float-first a w.0 w.1 w.3 g)

number-read_at : (text rest : Text) (b : ℕ) (t : Text) (o : Option ℕ) → text ≡ b ∷ t → rest ≡ past_word text → number_in (before text rest) ≡ o
    → number_in (before (b ∷ t) (past_word (b ∷ t))) ≡ o
number-read_at text rest b t o e f g =
    ap (λ (x : Text). number_in (before x (past_word x))) (sym e) ∙ ap (λ (x : Text). number_in (before text x)) (sym f) ∙ g

pub read-bad : (a : Bool) (text : Text) → BeginsNumber text → (r : Bool) (rest : Text) → r ≡ float_test text → r ≡ false → rest ≡ past_word text
    → number_in (before text rest) ≡ None → IsFirstFault row.BadByte a text
read-bad a text w r rest e n f g =
    let h : float_test (w.0 ∷ w.1) ≡ false = ap float_test (sym w.2) ∙ sym e ∙ n in
    subst (λ (x : Text). IsFirstFault row.BadByte a x) (sym w.2) (number-bad a w.0 w.1 w.3 h (number-read_at text rest w.0 w.1 None w.2 f g))

pub read-large : (a : Bool) (text : Text) → BeginsNumber text → (r : Bool) (rest : Text) (n : ℕ) → r ≡ float_test text → r ≡ false → rest ≡ past_word text
    → number_in (before text rest) ≡ Some n → 2 ^ 63 ≤ n → IsFirstFault row.TooLargeNumber a text
read-large a text w r rest n e m f g l =
    let h : float_test (w.0 ∷ w.1) ≡ false = ap float_test (sym w.2) ∙ sym e ∙ m in
    subst (λ (x : Text). IsFirstFault row.TooLargeNumber a x) (sym w.2) (number-large a w.0 w.1 w.3 n h (number-read_at text rest w.0 w.1 (Some n) w.2 f g) l)

pub read-number : (a : Bool) (text : Text) → BeginsNumber text → (r : Bool) (rest : Text) (n : ℕ) → r ≡ float_test text → r ≡ false → rest ≡ past_word text
    → number_in (before text rest) ≡ Some n → n < 2 ^ 63 → IsCandidate a text (kind.Number (pos n)) rest
read-number a text w r rest n e m f g l =
    let h : float_test (w.0 ∷ w.1) ≡ false = ap float_test (sym w.2) ∙ sym e ∙ m in
    let k = number-candidate a w.0 w.1 w.3 n h (number-read_at text rest w.0 w.1 (Some n) w.2 f g) l in
    let same : past_word (w.0 ∷ w.1) ≡ rest = ap past_word (sym w.2) ∙ sym f in
    subst (λ (x : Text). IsCandidate a x (kind.Number (pos n)) rest) (sym w.2) (subst (λ (x : Text). IsCandidate a (w.0 ∷ w.1) (kind.Number (pos n)) x) same k)
