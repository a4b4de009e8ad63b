-- Words and names: what is read is the longest token.
use Rattle.std.proofs.Common.{◌≡◌, ◌≢◌, ℕ, ◌≤◌, Bool, true, false, [], ◌∷◌, ◌++◌, length, refl, sym, ap, subst, ◌∙◌, arith, append_assoc}
use Rattle.std.specs.Prelude.{◌==◌, ◌↔◌, IsTrue}
use Rattle.std.proofs.lemmas.Bool.{or_left, eqb-true, eqb-false, and_parts}
use Rattle.std.proofs.lemmas.List.Elements.{All-nil, All-cons, All-head, All-tail}
use Rattle.yr_base.specs.Bytes.{is_word_start, is_word_byte}
use Rattle.yr_base.specs.Words.{reserved_words, IsReserved, IsWord}
use Rattle.yr_lexer.specs.declared.token.TokenKind.{TokenKind}
use Rattle.yr_lexer.specs.declared.token.TokenKind.TheVariants as kind
use Rattle.yr_lexer.specs.Gaps.{Text, before}
use Rattle.yr_lexer.specs.Forms.{AreWordBytes}
use Rattle.yr_lexer.specs.Faults.{Fits}
use Rattle.yr_lexer.specs.Candidates.{IsCandidate}
use Rattle.yr_lexer.specs.Reading.{past_word, past_byte}
use Rattle.yr_lexer.proofs.Basics.{by_test, before-is}
use Rattle.yr_lexer.proofs.WordLemmas.{word-run, word-least, past_word-at, past_word-shorter}
use Rattle.yr_lexer.proofs.FirstLemmas.{every, every-contains, class-word, begins-at, no-earlier, only-word, only-string_name, only-count, only-place, same-tail}

abbrev IsWordByte : ℕ → Type 0
IsWordByte b = is_word_byte b ≡ true

every-all : (w : Text) → every is_word_byte w ≡ true → AreWordBytes w
every-all [] e = All-nil IsWordByte
every-all (b ∷ w) e = let p = and_parts (is_word_byte b) (every is_word_byte w) e in All-cons IsWordByte b w p.0 (every-all w p.1)

start-word : (b : ℕ) → is_word_start b ≡ true → is_word_byte b ≡ true
start-word b h = or_left _ _ h

pub word-bytes : (w : Text) → IsWord w → AreWordBytes w
word-bytes w i = subst AreWordBytes (sym i.whole) (All-cons IsWordByte i.first i.rest (start-word i.first i.begins) i.goes_on)

pub reserved-bytes : (w : Text) → IsReserved w → AreWordBytes w
reserved-bytes w r = every-all w (every-contains (every is_word_byte) reserved_words w refl r)

-- no run goes on after the one that is read
pub least-at : (t w rest : Text) → t ≡ w ++ rest → AreWordBytes w → length (past_word t) ≤ length rest
least-at t w rest e a = subst (λ (x : Text). length (past_word x) ≤ length rest) (sym e) (word-least w rest a)

-- a run that ends before another byte
pub word-exact : (w : Text) (b : ℕ) (rest : Text) → AreWordBytes w → is_word_byte b ≡ false → past_word (w ++ b ∷ rest) ≡ b ∷ rest
unfolding past_word
word-exact [] b rest a n = rw n refl
word-exact (c ∷ w) b rest a n = rw (All-head IsWordByte c w a) (word-exact w b rest (All-tail IsWordByte c w a) n)

-- ---- words

module _ (a : Bool) (b : ℕ) (t : Text) (start : is_word_start b ≡ true) where
  word-greatest : (k : TokenKind) (rest : Text) → Fits a (b ∷ t) k rest → length (past_word (b ∷ t)) ≤ length rest
  word-greatest k rest f = only-word (λ k. Fits a (b ∷ t) k rest → length (past_word (b ∷ t)) ≤ length rest)
      (λ f. least-at (b ∷ t) f.bytes rest f.whole (word-bytes f.bytes f.form.0))
      (λ f. least-at (b ∷ t) f.bytes rest f.whole (reserved-bytes f.bytes f.form))
      k (begins-at a b t k rest 0 (class-word b start) f) f

  abbrev run : Text
  run = b ∷ (word-run t).0

  run-whole : b ∷ t ≡ run ++ past_word (b ∷ t)
  run-whole = ap (λ (x : Text). b ∷ x) (word-run t).1 ∙ ap (λ (x : Text). run ++ x) (sym (past_word-at b t (start-word b start)))

  candidate : (k : TokenKind) → Fits a (b ∷ t) k (past_word (b ∷ t)) → IsCandidate a (b ∷ t) k (past_word (b ∷ t))
  candidate k f = record {
    longest = record { fits = f; greatest = word-greatest };
    earlier = no-earlier a b t k (past_word (b ∷ t)) 0 (class-word b start) (λ e. cc) (λ e. cc) (λ e. cc) (λ e y. cc) f;
  }

  run-read : before (b ∷ t) (past_word (b ∷ t)) ≡ run
  run-read = before-is (b ∷ t) run (past_word (b ∷ t)) run-whole

  pub reserved-candidate : IsReserved (before (b ∷ t) (past_word (b ∷ t))) → IsCandidate a (b ∷ t) kind.Reserved (past_word (b ∷ t))
  reserved-candidate r = candidate kind.Reserved (record { bytes = run; whole = run-whole; form = subst IsReserved run-read r })

  pub word-candidate : ¬ IsReserved (before (b ∷ t) (past_word (b ∷ t))) → IsCandidate a (b ∷ t) kind.Word (past_word (b ∷ t))
  word-candidate n = candidate kind.Word (record {
    bytes = run;
    whole = run-whole;
    form = (record { first = b; rest = (word-run t).0; whole = refl; begins = start; goes_on = (word-run t).2 }, λ r. n (subst IsReserved (sym run-read) r));
  })

pub run-shorter : (t : Text) → length (past_word t) ≤ length t
run-shorter = past_word-shorter

-- ---- what stands behind a byte

pub past_byte-true : (x : ℕ) (t rest : Text) → ◌≡◌ {A = Bool × Text} (true, rest) (past_byte x t) → t ≡ x ∷ rest
past_byte-true x [] rest = λ e. absurd (cc (ap (λ (p : Bool × Text). p.0) e))
past_byte-true x (b ∷ t) rest = by_test (b == x) (true, t) (false, b ∷ t) (λ (p : Bool × Text). ◌≡◌ {A = Bool × Text} (true, rest) p → b ∷ t ≡ x ∷ rest)
    (λ h e. ap (λ (y : ℕ). y ∷ t) (eqb-true b x h) ∙ ap (λ (p : Bool × Text). x ∷ p.1) (sym e))
    (λ h e. absurd (cc (ap (λ (p : Bool × Text). p.0) e)))

pub past_byte-false : (x : ℕ) (t rest : Text) → ◌≡◌ {A = Bool × Text} (false, rest) (past_byte x t) → (rest ≡ t) × ((u : Text) → t ≢ x ∷ u)
past_byte-false x [] rest = λ e. (ap (λ (p : Bool × Text). p.1) e, λ u h. cc)
past_byte-false x (b ∷ t) rest = by_test (b == x) (true, t) (false, b ∷ t)
    (λ (p : Bool × Text). ◌≡◌ {A = Bool × Text} (false, rest) p → (rest ≡ b ∷ t) × ((u : Text) → b ∷ t ≢ x ∷ u))
    (λ h e. absurd (cc (ap (λ (p : Bool × Text). p.0) e)))
    (λ h e. (ap (λ (p : Bool × Text). p.1) e, λ u g. eqb-false b x h (cc g)))

-- ---- string names and wildcards

module _ (a : Bool) (t : Text) where
  dollar-candidate : (k : TokenKind) (rest : Text) → Fits a (36 ∷ t) k rest
      → ((k' : TokenKind) (rest' : Text) → Fits a (36 ∷ t) k' rest' → length rest ≤ length rest') → IsCandidate a (36 ∷ t) k rest
  dollar-candidate k rest f g = record {
    longest = record { fits = f; greatest = g };
    earlier = no-earlier a 36 t k rest 3 refl (λ e. cc) (λ e. cc) (λ e. cc) (λ e y. cc) f;
  }

  pub tail-of : (x : ℕ) (w bytes rest : Text) → x ∷ t ≡ bytes ++ rest → bytes ≡ x ∷ w → t ≡ w ++ rest
  tail-of x w bytes rest e f = same-tail x x t (w ++ rest) (e ∙ ap (λ (l : Text). l ++ rest) f)

  wild-tail : (name bytes rest : Text) → 36 ∷ t ≡ bytes ++ rest → bytes ≡ 36 ∷ (name ++ 42 ∷ []) → t ≡ name ++ 42 ∷ rest
  wild-tail name bytes rest e f = tail-of 36 (name ++ 42 ∷ []) bytes rest e f ∙ append_assoc name (42 ∷ []) rest

  pub wild-candidate : (rest : Text) → past_word t ≡ 42 ∷ rest → IsCandidate a (36 ∷ t) kind.StringWild rest
  wild-candidate rest e =
      let r = word-run t in
      dollar-candidate kind.StringWild rest
      (record {
        bytes = 36 ∷ (r.0 ++ 42 ∷ []);
        whole = ap (λ (l : Text). 36 ∷ l) (r.1 ∙ ap (λ (l : Text). r.0 ++ l) e ∙ sym (append_assoc r.0 (42 ∷ []) rest));
        form = (r.0, refl, r.2);
      })
      (λ k' rest' f. only-string_name (λ k. Fits a (36 ∷ t) k rest' → length rest ≤ length rest')
      (λ f. let h = least-at t f.form.0 rest' (tail-of 36 f.form.0 f.bytes rest' f.whole f.form.1) f.form.2 in let l = ap (λ (x : Text). length x) e in omega arith)
      (λ f. let h = least-at t f.form.0 (42 ∷ rest') (wild-tail f.form.0 f.bytes rest' f.whole f.form.1) f.form.2 in let l = ap (λ (x : Text). length x) e in omega arith)
      k' (begins-at a 36 t k' rest' 3 refl f) f)

  pub name-candidate : ((u : Text) → past_word t ≢ 42 ∷ u) → IsCandidate a (36 ∷ t) kind.StringName (past_word t)
  name-candidate n =
      let r = word-run t in
      dollar-candidate kind.StringName (past_word t)
      (record { bytes = 36 ∷ r.0; whole = ap (λ (l : Text). 36 ∷ l) r.1; form = (r.0, refl, r.2) })
      (λ k' rest' f. only-string_name (λ k. Fits a (36 ∷ t) k rest' → length (past_word t) ≤ length rest')
      (λ f. least-at t f.form.0 rest' (tail-of 36 f.form.0 f.bytes rest' f.whole f.form.1) f.form.2)
      (λ f. absurd (n rest' (ap past_word (wild-tail f.form.0 f.bytes rest' f.whole f.form.1) ∙ word-exact f.form.0 42 rest' f.form.2 refl)))
      k' (begins-at a 36 t k' rest' 3 refl f) f)

  pub count-candidate : IsCandidate a (35 ∷ t) kind.CountName (past_word t)
  count-candidate =
      let r = word-run t in
      let f : Fits a (35 ∷ t) kind.CountName (past_word t) = record { bytes = 35 ∷ r.0; whole = ap (λ (l : Text). 35 ∷ l) r.1; form = (r.0, refl, r.2) } in
      record {
        longest = record {
          fits = f;
          greatest = λ k' rest' g. only-count (λ k. Fits a (35 ∷ t) k rest' → length (past_word t) ≤ length rest')
              (λ f. least-at t f.form.0 rest' (tail-of 35 f.form.0 f.bytes rest' f.whole f.form.1) f.form.2)
              k' (begins-at a 35 t k' rest' 4 refl g) g;
        };
        earlier = no-earlier a 35 t kind.CountName (past_word t) 4 refl (λ e. cc) (λ e. cc) (λ e. cc) (λ e y. cc) f;
      }

  pub place-candidate : IsCandidate a (64 ∷ t) kind.PlaceName (past_word t)
  place-candidate =
      let r = word-run t in
      let f : Fits a (64 ∷ t) kind.PlaceName (past_word t) = record { bytes = 64 ∷ r.0; whole = ap (λ (l : Text). 64 ∷ l) r.1; form = (r.0, refl, r.2) } in
      record {
        longest = record {
          fits = f;
          greatest = λ k' rest' g. only-place (λ k. Fits a (64 ∷ t) k rest' → length (past_word t) ≤ length rest')
              (λ f. least-at t f.form.0 rest' (tail-of 64 f.form.0 f.bytes rest' f.whole f.form.1) f.form.2)
              k' (begins-at a 64 t k' rest' 5 refl g) g;
        };
        earlier = no-earlier a 64 t kind.PlaceName (past_word t) 5 refl (λ e. cc) (λ e. cc) (λ e. cc) (λ e y. cc) f;
      }

-- ---- the words of the code

pub word-within : (t rest : Text) → rest ≡ past_word t → length rest ≤ length t
word-within t rest e = let h = past_word-shorter t in let l = ap (λ (x : Text). length x) e in omega arith

abbrev BeginsWord : Text → Type 0
BeginsWord text = (b : ℕ) × (t : Text) × (text ≡ b ∷ t) × (is_word_start b ≡ true)

reserved-at : (a : Bool) (text : Text) (b : ℕ) (t : Text) → text ≡ b ∷ t → is_word_start b ≡ true → IsReserved (before text (past_word text)) → IsCandidate a text kind.Reserved (past_word text)
reserved-at a text b t e h r =
    subst (λ (y : Text). IsCandidate a y kind.Reserved (past_word y)) (sym e) (reserved-candidate a b t h (subst (λ (y : Text). IsReserved (before y (past_word y))) e r))

word-at : (a : Bool) (text : Text) (b : ℕ) (t : Text) → text ≡ b ∷ t → is_word_start b ≡ true → ¬ IsReserved (before text (past_word text)) → IsCandidate a text kind.Word (past_word text)
word-at a text b t e h n =
    subst (λ (y : Text). IsCandidate a y kind.Word (past_word y)) (sym e) (word-candidate a b t h (subst (λ (y : Text). ¬ IsReserved (before y (past_word y))) e n))

is_true : IsTrue true
is_true = refl

not_true : IsTrue false → ⊥
not_true h = cc

pub word-reserved : (a : Bool) (text rest : Text) → BeginsWord text → (r : Bool) → rest ≡ past_word text
    → (IsTrue r ↔ IsReserved (before text rest)) → r ≡ true → IsCandidate a text kind.Reserved rest
word-reserved a text rest w true e i y =
    subst (λ (x : Text). IsCandidate a text kind.Reserved x) (sym e) (reserved-at a text w.0 w.1 w.2 w.3 (subst (λ (x : Text). IsReserved (before text x)) e (i.0 is_true)))
word-reserved a text rest w false e i y = absurd cc

pub word-plain : (a : Bool) (text rest : Text) → BeginsWord text → (r : Bool) → rest ≡ past_word text
    → (IsTrue r ↔ IsReserved (before text rest)) → r ≡ false → IsCandidate a text kind.Word rest
word-plain a text rest w false e i y =
    subst (λ (x : Text). IsCandidate a text kind.Word x) (sym e) (word-at a text w.0 w.1 w.2 w.3 (λ r. not_true (i.1 (subst (λ (x : Text). IsReserved (before text x)) (sym e) r))))
word-plain a text rest w true e i y = absurd cc

pub string_name-wild : (a : Bool) (t run : Text) (x : Bool) (rest : Text) → run ≡ past_word t → ◌≡◌ {A = Bool × Text} (x, rest) (past_byte 42 run) → x ≡ true
    → IsCandidate a (36 ∷ t) kind.StringWild rest
string_name-wild a t run true rest e f y = wild-candidate a t rest (sym e ∙ past_byte-true 42 run rest f)
string_name-wild a t run false rest e f y = absurd cc

pub string_name-plain : (a : Bool) (t run : Text) (x : Bool) (rest : Text) → run ≡ past_word t → ◌≡◌ {A = Bool × Text} (x, rest) (past_byte 42 run) → x ≡ false
    → IsCandidate a (36 ∷ t) kind.StringName rest
string_name-plain a t run false rest e f y =
    let p = past_byte-false 42 run rest f in
    subst (λ (x : Text). IsCandidate a (36 ∷ t) kind.StringName x) (sym (p.0 ∙ e)) (name-candidate a t (λ u g. p.1 u (e ∙ g)))
string_name-plain a t run true rest e f y = absurd cc

pub count-read : (a : Bool) (t rest : Text) → rest ≡ past_word t → IsCandidate a (35 ∷ t) kind.CountName rest
count-read a t rest e = subst (λ (x : Text). IsCandidate a (35 ∷ t) kind.CountName x) (sym e) (count-candidate a t)

pub place-read : (a : Bool) (t rest : Text) → rest ≡ past_word t → IsCandidate a (64 ∷ t) kind.PlaceName rest
place-read a t rest e = subst (λ (x : Text). IsCandidate a (64 ∷ t) kind.PlaceName x) (sym e) (place-candidate a t)
