-- What begins with `/` and is no comment: an expression, or its fault.
use Rattle.std.proofs.Common.{◌≡◌, ◌≢◌, ℕ, ◌+◌, ◌<◌, ◌≤◌, Bool, true, false, [], ◌∷◌, ◌++◌, length, Some, None, if◌then◌else◌, refl, sym, ap, subst, ◌∙◌, arith, append_assoc, length-append}
use Rattle.std.specs.Prelude.{◌==◌}
use Rattle.std.proofs.lemmas.Bool.{eqb-true, eqb-false}
use Rattle.yr_lexer.specs.declared.token.TokenKind.TheVariants as kind
use Rattle.yr_lexer.specs.declared.fault.FaultRow.{FaultRow}
use Rattle.yr_lexer.specs.declared.fault.FaultRow.TheVariants as row
use Rattle.yr_lexer.specs.Gaps.{Text, Piece, comment, line, block}
use Rattle.yr_lexer.specs.Forms.{AreFlags, no_flag, flag_i, flag_s, flags_is, flags_si}
use Rattle.yr_lexer.specs.Faults.{Fits, IsUnclosed, open_regex, open_comment, IsFault, IsFirstFault, rank}
use Rattle.yr_lexer.specs.Candidates.{IsCandidate}
use Rattle.yr_lexer.specs.Reading.{past_units, past_byte, Flags, flags_of, past_line}
use Rattle.yr_lexer.proofs.Basics.{by_test}
use Rattle.yr_lexer.proofs.GapLemmas.{line-read}
use Rattle.yr_lexer.proofs.NameLemmas.{past_byte-true, past_byte-false}
use Rattle.yr_lexer.proofs.UnitLemmas.{HasUnits, units-some, units-one, units-none}
use Rattle.yr_lexer.proofs.FirstLemmas.{begins-at, only-regex, no-float, no-bad_byte, no-bad_escape, no-too_large, not-unclosed, same-head, same-tail}

-- ---- flags

-- the flags that are read stand there, and no more of them
pub record IsFlags (t : Text) (f : Flags) : Type 0 where
  pub written : Text
  pub whole : t ≡ written ++ f.rest
  pub are : AreFlags f.nocase f.dot_all written
  pub greatest : (i s : Bool) (w rest : Text) → AreFlags i s w → t ≡ w ++ rest → length f.rest ≤ length rest

length-two : (w rest t : Text) (n : ℕ) → t ≡ w ++ rest → length w ≤ n → length t ≤ length rest + n
length-two w rest t n e h = let l = ap (λ (x : Text). length x) e ∙ length-append w rest in omega arith

flags-short : {i s : Bool} {w : Text} → AreFlags i s w → length w ≤ 2
flags-short no_flag = omega arith
flags-short flag_i = omega arith
flags-short flag_s = omega arith
flags-short flags_is = omega arith
flags-short flags_si = omega arith

-- one flag at most, where the other letter does not follow
one-flag_i : {i s : Bool} {w : Text} → AreFlags i s w → (t rest : Text) → 105 ∷ t ≡ w ++ rest → ((u : Text) → t ≢ 115 ∷ u) → length t ≤ length rest
one-flag_i no_flag t rest e n = let l = ap (λ (x : Text). length x) e in omega arith
one-flag_i flag_i t rest e n = let l = ap (λ (x : Text). length x) e in omega arith
one-flag_i flag_s t rest e n = let h = same-head 105 115 t rest e in absurd (omega arith)
one-flag_i flags_is t rest e n = absurd (n rest (same-tail 105 105 t (115 ∷ rest) e))
one-flag_i flags_si t rest e n = let h = same-head 105 115 t (105 ∷ rest) e in absurd (omega arith)

one-flag_s : {i s : Bool} {w : Text} → AreFlags i s w → (t rest : Text) → 115 ∷ t ≡ w ++ rest → ((u : Text) → t ≢ 105 ∷ u) → length t ≤ length rest
one-flag_s no_flag t rest e n = let l = ap (λ (x : Text). length x) e in omega arith
one-flag_s flag_i t rest e n = let h = same-head 115 105 t rest e in absurd (omega arith)
one-flag_s flag_s t rest e n = let l = ap (λ (x : Text). length x) e in omega arith
one-flag_s flags_is t rest e n = let h = same-head 115 105 t (115 ∷ rest) e in absurd (omega arith)
one-flag_s flags_si t rest e n = absurd (n rest (same-tail 115 115 t (105 ∷ rest) e))

no-flags : {i s : Bool} {w : Text} → AreFlags i s w → (t rest : Text) → t ≡ w ++ rest → ((u : Text) → t ≢ 105 ∷ u) → ((u : Text) → t ≢ 115 ∷ u) → length t ≤ length rest
no-flags no_flag t rest e n m = let l = ap (λ (x : Text). length x) e in omega arith
no-flags flag_i t rest e n m = absurd (n rest e)
no-flags flag_s t rest e n m = absurd (m rest e)
no-flags flags_is t rest e n m = absurd (n (115 ∷ rest) e)
no-flags flags_si t rest e n m = absurd (m (105 ∷ rest) e)

abbrev i_then : Bool × Text → Flags
i_then x = record { nocase = true; dot_all = x.0; rest = x.1 }

abbrev s_then : Bool × Text → Flags
s_then x = record { nocase = x.0; dot_all = true; rest = x.1 }

after-i : (t : Text) → IsFlags (105 ∷ t) (i_then (past_byte 115 t))
after-i [] = record { written = 105 ∷ []; whole = refl; are = flag_i; greatest = λ i s w rest f e. omega arith }
after-i (c ∷ t) = by_test (c == 115) (true, t) (false, c ∷ t) (λ (x : Bool × Text). IsFlags (105 ∷ c ∷ t) (i_then x))
    (λ h. record {
      written = 105 ∷ 115 ∷ [];
      whole = ap (λ (x : ℕ). 105 ∷ x ∷ t) (eqb-true c 115 h);
      are = flags_is;
      greatest = λ i s w rest f e. let l = length-two w rest (105 ∷ c ∷ t) 2 e (flags-short f) in omega arith;
    })
    (λ h. record { written = 105 ∷ []; whole = refl; are = flag_i; greatest = λ i s w rest f e. one-flag_i f (c ∷ t) rest e (λ u g. eqb-false c 115 h (cc g)) })

after-s : (t : Text) → IsFlags (115 ∷ t) (s_then (past_byte 105 t))
after-s [] = record { written = 115 ∷ []; whole = refl; are = flag_s; greatest = λ i s w rest f e. omega arith }
after-s (c ∷ t) = by_test (c == 105) (true, t) (false, c ∷ t) (λ (x : Bool × Text). IsFlags (115 ∷ c ∷ t) (s_then x))
    (λ h. record {
      written = 115 ∷ 105 ∷ [];
      whole = ap (λ (x : ℕ). 115 ∷ x ∷ t) (eqb-true c 105 h);
      are = flags_si;
      greatest = λ i s w rest f e. let l = length-two w rest (115 ∷ c ∷ t) 2 e (flags-short f) in omega arith;
    })
    (λ h. record { written = 115 ∷ []; whole = refl; are = flag_s; greatest = λ i s w rest f e. one-flag_s f (c ∷ t) rest e (λ u g. eqb-false c 105 h (cc g)) })

flags-found : (t : Text) → IsFlags t (flags_of t)
flags-found [] = record { written = []; whole = refl; are = no_flag; greatest = λ i s w rest f e. omega arith }
flags-found (b ∷ t) = by_test (b == 105) (i_then (past_byte 115 t)) (if b == 115 then s_then (past_byte 105 t) else record { nocase = false; dot_all = false; rest = b ∷ t }) (IsFlags (b ∷ t))
    (λ e. subst (λ (x : ℕ). IsFlags (x ∷ t) (i_then (past_byte 115 t))) (sym (eqb-true b 105 e)) (after-i t))
    (λ n. by_test (b == 115) (s_then (past_byte 105 t)) (record { nocase = false; dot_all = false; rest = b ∷ t }) (IsFlags (b ∷ t))
    (λ e. subst (λ (x : ℕ). IsFlags (x ∷ t) (s_then (past_byte 105 t))) (sym (eqb-true b 115 e)) (after-s t))
    (λ m. record {
      written = [];
      whole = refl;
      are = no_flag;
      greatest = λ i s w rest f e. no-flags f (b ∷ t) rest e (λ u g. eqb-false b 105 n (cc g)) (λ u g. eqb-false b 115 m (cc g));
    }))

-- ---- the branch

-- what follows the closing `/` of an expression that fits
abbrev pub Closes : Text → Bool → Bool → Text → Type 0
Closes t i s rest = (flags : Text) × AreFlags i s flags × HasUnits 47 t (flags ++ rest)

pub regex-units : (a : Bool) (t : Text) (i s : Bool) (rest : Text) → Fits a (47 ∷ t) (kind.Regex i s) rest → Closes t i s rest
regex-units a t i s rest f =
    let inside = f.form.0 in
    let flags = f.form.1 in (
      flags,
      f.form.5,
      (inside, same-tail 47 47 t (inside ++ 47 ∷ (flags ++ rest)) (f.whole ∙ ap (λ (x : Text). x ++ rest) f.form.2 ∙ ap (λ (x : Text). 47 ∷ x) (append_assoc inside (47 ∷ flags) rest)), f.form.4),
    )

module _ (a : Bool) (t : Text) (no_piece : (rest : Text) → ¬ Piece (47 ∷ t) rest) where
  pub regex-comment : (more : Text) → t ≡ 42 ∷ more → IsFirstFault row.Unclosed a (47 ∷ t)
  regex-comment more e = record {
    holds = subst (λ (x : Text). IsUnclosed a (47 ∷ x)) (sym e) (open_comment (λ rest b. no_piece rest (subst (λ (x : Text). Piece (47 ∷ x) rest) (sym e) (comment (block b)))));
    first = λ g h. absurd (omega arith);
  }

  some-units : (rest : Text) → (h : HasUnits 47 t rest) → h.0 ≢ []
  some-units rest h e =
      let f : t ≡ 47 ∷ rest = h.1 ∙ ap (λ (x : Text). x ++ 47 ∷ rest) e in
      no_piece (past_line rest) (subst (λ (x : Text). Piece (47 ∷ x) (past_line rest)) (sym f) (comment (line (line-read rest))))

  pub regex-unclosed : past_units 47 false t ≡ None → IsFirstFault row.Unclosed a (47 ∷ t)
  regex-unclosed e = record {
    holds = open_regex (λ i s rest f. let c = regex-units a t i s rest f in units-none 47 refl refl t e (c.0 ++ rest) c.2);
    first = λ g h. absurd (omega arith);
  }

  module _ (no_star : (u : Text) → t ≢ 42 ∷ u) (after : Text) (read : past_units 47 false t ≡ Some after) where
    abbrev flags : Flags
    flags = flags_of after

    fits : Fits a (47 ∷ t) (kind.Regex flags.nocase flags.dot_all) flags.rest
    fits =
        let u = units-some 47 refl refl t after read in
        let f = flags-found after in
        record {
          bytes = 47 ∷ (u.0 ++ 47 ∷ f.written);
          whole = ap (λ (x : Text). 47 ∷ x) (u.1 ∙ ap (λ (x : Text). u.0 ++ 47 ∷ x) f.whole ∙ sym (append_assoc u.0 (47 ∷ f.written) flags.rest));
          form = (u.0, f.written, refl, some-units after u, u.2, f.are);
        }

    closed : ¬ IsUnclosed a (47 ∷ t)
    closed = not-unclosed a 47 t (λ e. absurd (omega arith)) (λ e. (no_star, flags.nocase, flags.dot_all, flags.rest, fits)) (λ e. absurd (omega arith))

    pub regex-candidate : IsCandidate a (47 ∷ t) (kind.Regex flags.nocase flags.dot_all) flags.rest
    regex-candidate = record {
      longest = record {
        fits = fits;
        greatest = λ k' rest' f. only-regex (λ k. Fits a (47 ∷ t) k rest' → length flags.rest ≤ length rest')
            (λ i s f.
            let c = regex-units a t i s rest' f in
            let u = units-some 47 refl refl t after read in
            (flags-found after).greatest i s c.0 rest' c.1 (units-one 47 refl refl t after (c.0 ++ rest') u c.2))
            k' (begins-at a 47 t k' rest' 7 refl f) f;
      };
      earlier = earlier;
    }
      where
        earlier : (g : FaultRow) → rank g < 5 → ¬ IsFault g a (47 ∷ t)
        earlier row.Unclosed h = closed
        earlier row.BadEscape h = no-bad_escape 47 t (λ x. cc)
        earlier row.Float h = no-float 47 t (λ x. cc)
        earlier row.BadByte h = no-bad_byte a 47 t (kind.Regex flags.nocase flags.dot_all) flags.rest (λ x. cc) fits
        earlier row.TooLargeNumber h = no-too_large a 47 t (λ x. cc)
        earlier row.LongName h = absurd (omega arith)

-- ---- the words of the code

pub read-comment : (a : Bool) (t : Text) → ((rest : Text) → ¬ Piece (47 ∷ t) rest) → (x : Bool) (more : Text) → ◌≡◌ {A = Bool × Text} (x, more) (past_byte 42 t) → x ≡ true
    → IsFirstFault row.Unclosed a (47 ∷ t)
read-comment a t n true more e y = regex-comment a t n more (past_byte-true 42 t more e)
read-comment a t n false more e y = absurd cc

pub read-regex : (a : Bool) (t : Text) → ((rest : Text) → ¬ Piece (47 ∷ t) rest) → (x : Bool) (more after : Text) (f : Flags) → ◌≡◌ {A = Bool × Text} (x, more) (past_byte 42 t) → x ≡ false
    → past_units 47 false t ≡ Some after → f ≡ flags_of after → IsCandidate a (47 ∷ t) (kind.Regex f.nocase f.dot_all) f.rest
read-regex a t n false more after f e y u g =
    subst (λ (x : Flags). IsCandidate a (47 ∷ t) (kind.Regex x.nocase x.dot_all) x.rest) (sym g) (regex-candidate a t n (past_byte-false 42 t more e).1 after u)
read-regex a t n true more after f e y u g = absurd cc
