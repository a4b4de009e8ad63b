-- What begins with a quote: a text, or its fault.
use Rattle.std.proofs.Common.{◌≡◌, ℕ, ◌+◌, ◌-◌, ◌<◌, ◌≤◌, Bool, false, List, [], ◌∷◌, ◌++◌, length, take, Some, None, refl, sym, ap, subst, ◌∙◌, arith, append_assoc, length-append}
use Rattle.yr_lexer.specs.declared.token.TokenKind.TheVariants as kind
use Rattle.yr_lexer.specs.declared.fault.FaultRow.{FaultRow}
use Rattle.yr_lexer.specs.declared.fault.FaultRow.TheVariants as row
use Rattle.yr_lexer.specs.Gaps.{Text}
use Rattle.yr_lexer.specs.Texts.{Unescapes}
use Rattle.yr_lexer.specs.Faults.{Fits, IsUnclosed, open_text, IsBadEscape, IsFault, IsFirstFault, rank}
use Rattle.yr_lexer.specs.Candidates.{IsCandidate}
use Rattle.yr_lexer.specs.Reading.{past_units}
use Rattle.yr_lexer.proofs.Basics.{take-front, same-front}
use Rattle.yr_lexer.proofs.UnitLemmas.{HasUnits, units-some, units-one, units-none}
use Rattle.yr_lexer.proofs.FirstLemmas.{begins-at, only-text, no-float, no-bad_byte, no-too_large, not-unclosed, same-tail}

-- the inside of what is read
pub inside-read : (q : ℕ) (inside rest t : Text) → t ≡ inside ++ q ∷ rest → take (length t - length rest - 1) t ≡ inside
inside-read q inside rest t e =
    let l : length t ≡ length inside + length (q ∷ rest) = ap (λ (x : Text). length x) e ∙ length-append inside (q ∷ rest) in
    let n : length t - length rest - 1 ≡ length inside = omega arith in
    ap (λ (k : ℕ). take k t) n ∙ ap (λ (x : Text). take (length inside) x) e ∙ take-front inside (q ∷ rest)

pub units-longer : (q : ℕ) (t rest : Text) → HasUnits q t rest → length rest + 1 ≤ length t
units-longer q t rest h = let l = ap (λ (x : Text). length x) h.1 ∙ length-append h.0 (q ∷ rest) in omega arith

module _ (a : Bool) (t : Text) where
  text-units : (rest : Text) → Fits a (34 ∷ t) kind.Text rest → HasUnits 34 t rest
  text-units rest f =
      let i = f.form.0 in
      (i, same-tail 34 34 t (i ++ 34 ∷ rest) (f.whole ∙ ap (λ (x : Text). x ++ rest) f.form.1 ∙ ap (λ (x : Text). 34 ∷ x) (append_assoc i (34 ∷ []) rest)), f.form.2)

  units-text : (rest : Text) → HasUnits 34 t rest → Fits a (34 ∷ t) kind.Text rest
  units-text rest h = record {
    bytes = 34 ∷ (h.0 ++ 34 ∷ []);
    whole = ap (λ (x : Text). 34 ∷ x) (h.1 ∙ sym (append_assoc h.0 (34 ∷ []) rest));
    form = (h.0, refl, h.2);
  }

  closed : (rest : Text) → Fits a (34 ∷ t) kind.Text rest → ¬ IsUnclosed a (34 ∷ t)
  closed rest f = not-unclosed a 34 t (λ e. (rest, f)) (λ e. absurd (omega arith)) (λ e. absurd (omega arith))

  pub text-unclosed : past_units 34 false t ≡ None → IsFirstFault row.Unclosed a (34 ∷ t)
  text-unclosed e = record { holds = open_text (λ rest f. units-none 34 refl refl t e rest (text-units rest f)); first = λ g h. absurd (omega arith) }

  pub text-bad : (rest inside : Text) → past_units 34 false t ≡ Some rest → take (length t - length rest - 1) t ≡ inside
      → ((bytes : List ℕ) → ¬ Unescapes inside bytes) → IsFirstFault row.BadEscape a (34 ∷ t)
  text-bad rest inside e i n =
      let u = units-some 34 refl refl t rest e in
      let same : u.0 ≡ inside = sym (inside-read 34 u.0 rest t u.1) ∙ i in
      record {
        holds = record {
          inside = u.0;
          rest = rest;
          whole = ap (λ (x : Text). 34 ∷ x) u.1;
          units = u.2;
          bad = λ bytes g. n bytes (subst (λ (x : Text). Unescapes x bytes) same g);
        };
        first = earlier;
      }
    where
      earlier : (g : FaultRow) → rank g < 1 → ¬ IsFault g a (34 ∷ t)
      earlier row.Unclosed h = closed rest (units-text rest (units-some 34 refl refl t rest e))
      earlier row.BadEscape h = absurd (omega arith)
      earlier row.Float h = absurd (omega arith)
      earlier row.BadByte h = absurd (omega arith)
      earlier row.TooLargeNumber h = absurd (omega arith)
      earlier row.LongName h = absurd (omega arith)

  good-escapes : (rest inside : Text) (bytes : List ℕ) → past_units 34 false t ≡ Some rest → take (length t - length rest - 1) t ≡ inside
      → Unescapes inside bytes → ¬ IsBadEscape (34 ∷ t)
  good-escapes rest inside bytes e i g b =
      let u = units-some 34 refl refl t rest e in
      let other : HasUnits 34 t b.rest = (b.inside, same-tail 34 34 t (b.inside ++ 34 ∷ b.rest) b.whole, b.units) in
      let end : rest ≡ b.rest = units-one 34 refl refl t rest b.rest u other in
      let l : length (34 ∷ rest) ≡ length (34 ∷ b.rest) = ap (λ (x : Text). length (34 ∷ x)) end in
      let same : u.0 ≡ b.inside = same-front u.0 b.inside (34 ∷ rest) (34 ∷ b.rest) (sym u.1 ∙ other.1) l in
      let here : inside ≡ b.inside = sym i ∙ inside-read 34 u.0 rest t u.1 ∙ same in
      b.bad bytes (subst (λ (x : Text). Unescapes x bytes) here g)

  pub text-candidate : (rest inside : Text) (bytes : List ℕ) → past_units 34 false t ≡ Some rest → take (length t - length rest - 1) t ≡ inside
      → Unescapes inside bytes → IsCandidate a (34 ∷ t) kind.Text rest
  text-candidate rest inside bytes e i good =
      let u = units-some 34 refl refl t rest e in
      record {
        longest = record {
          fits = units-text rest u;
          greatest = λ k' rest' f. only-text (λ k. Fits a (34 ∷ t) k rest' → length rest ≤ length rest')
              (λ f. let s = ap (λ (x : Text). length x) (units-one 34 refl refl t rest rest' u (text-units rest' f)) in omega arith)
              k' (begins-at a 34 t k' rest' 2 refl f) f;
        };
        earlier = earlier;
      }
    where
      earlier : (g : FaultRow) → rank g < 5 → ¬ IsFault g a (34 ∷ t)
      earlier row.Unclosed h = closed rest (units-text rest (units-some 34 refl refl t rest e))
      earlier row.BadEscape h = good-escapes rest inside bytes e i good
      earlier row.Float h = no-float 34 t (λ x. cc)
      earlier row.BadByte h = no-bad_byte a 34 t kind.Text rest (λ x. cc) (units-text rest (units-some 34 refl refl t rest e))
      earlier row.TooLargeNumber h = no-too_large a 34 t (λ x. cc)
      earlier row.LongName h = absurd (omega arith)

pub units-within : (t rest : Text) → past_units 34 false t ≡ Some rest → length rest + 1 ≤ length t
units-within t rest e = units-longer 34 t rest (units-some 34 refl refl t rest e)
