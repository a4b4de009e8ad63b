-- Hex literals: what is read is the one end outside comments.
use Rattle.std.proofs.Common.{◌≡◌, ◌≢◌, ℕ, ◌<◌, ◌≤◌, Bool, true, false, [], ◌∷◌, ◌++◌, length, Option, Some, None, refl, sym, ap, subst, ◌∙◌, ◌⊎◌, inl, inr, arith, append_assoc, append-nil}
use Rattle.std.specs.Prelude.{◌==◌, ◌||◌, ◌&&◌}
use Rattle.std.proofs.lemmas.Bool.{eqb-true, eqb-false, eq-eqb, and_parts, and_from, or_left, or_right}
use Rattle.yr_lexer.specs.declared.token.TokenKind.TheVariants as kind
use Rattle.yr_lexer.specs.declared.fault.FaultRow.{FaultRow}
use Rattle.yr_lexer.specs.declared.fault.FaultRow.TheVariants as row
use Rattle.yr_lexer.specs.Gaps.{Text, Line, at_end, at_feed, more, Block, closes as block_closes, inside, Comment, line, block}
use Rattle.yr_lexer.specs.Forms.{HexEnds, closes, after_comment, after_byte}
use Rattle.yr_lexer.specs.Faults.{Fits, open_hex, IsFault, IsFirstFault, rank}
use Rattle.yr_lexer.specs.Candidates.{IsCandidate}
use Rattle.yr_lexer.specs.Reading.{past_comment, opens_comment, past_hex_piece, hex_next, hex_step}
use Rattle.yr_lexer.proofs.Basics.{by_test}
use Rattle.yr_lexer.proofs.GapLemmas.{comment-some, comment-none, comment-read, comment-one, Comment-shorter}
use Rattle.yr_lexer.proofs.SignLemmas.{Leaves, one, two, leaves}
use Rattle.yr_lexer.proofs.FirstLemmas.{begins-at, only-hex, no-float, no-bad_byte, no-bad_escape, no-too_large, not-unclosed, same-head, same-tail}

pub HexEnds-shorter : {t rest : Text} → HexEnds t rest → length rest < length t
HexEnds-shorter closes = omega arith
HexEnds-shorter (after_comment c h) = let l = Comment-shorter c in let m = HexEnds-shorter h in omega arith
HexEnds-shorter (after_byte n1 n2 n3 h) = let m = HexEnds-shorter h in omega arith

-- ---- one step

opens-cases : (t : Text) → opens_comment t ≡ true → (u : Text) × ((t ≡ 47 ∷ u) ⊎ (t ≡ 42 ∷ u))
opens-cases [] e = absurd cc
opens-cases (b ∷ t) e = (t, go (b == 47) refl)
  where
    go : (y : Bool) → (b == 47) ≡ y → (b ∷ t ≡ 47 ∷ t) ⊎ (b ∷ t ≡ 42 ∷ t)
    go true f = inl (ap (λ (x : ℕ). x ∷ t) (eqb-true b 47 f))
    go false f = inr (ap (λ (x : ℕ). x ∷ t) (eqb-true b 42 (rw f at e)))

comment-opens : (t rest : Text) → past_comment t ≡ Some rest → opens_comment t ≡ true
comment-opens [] rest e = absurd cc
comment-opens (b ∷ t) rest e = go (b == 47) (b == 42) refl refl
  where
    go : (x y : Bool) → (b == 47) ≡ x → (b == 42) ≡ y → (b == 47 || b == 42) ≡ true
    go true y f g = or_left (b == 47) (b == 42) f
    go false true f g = or_right (b == 47) (b == 42) g
    go false false f g = absurd (let h = rw (f, g) at e in cc)

not_slash : (t u : Text) → opens_comment t ≡ false → t ≢ 47 ∷ u
not_slash t u e f = let h = ap opens_comment f in cc

not_star : (t u : Text) → opens_comment t ≡ false → t ≢ 42 ∷ u
not_star t u e f = let h = ap opens_comment f in cc

pub hex-close : (t r : Text) → HexEnds (125 ∷ t) r → r ≡ t
hex-close t r h = go (125 ∷ t) refl h
  where
    go : (x : Text) → x ≡ 125 ∷ t → HexEnds x r → r ≡ t
    go x e closes = same-tail 125 125 r t e
    go x e (after_comment c h) = let k = comment-read c in let g = same-head 125 47 t k.0 (sym e ∙ k.1) in absurd (omega arith)
    go x e (after_byte {b = b} {t = u} n1 n2 n3 h) = absurd (n1 (same-head b 125 u t e))

comment-step : (t m r : Text) → past_comment t ≡ Some m → HexEnds (47 ∷ t) r → HexEnds m r
comment-step t m r p h = go (47 ∷ t) refl h
  where
    first : (u : Text) → ((t ≡ 47 ∷ u) ⊎ (t ≡ 42 ∷ u)) → ((v : Text) → 47 ∷ t ≢ 47 ∷ 47 ∷ v) → ((v : Text) → 47 ∷ t ≢ 47 ∷ 42 ∷ v) → ⊥
    first u (inl e) n n' = n u (ap (λ (x : Text). 47 ∷ x) e)
    first u (inr e) n n' = n' u (ap (λ (x : Text). 47 ∷ x) e)

    go : (x : Text) → x ≡ 47 ∷ t → HexEnds x r → HexEnds m r
    go x e closes = let g = same-head 125 47 r t e in absurd (omega arith)
    go x e (after_comment {more = m'} c h) =
        let same : m' ≡ m = comment-one (47 ∷ t) m' m (subst (λ (y : Text). Comment y m') e c) (comment-some t m p) in
        subst (λ (y : Text). HexEnds y r) same h
    go x e (after_byte {b = b} {t = u} n1 n2 n3 h) =
        let o = opens-cases t (comment-opens t m p) in
        absurd (first o.0 o.1 (subst (λ (y : Text). (v : Text) → y ≢ 47 ∷ 47 ∷ v) e n2) (subst (λ (y : Text). (v : Text) → y ≢ 47 ∷ 42 ∷ v) e n3))

open-step : (t r : Text) → opens_comment t ≡ true → past_comment t ≡ None → ¬ HexEnds (47 ∷ t) r
open-step t r o p h = go (47 ∷ t) refl h
  where
    first : (u : Text) → ((t ≡ 47 ∷ u) ⊎ (t ≡ 42 ∷ u)) → ((v : Text) → 47 ∷ t ≢ 47 ∷ 47 ∷ v) → ((v : Text) → 47 ∷ t ≢ 47 ∷ 42 ∷ v) → ⊥
    first u (inl e) n n' = n u (ap (λ (x : Text). 47 ∷ x) e)
    first u (inr e) n n' = n' u (ap (λ (x : Text). 47 ∷ x) e)

    go : (x : Text) → x ≡ 47 ∷ t → ¬ HexEnds x r
    go x e closes = let g = same-head 125 47 r t e in absurd (omega arith)
    go x e (after_comment {more = m'} c h) = comment-none t p m' (subst (λ (y : Text). Comment y m') e c)
    go x e (after_byte {b = b} {t = u} n1 n2 n3 h) =
        let w = opens-cases t o in
        first w.0 w.1 (subst (λ (y : Text). (v : Text) → y ≢ 47 ∷ 47 ∷ v) e n2) (subst (λ (y : Text). (v : Text) → y ≢ 47 ∷ 42 ∷ v) e n3)

byte-back : (b : ℕ) (t r : Text) → (b == 47 && opens_comment t) ≡ false → b ≢ 125 → HexEnds (b ∷ t) r → HexEnds t r
byte-back b t r n m h = go (b ∷ t) refl h
  where
    go : (x : Text) → x ≡ b ∷ t → HexEnds x r → HexEnds t r
    go x e closes = absurd (m (sym (same-head 125 b r t e)))
    go x e (after_comment {more = m'} c h) =
        let k = comment-read c in
        let f : b ∷ t ≡ 47 ∷ k.0 = sym e ∙ k.1 in
        let g = eq-eqb b 47 (same-head b 47 t k.0 f) in
        let i : opens_comment t ≡ true = ap opens_comment (same-tail b 47 t k.0 f) ∙ comment-opens k.0 m' k.2 in
        absurd (let j = and_from (b == 47) (opens_comment t) g i in cc)
    go x e (after_byte {b = c} {t = u} n1 n2 n3 h) = subst (λ (y : Text). HexEnds y r) (same-tail c b u t e) h

byte-on : (b : ℕ) (t r : Text) → (b == 47 && opens_comment t) ≡ false → b ≢ 125 → HexEnds t r → HexEnds (b ∷ t) r
byte-on b t r n m h = after_byte m
    (λ u e. let j = and_from (b == 47) (opens_comment t) (eq-eqb b 47 (same-head b 47 t (47 ∷ u) e)) (ap opens_comment (same-tail b 47 t (47 ∷ u) e)) in cc)
    (λ u e. let j = and_from (b == 47) (opens_comment t) (eq-eqb b 47 (same-head b 47 t (42 ∷ u) e)) (ap opens_comment (same-tail b 47 t (42 ∷ u) e)) in cc)
    h

pub record IsStep (t next : Text) : Type 0 where
  pub on : (r : Text) → HexEnds next r → HexEnds t r
  pub back : (r : Text) → HexEnds t r → HexEnds next r
  pub shorter : length next < length t

abbrev StepsTo : Text → Option Text → Type 0
StepsTo t None = (r : Text) → ¬ HexEnds t r
StepsTo t (Some next) = IsStep t next

comment-steps : (t : Text) (o : Option Text) → opens_comment t ≡ true → past_comment t ≡ o → StepsTo (47 ∷ t) o
comment-steps t None o e = λ r. open-step t r o e
comment-steps t (Some m) o e = record {
  on = λ r. after_comment (comment-some t m e);
  back = λ r. comment-step t m r e;
  shorter = Comment-shorter (comment-some t m e);
}

steps : (b : ℕ) (t : Text) → b ≢ 125 → StepsTo (b ∷ t) (past_hex_piece b t)
steps b t n = by_test (b == 47 && opens_comment t) (past_comment t) (Some t) (StepsTo (b ∷ t))
    (λ e. let p = and_parts (b == 47) (opens_comment t) e in
    subst (λ (x : ℕ). StepsTo (x ∷ t) (past_comment t)) (sym (eqb-true b 47 p.0)) (comment-steps t (past_comment t) p.1 refl))
    (λ e. record { on = λ r. byte-on b t r e n; back = λ r. byte-back b t r e n; shorter = omega arith })

pub no-end : (r : Text) → ¬ HexEnds [] r
no-end r h = go [] refl h
  where
    go : (x : Text) → x ≡ [] → ¬ HexEnds x r
    go x e closes = cc
    go x e (after_comment c h) = let k = comment-read c in let f = sym e ∙ k.1 in cc
    go x e (after_byte n1 n2 n3 h) = cc

abbrev IsHexStep : Text → Option (Bool × Text) → Type 0
IsHexStep t None = (r : Text) → ¬ HexEnds t r
IsHexStep t (Some x) = IsNext t x.0 x.1
  where
    IsNext : Text → Bool → Text → Type 0
    IsNext t true m = HexEnds t m
    IsNext t false m = IsStep t m

next-found : (t : Text) (o : Option Text) → StepsTo t o → IsHexStep t (hex_next o)
next-found t None h = h
next-found t (Some m) h = h

step-found : (t : Text) → IsHexStep t (hex_step t)
unfolding hex_step
step-found [] = no-end
step-found (b ∷ t) = by_test (b == 125) (Some (true, t)) (hex_next (past_hex_piece b t)) (IsHexStep (b ∷ t))
    (λ e. subst (λ (x : ℕ). HexEnds (x ∷ t) t) (sym (eqb-true b 125 e)) closes)
    (λ e. next-found (b ∷ t) (past_hex_piece b t) (steps b t (eqb-false b 125 e)))

pub step-end : (t m : Text) (x : Bool) → hex_step t ≡ Some (x, m) → x ≡ true → HexEnds t m
step-end t m true e h = subst (IsHexStep t) e (step-found t)
step-end t m false e h = absurd cc

pub step-on : (t m : Text) (x : Bool) → hex_step t ≡ Some (x, m) → x ≡ false → IsStep t m
step-on t m false e h = subst (IsHexStep t) e (step-found t)
step-on t m true e h = absurd cc

pub step-stuck : (t : Text) → hex_step t ≡ None → (r : Text) → ¬ HexEnds t r
step-stuck t e = subst (IsHexStep t) e (step-found t)

-- a hex literal ends at one place
pub hex-one : {t r : Text} → HexEnds t r → (s : Text) → HexEnds t s → s ≡ r
hex-one (closes {rest = r}) s h = hex-close r s h
hex-one (after_comment {t = t} {more = m} c g) s h =
    let k = comment-read c in
    hex-one g s (comment-step k.0 m s k.2 (subst (λ (x : Text). HexEnds x s) k.1 h))
hex-one (after_byte {b = b} {t = t} n1 n2 n3 g) s h = hex-one g s (byte-back b t s (plain t refl) n1 h)
  where
    plain : (u : Text) → u ≡ t → (b == 47 && opens_comment t) ≡ false
    plain u e = go (b == 47 && opens_comment t) refl
      where
        go : (y : Bool) → (b == 47 && opens_comment t) ≡ y → (b == 47 && opens_comment t) ≡ false
        go false f = f
        go true f =
            let p = and_parts (b == 47) (opens_comment t) f in
            let o = opens-cases t p.1 in
            absurd (other o.0 (eqb-true b 47 p.0) o.1)
          where
            other : (u : Text) → b ≡ 47 → ((t ≡ 47 ∷ u) ⊎ (t ≡ 42 ∷ u)) → ⊥
            other u i (inl e) = n2 u (ap (λ (x : ℕ). x ∷ t) i ∙ ap (λ (x : Text). 47 ∷ x) e)
            other u i (inr e) = n3 u (ap (λ (x : ℕ). x ∷ t) i ∙ ap (λ (x : Text). 47 ∷ x) e)

-- ---- the bytes of a hex literal do not depend on what follows

-- bytes up to a rest, and the same bytes before any other rest
record Cut (P : Text → Text → Type 0) (t rest : Text) : Type 0 where
  first : ℕ
  others : Text
  whole : t ≡ first ∷ (others ++ rest)
  moved : (s : Text) → P (first ∷ (others ++ s)) s

block-cut : {t rest : Text} → Block t rest → Cut Block t rest
block-cut block_closes = record { first = 42; others = 47 ∷ []; whole = refl; moved = λ s. block_closes }
block-cut (inside {b = b} {t = t} {rest = rest} n g) =
    let c = block-cut g in
    record {
      first = b;
      others = c.first ∷ c.others;
      whole = ap (λ (x : Text). b ∷ x) c.whole;
      moved = λ s. inside (λ u e.
          let i : b ≡ 42 = same-head b 42 _ (47 ∷ u) e in
          let j : c.first ≡ 47 = same-head c.first 47 _ u (same-tail b 42 _ (47 ∷ u) e) in
          n (c.others ++ rest) (ap (λ (x : Text). b ∷ x) c.whole ∙ ap (λ (x : ℕ). x ∷ c.first ∷ (c.others ++ rest)) i ∙ ap (λ (x : ℕ). 42 ∷ x ∷ (c.others ++ rest)) j))
          (c.moved s);
    }

-- a line that ends at a line feed
record LineCut (t rest : Text) : Type 0 where
  bytes : Text
  whole : t ≡ bytes ++ 10 ∷ rest
  moved : (s : Text) → Line (bytes ++ 10 ∷ s) (10 ∷ s)

line-cut : {t r : Text} → Line t r → (b : ℕ) (rest : Text) → r ≡ b ∷ rest → (b ≡ 10) × LineCut t rest
line-cut at_end b rest e = absurd cc
line-cut (at_feed {t = t}) b rest e = (sym (same-head 10 b t rest e), record { bytes = []; whole = ap (λ (x : Text). 10 ∷ x) (same-tail 10 b t rest e); moved = λ s. at_feed })
line-cut (more {b = c} n l) b rest e =
    let k = line-cut l b rest e in
    (k.0, record { bytes = c ∷ k.1.bytes; whole = ap (λ (x : Text). c ∷ x) k.1.whole; moved = λ s. more n (k.1.moved s) })

-- a comment before a byte, and before the same byte with another rest
record CommentCut (t : Text) (b : ℕ) (rest : Text) : Type 0 where
  others : Text
  whole : t ≡ 47 ∷ (others ++ b ∷ rest)
  moved : (s : Text) → Comment (47 ∷ (others ++ b ∷ s)) (b ∷ s)

comment-cut : {t r : Text} → Comment t r → (b : ℕ) (rest : Text) → r ≡ b ∷ rest → CommentCut t b rest
comment-cut (line {t = t} l) b rest e =
    let k = line-cut l b rest e in
    let i : 10 ≡ b = sym k.0 in
    record {
      others = 47 ∷ k.1.bytes;
      whole = ap (λ (x : Text). 47 ∷ 47 ∷ x) (k.1.whole ∙ ap (λ (x : ℕ). k.1.bytes ++ x ∷ rest) i);
      moved = λ s. subst (λ (x : ℕ). Comment (47 ∷ 47 ∷ (k.1.bytes ++ x ∷ s)) (x ∷ s)) i (line (k.1.moved s));
    }
comment-cut (block {t = t} {rest = r} g) b rest e =
    let c = block-cut g in
    record {
      others = 42 ∷ c.first ∷ c.others;
      whole = ap (λ (x : Text). 47 ∷ 42 ∷ x) (c.whole ∙ ap (λ (x : Text). c.first ∷ (c.others ++ x)) e);
      moved = λ s. block (c.moved (b ∷ s));
    }

hex-cut : {t rest : Text} → HexEnds t rest → Cut HexEnds t rest
hex-cut closes = record { first = 125; others = []; whole = refl; moved = λ s. closes }
hex-cut (after_comment {t = t} {rest = rest} c g) =
    let h = hex-cut g in
    let k = comment-cut c h.first (h.others ++ rest) h.whole in
    record {
      first = 47;
      others = k.others ++ h.first ∷ h.others;
      whole = k.whole ∙ ap (λ (x : Text). 47 ∷ x) (sym (append_assoc k.others (h.first ∷ h.others) rest));
      moved = λ s. subst (λ (x : Text). HexEnds (47 ∷ x) s) (sym (append_assoc k.others (h.first ∷ h.others) s)) (after_comment (k.moved (h.others ++ s)) (h.moved s));
    }
hex-cut (after_byte {b = b} {t = t} {rest = rest} n1 n2 n3 g) =
    let h = hex-cut g in
    record {
      first = b;
      others = h.first ∷ h.others;
      whole = ap (λ (x : Text). b ∷ x) h.whole;
      moved = λ s. after_byte n1
          (λ u e. n2 (h.others ++ rest) (again (same-head b 47 _ (47 ∷ u) e) (same-head h.first 47 _ u (same-tail b 47 _ (47 ∷ u) e)) h.whole))
          (λ u e. n3 (h.others ++ rest) (again (same-head b 47 _ (42 ∷ u) e) (same-head h.first 42 _ u (same-tail b 47 _ (42 ∷ u) e)) h.whole))
          (h.moved s);
    }
  where
    again : {x y : ℕ} {u : Text} {z : ℕ} → b ≡ x → z ≡ y → t ≡ z ∷ u → b ∷ t ≡ x ∷ y ∷ u
    again i j e = cc

-- ---- the branch

brace-rest : (t rest : Text) → Leaves 123 t rest → rest ≡ t
brace-rest t rest (one h) = refl
brace-rest t rest (two h) = absurd cc

module _ (t : Text) where
  hex-fits : (rest : Text) → HexEnds t rest → Fits true (123 ∷ t) kind.Hex rest
  hex-fits rest h =
      let c = hex-cut h in
      record {
        bytes = 123 ∷ c.first ∷ c.others;
        whole = ap (λ (x : Text). 123 ∷ x) c.whole;
        form = (refl, c.first ∷ c.others, refl, subst (λ (x : Text). HexEnds (c.first ∷ x) []) (append-nil c.others) (c.moved []));
      }

  pub fits-hex : (a : Bool) (rest : Text) → Fits a (123 ∷ t) kind.Hex rest → HexEnds t rest
  fits-hex a rest f =
      let i = f.form.1 in
      let c = hex-cut f.form.3 in
      let e : t ≡ i ++ rest = same-tail 123 123 t (i ++ rest) (f.whole ∙ ap (λ (x : Text). x ++ rest) f.form.2) in
      let g : i ≡ c.first ∷ c.others = c.whole ∙ ap (λ (x : Text). c.first ∷ x) (append-nil c.others) in
      subst (λ (x : Text). HexEnds x rest) (sym (e ∙ ap (λ (x : Text). x ++ rest) g)) (c.moved rest)

  pub brace-sign : (a : Bool) (rest : Text) → Fits a (123 ∷ t) kind.Sign rest → rest ≡ t
  brace-sign a rest f = brace-rest t rest (leaves a 123 t rest f)

  pub hex-unclosed : ((rest : Text) → ¬ HexEnds t rest) → IsFirstFault row.Unclosed true (123 ∷ t)
  hex-unclosed n = record { holds = open_hex refl (λ rest f. n rest (fits-hex true rest f)); first = λ g h. absurd (omega arith) }

  pub hex-candidate : (rest : Text) → HexEnds t rest → IsCandidate true (123 ∷ t) kind.Hex rest
  hex-candidate rest h = record {
    longest = record {
      fits = hex-fits rest h;
      greatest = λ k' rest' f. only-hex (λ k. Fits true (123 ∷ t) k rest' → length rest ≤ length rest')
          (λ f. let s = ap (λ (x : Text). length x) (hex-one h rest' (fits-hex true rest' f)) in omega arith)
          (λ f. let s = ap (λ (x : Text). length x) (brace-sign true rest' f) in let l = HexEnds-shorter h in omega arith)
          k' (begins-at true 123 t k' rest' 8 refl f) f;
    };
    earlier = earlier;
  }
    where
      earlier : (g : FaultRow) → rank g < 5 → ¬ IsFault g true (123 ∷ t)
      earlier row.Unclosed l = not-unclosed true 123 t (λ e. absurd (omega arith)) (λ e. absurd (omega arith)) (λ e. (rest, hex-fits rest h))
      earlier row.BadEscape l = no-bad_escape 123 t (λ x. cc)
      earlier row.Float l = no-float 123 t (λ x. cc)
      earlier row.BadByte l = no-bad_byte true 123 t kind.Hex rest (λ x. cc) (hex-fits rest h)
      earlier row.TooLargeNumber l = no-too_large true 123 t (λ x. cc)
      earlier row.LongName l = absurd (omega arith)
