-- A text has one answer.
use Rattle.std.proofs.Common.{◌≡◌, ◌≢◌, ℕ, ◌<◌, Bool, false, List, [], ◌∷◌, Result, Err, refl, sym, ap, subst, ◌∙◌, arith}
use Rattle.std.specs.Prelude.{◌==◌, if◌then◌else◌}
use Rattle.yr_lexer.specs.declared.token.TokenKind.{TokenKind}
use Rattle.yr_lexer.specs.declared.token.Token.{Token}
use Rattle.yr_lexer.specs.declared.fault.FaultRow.{FaultRow}
use Rattle.yr_lexer.specs.declared.fault.FaultRow.TheVariants as row
use Rattle.yr_lexer.specs.declared.fault.LexFault.{LexFault}
use Rattle.yr_lexer.specs.Gaps.{Text, before, line_at}
use Rattle.yr_lexer.specs.Faults.{IsFirstFault, rank}
use Rattle.yr_lexer.specs.Tokens.{IsToken, token_at, with_token, is_equals, LexesFrom, nothing, refused, token, fault_on}
use Rattle.yr_lexer.proofs.Basics.{same-rest}
use Rattle.yr_lexer.proofs.GapLemmas.{gap-one}
use Rattle.yr_lexer.proofs.TokenLemmas.{longest-length, longest-kind}

-- the row at a place of the table
row_at : ℕ → FaultRow
row_at n =
    if n == 0 then row.Unclosed else if n == 1 then row.BadEscape else if n == 2 then row.Float else if n == 3 then row.BadByte
    else if n == 4 then row.TooLargeNumber else row.LongName

row-back : (f : FaultRow) → row_at (rank f) ≡ f
unfolding row_at
row-back row.Unclosed = refl
row-back row.BadEscape = refl
row-back row.Float = refl
row-back row.BadByte = refl
row-back row.TooLargeNumber = refl
row-back row.LongName = refl

first-one : (e : Bool) (t : Text) (f g : FaultRow) → IsFirstFault f e t → IsFirstFault g e t → f ≡ g
first-one e t f g p q = sym (row-back f) ∙ ap row_at ranks ∙ row-back g
  where
    not_below : ¬ (rank f < rank g)
    not_below h = q.first f h p.holds

    not_above : ¬ (rank g < rank f)
    not_above h = p.first g h q.holds

    ranks : rank f ≡ rank g
    ranks = equal (rank f) (rank g) not_below not_above
      where
        equal : (m n : ℕ) → ¬ (m < n) → ¬ (n < m) → m ≡ n
        equal m n h i = omega arith

abbrev pub Found : Type 0
Found = TokenKind × Text

token-one : (e : Bool) (t : Text) (x y : Found) → t ≢ [] → IsToken e t x.0 x.1 → IsToken e t y.0 y.1 → x ≡ y
token-one e [] x y some p q = absurd (some refl)
token-one e (b ∷ t) x y some p q =
    let k = longest-kind e b t x.0 y.0 x.1 y.1 p.longest q.longest in
    let l = longest-length e (b ∷ t) x.0 y.0 x.1 y.1 p.longest q.longest in
    let f = p.longest.fits in
    let g = q.longest.fits in
    let r = same-rest f.bytes g.bytes x.1 y.1 (sym f.whole ∙ g.whole) l in
    ap (λ (z : TokenKind). (z, x.1)) k ∙ ap (λ (z : Text). (y.0, z)) r

abbrev pub Answer : Type 0
Answer = Result (List Token) LexFault

module _ (whole : Text) where
  fault-same : (e : Bool) (u v : Text) (f g : FaultRow) → u ≡ v → IsFirstFault f e u → IsFirstFault g e v → fault_on f (line_at whole u) ≡ fault_on g (line_at whole v)
  fault-same e u v f g same p q =
      let h = first-one e v f g (subst (λ (x : Text). IsFirstFault f e x) same p) q in
      ap (λ (x : FaultRow). fault_on x (line_at whole u)) h ∙ ap (λ (x : Text). fault_on g (line_at whole x)) same

  no-both : (e : Bool) (u v : Text) (f : FaultRow) (k : TokenKind) (rest : Text) → u ≡ v → IsFirstFault f e u → IsToken e v k rest → ⊥
  no-both e u v f k rest same p i = i.no_fault f (subst (λ (x : Text). IsFirstFault f e x) same p).holds

  lexes-one : {e : Bool} {t : Text} {a : Answer} → LexesFrom whole e t a → (b : Answer) → LexesFrom whole e t b → a ≡ b
  lexes-one (nothing g) b (nothing g') = refl
  lexes-one (nothing g) b (refused {u = u} g' n f) = absurd (n (sym (gap-one g u g')))
  lexes-one (nothing g) b (token {u = u} g' n i l) = absurd (n (sym (gap-one g u g')))
  lexes-one (refused g n f) b (nothing g') = absurd (n (gap-one g [] g'))
  lexes-one (refused {after_equals = e} {u = u} {f = f} g n p) b (refused {u = v} {f = f'} g' n' q) = ap (λ (x : LexFault). Err x) (fault-same e u v f f' (gap-one g v g') p q)
  lexes-one (refused {after_equals = e} {u = u} {f = f} g n p) b (token {u = v} {rest = r} {k = k} g' n' i l) = absurd (no-both e u v f k r (gap-one g v g') p i)
  lexes-one (token g n i l) b (nothing g') = absurd (n (gap-one g [] g'))
  lexes-one (token {after_equals = e} {u = u} {rest = r} {k = k} g n i l) b (refused {u = v} {f = f} g' n' q) = absurd (no-both e v u f k r (sym (gap-one g v g')) q i)
  lexes-one (token {after_equals = e} {u = u} {rest = r} {k = k} {answer = a} g n i l) b (token {u = v} {rest = r'} {k = k'} {answer = a'} g' n' i' l') =
      let same = gap-one g v g' in
      let x = token-one e u (k, r) (k', r') n i (subst (λ (y : Text). IsToken e y k' r') (sym same) i') in
      let m = subst (λ (y : Text). LexesFrom whole (is_equals (before y r')) r' a') (sym same) l' in
      let rest = lexes-one l a' (subst (λ (y : Found). LexesFrom whole (is_equals (before u y.1)) y.1 a') (sym x) m) in
      ap (λ (y : Answer). with_token (token_at whole k u r) y) rest
      ∙ ap (λ (y : Text). with_token (token_at whole k y r) a') same
      ∙ ap (λ (y : Found). with_token (token_at whole y.0 v y.1) a') x

pub one-answer : (t : Text) (a b : Answer) → LexesFrom t false t a → LexesFrom t false t b → a ≡ b
one-answer t a b p q = lexes-one t p b q
