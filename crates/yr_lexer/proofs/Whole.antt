-- The tokens so far, and the place after the next gap.
use Rattle.std.proofs.Common.{◌≡◌, ◌≢◌, ℕ, ◌+◌, ◌-◌, ◌<◌, ◌≤◌, Bool, true, false, List, [], ◌∷◌, ◌++◌, length, take, Result, Ok, Err, refl, sym, ap, subst, ◌∙◌, append_assoc, append-nil, length-append, arith}
use Rattle.std.proofs.lemmas.Bool.{eqb-true}
use Rattle.std.proofs.lemmas.List.Sums.{count_by-le-length, sum_by-append}
use Rattle.std.specs.Prelude.{cond, ◌==◌}
use Rattle.yr_lexer.specs.declared.token.TokenKind.{TokenKind}
use Rattle.yr_lexer.specs.declared.token.Token.{Token}
use Rattle.yr_lexer.specs.declared.fault.FaultRow.{FaultRow}
use Rattle.yr_lexer.specs.declared.fault.LexFault.{LexFault}
use Rattle.yr_lexer.specs.declared.fault.LexFault.TheVariants as fault
use Rattle.yr_lexer.specs.Gaps.{Text, Piece, Gap, ends, before, feeds_in, line_at}
use Rattle.yr_lexer.specs.Faults.{Fits, IsFirstFault}
use Rattle.yr_lexer.specs.Tokens.{IsToken, token_at, with_token, is_equals, LexesFrom, Lexes, ExplainsLex, nothing, refused, token, fault_on}
use Rattle.yr_lexer.proofs.Basics.{before-is}
use Rattle.yr_lexer.proofs.FormLemmas.{form-length}
use Rattle.yr_lexer.proofs.GapLemmas.{HasFront, front-trans, Gap-front, gap-last, gap-trans}

abbrev pub Answer : Type 0
Answer = Result (List Token) LexFault

abbrev pub with_tokens : List Token → Answer → Answer
with_tokens xs (Ok ys) = Ok (xs ++ ys)
with_tokens xs (Err f) = Err f

-- Whatever the rest of the text has, after a gap that ends at this place, the whole text has, with the tokens before it.
pub record FromGap (whole : Text) (tokens : List Token) (after_equals : Bool) (line : ℕ) (place : Text) : Type 0 where
  pub no_piece : (rest : Text) → ¬ Piece place rest
  pub front : HasFront whole place
  pub here : line ≡ line_at whole place
  pub goes_on : (answer : Answer) → LexesFrom whole after_equals place answer → Lexes whole (with_tokens tokens answer)

gap-lexes : {whole : Text} {e : Bool} {t u : Text} {a : Answer} → Gap t u → LexesFrom whole e u a → LexesFrom whole e t a
gap-lexes g (nothing g') = nothing (gap-trans g g')
gap-lexes g (refused g' s f) = refused (gap-trans g g') s f
gap-lexes g (token g' s i l) = token (gap-trans g g') s i l

with-none : (a : Answer) → with_tokens [] a ≡ a
with-none (Ok xs) = refl
with-none (Err f) = refl

with-one : (before : List Token) (x : Token) (a : Answer) → with_tokens before (with_token x a) ≡ with_tokens (before ++ x ∷ []) a
with-one before x (Ok xs) = ap (λ (l : List Token). Ok l) (sym (append_assoc before (x ∷ []) xs))
with-one before x (Err f) = refl

-- ---- lines

pub feeds-append : (xs ys : Text) → feeds_in (xs ++ ys) ≡ feeds_in xs + feeds_in ys
feeds-append xs ys = sum_by-append (λ b. cond (b == 10) 1 0) xs ys

pub feeds-few : (xs : Text) → feeds_in xs ≤ length xs
feeds-few xs = count_by-le-length (λ b. b == 10) xs

front-within : (whole rest : Text) → HasFront whole rest → length rest ≤ length whole
front-within whole rest f = let l = ap (λ (x : Text). length x) f.1 ∙ length-append f.0 rest in omega arith

-- the line of a later rest
line-next : (whole t rest : Text) → HasFront whole t → HasFront t rest → line_at whole rest ≡ line_at whole t + feeds_in (before t rest)
line-next whole t rest f g =
    let h : whole ≡ (f.0 ++ g.0) ++ rest = f.1 ∙ ap (λ (x : Text). f.0 ++ x) g.1 ∙ sym (append_assoc f.0 g.0 rest) in
    let i : before whole rest ≡ f.0 ++ g.0 = before-is whole (f.0 ++ g.0) rest h in
    let j : before whole t ≡ f.0 = before-is whole f.0 t f.1 in
    let k : before t rest ≡ g.0 = before-is t g.0 rest g.1 in
    let l = feeds-append f.0 g.0 in
    let m = ap feeds_in i in
    let n = ap feeds_in j in
    let o = ap feeds_in k in
    omega arith

pub line-small : (whole rest : Text) → HasFront whole rest → line_at whole rest + length rest ≤ length whole + 1
line-small whole rest f =
    let j : before whole rest ≡ f.0 = before-is whole f.0 rest f.1 in
    let m = ap feeds_in j in
    let k = feeds-few f.0 in
    let l = ap (λ (x : Text). length x) f.1 ∙ length-append f.0 rest in
    omega arith

-- ---- the loop

not_empty : (t : Text) → (length t == 0) ≡ false → t ≢ []
not_empty [] h = absurd cc
not_empty (b ∷ t) h = λ e. cc

pub place-some : (t : Text) (r : Bool) → r ≡ (length t == 0) → r ≡ false → t ≢ []
place-some t r e n = not_empty t (sym e ∙ n)

pub starts : (whole place : Text) (line : ℕ) → Gap whole place → line ≡ 1 + feeds_in (take (length whole - length place) whole) → FromGap whole [] false line place
starts whole place line g e = record {
  no_piece = gap-last g;
  front = Gap-front g;
  here = let h : line ≡ feeds_in (before whole place) + 1 = omega arith in h;
  goes_on = λ a l. subst (Lexes whole) (sym (with-none a)) (gap-lexes g l);
}

pub explains : (whole : Text) (f : LexFault) → Lexes whole (Err f) → ExplainsLex whole f
explains whole (fault.Unclosed n) l = l
explains whole (fault.BadEscape n) l = l
explains whole (fault.Float n) l = l
explains whole (fault.BadByte n) l = l
explains whole (fault.TooLargeNumber n) l = l
explains whole (fault.LongName n) l = l
explains whole fault.NoMemory l = tt

pub refuses : (whole place : Text) (tokens : List Token) (e : Bool) (line : ℕ) (f : FaultRow) (g : LexFault) → FromGap whole tokens e line place → place ≢ []
    → IsFirstFault f e place → g ≡ fault_on f line → ExplainsLex whole g
refuses whole place tokens e line f g from some first same =
    explains whole g (subst (λ (x : LexFault). Lexes whole (Err x)) (sym (same ∙ ap (fault_on f) from.here))
    (from.goes_on (Err (fault_on f (line_at whole place))) (refused (ends from.no_piece) some first)))

token-front : (e : Bool) (t rest : Text) (k : TokenKind) → IsToken e t k rest → HasFront t rest
token-front e t rest k i = let f = i.longest.fits in (f.bytes, f.whole)

pub one-more : (whole place after next : Text) (tokens : List Token) (e e' : Bool) (line line' : ℕ) (k : TokenKind) (x : Token) → FromGap whole tokens e line place → place ≢ []
    → IsToken e place k after → Gap after next → x ≡ record { kind = k; line = line; from = length whole - length place; to = length whole - length after }
    → line' ≡ line + feeds_in (take (length place - length next) place) → e' ≡ is_equals (take (length place - length after) place)
    → FromGap whole (tokens ++ x ∷ []) e' line' next
one-more whole place after next tokens e e' line line' k x from some i g same later equals =
    let here = from.here in
    let p = front-trans place after next (token-front e place after k i) (Gap-front g) in
    let at = line-next whole place next from.front p in
    let own : x ≡ token_at whole k place after = same ∙ ap (λ (n : ℕ). record { kind = k; line = n; from = length whole - length place; to = length whole - length after }) here in
    record {
      no_piece = gap-last g;
      front = front-trans whole place next from.front p;
      here = let h : line' ≡ line_at whole next = omega arith in h;
      goes_on = λ a l. subst (Lexes whole) (with-one tokens x a)
          (subst (λ (y : Token). Lexes whole (with_tokens tokens (with_token y a))) (sym own)
          (from.goes_on (with_token (token_at whole k place after) a)
          (token (ends from.no_piece) some i (gap-lexes g (subst (λ (y : Bool). LexesFrom whole y next a) equals l)))));
    }

no_more : (t : Text) → (length t == 0) ≡ true → t ≡ []
no_more [] h = refl
no_more (b ∷ t) h = absurd (let n = eqb-true (length (b ∷ t)) 0 h in omega arith)

pub is-whole : (whole place : Text) (tokens : List Token) (e : Bool) (line : ℕ) (r : Bool) → FromGap whole tokens e line place → r ≡ (length place == 0) → r ≡ true → Lexes whole (Ok tokens)
is-whole whole place tokens e line r from h y =
    let z = no_more place (sym h ∙ y) in
    let g : Gap place [] = subst (λ (x : Text). Gap place x) z (ends from.no_piece) in
    subst (λ (l : List Token). Lexes whole (Ok l)) (append-nil tokens) (from.goes_on (Ok []) (nothing g))

form-some : (e : Bool) (t : Text) (k : TokenKind) (rest : Text) → Fits e t k rest → length rest < length t
form-some e t k rest f = let l = ap (λ (x : Text). length x) f.whole ∙ length-append f.bytes rest in let h = form-length e f.bytes k f.form in omega arith

pub falls : (place after next : Text) (e : Bool) (k : TokenKind) → IsToken e place k after → Gap after next → length next < length place
falls place after next e k i g =
    let h = form-some e place k after i.longest.fits in
    let f = Gap-front g in
    let l = ap (λ (x : Text). length x) f.1 ∙ length-append f.0 next in
    omega arith

pub gap-within : (t u : Text) → Gap t u → length u ≤ length t
gap-within t u g = front-within t u (Gap-front g)
