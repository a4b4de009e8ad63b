-- What callers of `lex` use of its tokens.
use Rattle.std.proofs.Common.{◌≡◌, ℕ, ◌-◌, ◌<◌, ◌≤◌, ◌^◌, Bool, true, List, [], ◌∷◌, ◌++◌, length, take, drop, Result, Ok, Err, refl, sym, ap, subst, ◌∙◌, inl, inr, arith, length-append, append_assoc}
use Rattle.std.specs.Prelude.{All, slice_range}
use Rattle.std.proofs.lemmas.List.Elements.{All-nil, All-cons}
use Rattle.yr_base.specs.Words.{name_limit}
use Rattle.yr_lexer.specs.declared.token.TokenKind.{TokenKind}
use Rattle.yr_lexer.specs.declared.token.TokenKind.TheVariants as kind
use Rattle.yr_lexer.specs.declared.token.Token.{Token}
use Rattle.yr_lexer.specs.declared.fault.LexFault.{LexFault}
use Rattle.yr_lexer.specs.declared.fault.FaultRow.TheVariants as row
use Rattle.yr_lexer.specs.Gaps.{Text}
use Rattle.yr_lexer.specs.Forms.{HasForm, HasGoodEscapes, IsSpelled, name_length}
use Rattle.yr_lexer.specs.Faults.{IsBadEscape}
use Rattle.yr_lexer.specs.Tokens.{IsToken, token_at, with_token, LexesFrom, Lexes, nothing, refused, token}
use Rattle.yr_lexer.specs.Sources.{LiesIn}
use Rattle.yr_lexer.proofs.Basics.{take-front}
use Rattle.yr_lexer.proofs.EscapeLemmas.{IsDecided, decided}
use Rattle.yr_lexer.proofs.GapLemmas.{HasFront, front-trans, Gap-front}
use Rattle.yr_lexer.proofs.FormLemmas.{form-length}

-- how many tokens an answer has
abbrev Answer : Type 0
Answer = Result (List Token) LexFault

abbrev FewIn : ℕ → Answer → Type 0
FewIn n (Ok xs) = length xs ≤ n
FewIn n (Err f) = Unit {0}

few-next : (n m : ℕ) (x : Token) (a : Answer) → m < n → FewIn m a → FewIn n (with_token x a)
few-next n m x (Ok xs) h f = omega arith
few-next n m x (Err g) h f = tt

front-length : (t rest : Text) → HasFront t rest → length rest ≤ length t
front-length t rest f = let l = ap (λ (x : Text). length x) f.1 ∙ length-append f.0 rest in omega arith

token-length : (e : Bool) (t rest : Text) (k : TokenKind) → IsToken e t k rest → length rest < length t
token-length e t rest k i =
    let f = i.longest.fits in
    let l = ap (λ (x : Text). length x) f.whole ∙ length-append f.bytes rest in
    let h = form-length e f.bytes k f.form in
    omega arith

few-from : {whole : Text} {e : Bool} {t : Text} {a : Answer} → LexesFrom whole e t a → FewIn (length t) a
few-from (nothing g) = omega arith
few-from (refused g n f) = tt
few-from {whole = whole} (token {after_equals = e} {t = t} {u = u} {rest = r} {k = k} {answer = a} g n i l) =
    let h = few-from l in
    let m = token-length e u r k i in
    let o = front-length t u (Gap-front g) in
    few-next (length t) (length r) (token_at whole k u r) a (omega arith) h

-- there are at most as many tokens as bytes
pub lexes-few : (text : Text) (tokens : List Token) → Lexes text (Ok tokens) → length tokens ≤ length text
lexes-few text tokens l = few-from l

-- a form does not depend on the token before
pub form-any : (e : Bool) (w : Text) (k : TokenKind) → HasForm e w k → HasForm true w k
form-any e w kind.Word f = f
form-any e w kind.Reserved f = f
form-any e w kind.StringName f = f
form-any e w kind.StringWild f = f
form-any e w kind.CountName f = f
form-any e w kind.PlaceName f = f
form-any e w kind.LengthName f = f
form-any e w (kind.Number n) f = f
form-any e w kind.Text f = f
form-any e w (kind.Regex i s) f = f
form-any e w kind.Hex f = (refl, f.1, f.2, f.3)
form-any e w kind.Sign f = f

-- ---- each token lies in the text, with the form of its kind

good-text : (a : Bool) (w u rest : Text) → u ≡ w ++ rest → HasForm a w kind.Text → ¬ IsBadEscape u → HasGoodEscapes kind.Text w
good-text a w u rest e f n = go (decided f.0)
  where
    whole : u ≡ 34 ∷ (f.0 ++ 34 ∷ rest)
    whole = e ∙ ap (λ (x : Text). x ++ rest) f.1 ∙ ap (λ (x : Text). 34 ∷ x) (append_assoc f.0 (34 ∷ []) rest)

    go : IsDecided f.0 → HasGoodEscapes kind.Text w
    go (inl g) = (f.0, g.0, f.1, g.1)
    go (inr h) = absurd (n (record { inside = f.0; rest = rest; whole = whole; units = f.2; bad = h }))

good-escapes : (a : Bool) (w u rest : Text) (k : TokenKind) → u ≡ w ++ rest → HasForm a w k → ¬ IsBadEscape u → HasGoodEscapes k w
good-escapes a w u rest kind.Text e f n = good-text a w u rest e f n
good-escapes a w u rest kind.Word e f n = tt
good-escapes a w u rest kind.Reserved e f n = tt
good-escapes a w u rest kind.StringName e f n = tt
good-escapes a w u rest kind.StringWild e f n = tt
good-escapes a w u rest kind.CountName e f n = tt
good-escapes a w u rest kind.PlaceName e f n = tt
good-escapes a w u rest kind.LengthName e f n = tt
good-escapes a w u rest (kind.Number m) e f n = tt
good-escapes a w u rest (kind.Regex i s) e f n = tt
good-escapes a w u rest kind.Hex e f n = tt
good-escapes a w u rest kind.Sign e f n = tt

short-name : (a : Bool) (u rest w : Text) (k : TokenKind) → u ≡ w ++ rest → IsToken a u k rest → name_length k (length w) ≤ name_limit
short-name a u rest w k e i = not_more (name_length k (length w)) long
  where
    here : length u - length rest ≡ length w
    here = let l = ap (λ (x : Text). length x) e ∙ length-append w rest in omega arith

    long : ¬ (name_limit < name_length k (length w))
    long h = i.no_fault row.LongName (k, rest, i.longest, subst (λ (x : ℕ). name_limit < name_length k x) (sym here) h)

    not_more : (n : ℕ) → ¬ (name_limit < n) → n ≤ name_limit
    not_more n h = omega arith

drop-front : (w rest : Text) → drop (length w) (w ++ rest) ≡ rest
drop-front [] rest = refl
drop-front (b ∷ w) rest = drop-front w rest

-- the bytes of a text between two of its rests
range-is : (whole v u w rest : Text) → whole ≡ v ++ u → u ≡ w ++ rest → slice_range whole (length whole - length u) (length whole - length rest) ≡ w
range-is whole v u w rest e f =
    let l = ap (λ (x : Text). length x) e ∙ length-append v u in
    let m = ap (λ (x : Text). length x) f ∙ length-append w rest in
    let from : length whole - length u ≡ length v = omega arith in
    let count : (length whole - length rest) - (length whole - length u) ≡ length w = omega arith in
    let at : drop (length whole - length u) whole ≡ u = ap (λ (n : ℕ). drop n whole) from ∙ ap (λ (x : Text). drop (length v) x) e ∙ drop-front v u in
    ap (λ (n : ℕ). take n (drop (length whole - length u) whole)) count ∙ ap (λ (x : Text). take (length w) x) (at ∙ f) ∙ take-front w rest

token-lies : (whole u rest : Text) (a : Bool) (k : TokenKind) → length whole < 2 ^ 32 → HasFront whole u → IsToken a u k rest → LiesIn whole (token_at whole k u rest)
token-lies whole u rest a k few f i =
    let g = i.longest.fits in
    let l = ap (λ (x : Text). length x) f.1 ∙ length-append f.0 u in
    let m = ap (λ (x : Text). length x) g.whole ∙ length-append g.bytes rest in
    record {
      ordered = omega arith;
      within = omega arith;
      small = omega arith;
      spelled = subst (λ (w : Text). IsSpelled w k) (sym (range-is whole f.0 u g.bytes rest f.1 g.whole)) (record {
        form = form-any a g.bytes k g.form;
        escapes = good-escapes a g.bytes u rest k g.whole g.form (i.no_fault row.BadEscape);
        short = short-name a u rest g.bytes k g.whole i;
      });
    }

abbrev LieIn : Text → Answer → Type 0
LieIn whole (Ok xs) = All (LiesIn whole) xs
LieIn whole (Err f) = Unit {0}

lie-next : (whole : Text) (x : Token) (a : Answer) → LiesIn whole x → LieIn whole a → LieIn whole (with_token x a)
lie-next whole x (Ok xs) h l = All-cons (LiesIn whole) x xs h l
lie-next whole x (Err f) h l = tt

lie-from : {whole : Text} {e : Bool} {t : Text} {a : Answer} → LexesFrom whole e t a → length whole < 2 ^ 32 → HasFront whole t → LieIn whole a
lie-from {whole = whole} (nothing g) few f = All-nil (LiesIn whole)
lie-from (refused g n p) few f = tt
lie-from {whole = whole} (token {after_equals = e} {t = t} {u = u} {rest = r} {k = k} {answer = a} g n i l) few f =
    let h = front-trans whole t u f (Gap-front g) in
    let m = i.longest.fits in
    let o = front-trans whole u r h (m.bytes, m.whole) in
    lie-next whole (token_at whole k u r) a (token-lies whole u r e k few h i) (lie-from l few o)

-- each token lies in the text, with the form of its kind there
pub lexes-lie : (text : Text) (tokens : List Token) → length text < 2 ^ 32 → Lexes text (Ok tokens) → All (LiesIn text) tokens
lexes-lie text tokens few l = lie-from l few ([], refl)
