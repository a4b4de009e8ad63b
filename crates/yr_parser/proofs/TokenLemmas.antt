-- The terminals from a token on.
use Rattle.std.proofs.Common.{◌≡◌, ℕ, zero, suc, ◌+◌, ◌-◌, ◌≤◌, Bool, true, false, if◌then◌else◌, List, [], ◌∷◌, ◌++◌, length, drop, take, map, Option, Some, None, refl, sym, ap, subst, ◌∙◌, ◌≢◌, ◌*◌, arith, rules, length-append, length-drop}
use Rattle.std.specs.Prelude.{slice_get, ℤ, pos, ◌≤ℤ◌, ◌==◌}
use Rattle.std.specs.Str.{bytes_eq}
use Rattle.std.proofs.lemmas.Int.{ints}
use Rattle.std.proofs.lemmas.Bool.Decides.{nat_tests}
use Rattle.yr_lexer.specs.declared.token.TokenKind.{TokenKind}
use Rattle.yr_lexer.specs.declared.token.TokenKind.TheVariants as kind
use Rattle.yr_lexer.specs.declared.source.FileToken.{FileToken}
use Rattle.yr_lexer.specs.Sources.{Gathered, spelling, text_of}
use Rattle.yr_lexer.specs.Forms.{IsSpelled}
use Rattle.yr_lexer.specs.Texts.{Unescapes, nothing, unit, Stands, itself, quote, backslash, tab, feed, carriage_return, code, digit_of}
use Rattle.yr_parser.specs.Spelling.{words, signs, lookup, known, escaped, unescaped, inside, spelled, terminal_of, terminals_of}
use Rattle.yr_parser.specs.Terminals.{Terminal, Terminals, Number, Text, Read, Flag, Operator, Sign}
use Rattle.yr_parser.specs.Input.{first, tail}

pub first-drop : {A : Type 0} (f : A → Terminal) (ts : List A) (at : ℕ) (t : A) → slice_get ts at ≡ Some t → first (drop at (map f ts)) ≡ Some (f t)
first-drop f [] at t e = absurd cc
first-drop f (x ∷ ts) zero t e = let same : x ≡ t = cc in ap (λ y. Some (f y)) same
first-drop f (x ∷ ts) (suc at) t e = first-drop f ts at t e

pub none-drop : {A : Type 0} (f : A → Terminal) (ts : List A) (at : ℕ) → slice_get ts at ≡ None → first (drop at (map f ts)) ≡ None
none-drop f [] zero e = refl
none-drop f [] (suc at) e = refl
none-drop f (x ∷ ts) zero e = absurd cc
none-drop f (x ∷ ts) (suc at) e = none-drop f ts at e

pub drop-tail : (at : ℕ) (k : Terminals) → drop (suc at) k ≡ tail (drop at k)
drop-tail zero [] = refl
drop-tail zero (t ∷ k) = refl
drop-tail (suc at) [] = refl
drop-tail (suc at) (t ∷ k) = drop-tail at k

pub drop-on : (at : ℕ) (k : Terminals) → drop (at + 1) k ≡ tail (drop at k)
drop-on at k = let e : at + 1 ≡ suc at = omega arith in ap (λ n. drop n k) e ∙ drop-tail at k

drop-all : (k : Terminals) (at : ℕ) → length k ≤ at → drop at k ≡ []
drop-all [] zero h = refl
drop-all [] (suc at) h = refl
drop-all (t ∷ k) zero h = absurd (omega arith)
drop-all (t ∷ k) (suc at) h = drop-all k at (omega arith)

map-length : {A : Type 0} (f : A → Terminal) (ts : List A) → length (map f ts) ≡ length ts
map-length f [] = refl
map-length f (t ∷ ts) = ap suc (map-length f ts)

pub drop-end : (at : ℕ) (g : Gathered) → length g.tokens ≤ at → drop at (terminals_of g) ≡ tail (drop at (terminals_of g))
drop-end at g h =
    let e = drop-all (terminals_of g) at (subst (λ (n : ℕ). n ≤ at) (sym (map-length (terminal_of g.files) g.tokens)) h) in e ∙ sym (ap tail e)

pub left-is : (at : ℕ) (g : Gathered) → length (drop at (terminals_of g)) ≡ length g.tokens - at
left-is at g = length-drop at (terminals_of g) ∙ ap (λ n. n - at) (map-length (terminal_of g.files) g.tokens)

text_of-some : (g : Gathered) (k : ℕ) (t : FileToken) → slice_get g.tokens k ≡ Some t → text_of g k ≡ spelling g.files t
text_of-some g k t e = rw e refl

pub lexeme-is : (g : Gathered) (at : ℕ) (t : FileToken) (w : List ℕ) (x : Terminal) → ◌≡◌ {A = Option FileToken} (Some t) (slice_get g.tokens at) → w ≡ text_of g at
    → x ≡ spelled w t.token.kind → ◌≡◌ {A = Option Terminal} (Some x) (first (drop at (terminals_of g)))
lexeme-is g at t w x e f h =
    ap (λ y. Some y) (h ∙ ap (λ v. spelled v t.token.kind) (f ∙ text_of-some g at t (sym e))) ∙ sym (first-drop (terminal_of g.files) g.tokens at t (sym e))

-- the token that a first terminal comes from
some-at : {A : Type 0} (f : A → Terminal) (ts : List A) (at : ℕ) (t : Terminal) → first (drop at (map f ts)) ≡ Some t → (u : A) × (slice_get ts at ≡ Some u) × (f u ≡ t)
some-at f [] zero t e = absurd cc
some-at f [] (suc at) t e = absurd cc
some-at f (x ∷ ts) zero t e = let same : f x ≡ t = cc in (x, refl, same)
some-at f (x ∷ ts) (suc at) t e = some-at f ts at t e

pub there : (g : Gathered) (at : ℕ) (t : Terminal) → first (drop at (terminals_of g)) ≡ Some t → slice_get g.tokens at ≡ None → ⊥
there g at t e n = let h = none-drop (terminal_of g.files) g.tokens at n in cc

-- ---- texts and numbers

unfoldable pub is_fixed : Terminal → Bool
is_fixed (Read r) = true
is_fixed (Flag b) = true
is_fixed (Operator o) = true
is_fixed (Sign s) = true
is_fixed _ = false

unfoldable pub all_fixed : List (List ℕ × Terminal) → Bool
all_fixed [] = true
all_fixed (r ∷ rs) = if is_fixed r.1 then all_fixed rs else false

pick-fixed : (b : Bool) (t : Terminal) (rest : Option Terminal) → is_fixed t ≡ true → is_fixed (known rest) ≡ true → is_fixed (known (if b then Some t else rest)) ≡ true
pick-fixed true t rest h h' = h
pick-fixed false t rest h h' = h'

both-fixed : (b : Bool) (c : Bool) → (if b then c else false) ≡ true → (b ≡ true) × (c ≡ true)
both-fixed true c e = (refl, e)
both-fixed false c e = absurd cc

pub known-fixed : (w : List ℕ) (rows : List (List ℕ × Terminal)) → all_fixed rows ≡ true → is_fixed (known (lookup w rows)) ≡ true
unfolding is_fixed all_fixed
known-fixed w [] e = refl
known-fixed w (r ∷ rs) e =
    let b = both-fixed (is_fixed r.1) (all_fixed rs) e in pick-fixed (bytes_eq r.0 w) r.1 (lookup w rs) b.0 (known-fixed w rs b.1)

pub words-fixed : all_fixed words ≡ true
unfolding all_fixed is_fixed
words-fixed = refl

pub signs-fixed : all_fixed signs ≡ true
unfolding all_fixed is_fixed
signs-fixed = refl

no-fixed : (t : Terminal) (u : Terminal) → is_fixed u ≡ true → u ≡ t → is_fixed t ≡ false → ⊥
no-fixed t u e f h = let same = ap is_fixed f in cc

spelled-text : (w : List ℕ) (k : TokenKind) (t : List ℕ) → spelled w k ≡ Text t → (k ≡ kind.Text) × (unescaped (inside 1 w) ≡ t)
unfolding is_fixed
spelled-text w kind.Text t e = let same : unescaped (inside 1 w) ≡ t = cc in (refl, same)
spelled-text w kind.Reserved t e = absurd (no-fixed (Text t) (known (lookup w words)) (known-fixed w words words-fixed) e refl)
spelled-text w kind.Sign t e = absurd (no-fixed (Text t) (known (lookup w signs)) (known-fixed w signs signs-fixed) e refl)
spelled-text w _ t e = absurd cc

spelled-number : (w : List ℕ) (k : TokenKind) (n : ℤ) → spelled w k ≡ Number n → k ≡ kind.Number n
unfolding is_fixed
spelled-number w (kind.Number m) n e = let same : m ≡ n = cc in ap (λ i. kind.Number i) same
spelled-number w kind.Reserved n e = absurd (no-fixed (Number n) (known (lookup w words)) (known-fixed w words words-fixed) e refl)
spelled-number w kind.Sign n e = absurd (no-fixed (Number n) (known (lookup w signs)) (known-fixed w signs signs-fixed) e refl)
spelled-number w _ n e = absurd cc

-- the bytes of a token that gives a text or a number
record Comes (g : Gathered) (at : ℕ) (w : List ℕ) (k : TokenKind) : Type 0 where
  token : FileToken
  there_it_is : slice_get g.tokens at ≡ Some token
  bytes : spelling g.files token ≡ w
  kind_is : token.token.kind ≡ k

pub text-form : (g : Gathered) (at : ℕ) (w : List ℕ) (t : List ℕ) → first (drop at (terminals_of g)) ≡ Some (Text t) → w ≡ text_of g at
    → ((u : FileToken) → slice_get g.tokens at ≡ Some u → IsSpelled w u.token.kind) → IsSpelled w kind.Text × (unescaped (inside 1 w) ≡ t)
text-form g at w t e f s =
    let a = some-at (terminal_of g.files) g.tokens at (Text t) e in
    let same = f ∙ text_of-some g at a.0 a.1 in
    let h = spelled-text w a.0.token.kind t (ap (λ v. spelled v a.0.token.kind) same ∙ a.2) in
    (subst (λ (k : TokenKind). IsSpelled w k) h.0 (s a.0 a.1), h.1)

pub number-natural : (g : Gathered) (at : ℕ) (w : List ℕ) (n : ℤ) → first (drop at (terminals_of g)) ≡ Some (Number n) → w ≡ text_of g at
    → ((u : FileToken) → slice_get g.tokens at ≡ Some u → IsSpelled w u.token.kind) → pos 0 ≤ℤ n
number-natural g at w n e f s =
    let a = some-at (terminal_of g.files) g.tokens at (Number n) e in
    let same = f ∙ text_of-some g at a.0 a.1 in
    let h = spelled-number w a.0.token.kind n (ap (λ v. spelled v a.0.token.kind) same ∙ a.2) in
    let form = subst (λ (k : TokenKind). IsSpelled w k) h (s a.0 a.1) in
    subst (λ (i : ℤ). pos 0 ≤ℤ i) (sym form.form.1) (zero-le form.form.0)
  where
    zero-le : (v : ℕ) → pos 0 ≤ℤ pos v
    zero-le v = omega (arith, ints)

-- ---- escapes

take-front : (xs : List ℕ) (y : ℕ) → take (length xs) (xs ++ y ∷ []) ≡ xs
take-front [] y = refl
take-front (x ∷ xs) y = ap (λ ys. x ∷ ys) (take-front xs y)

pub inside-quoted : (q : ℕ) (xs : List ℕ) (y : ℕ) → inside 1 (q ∷ (xs ++ y ∷ [])) ≡ xs
inside-quoted q xs y =
    let e : length (q ∷ (xs ++ y ∷ [])) - 1 ≡ length (q ∷ xs) = simp length-append (omega arith) in
    ap (λ n. drop 1 (take n (q ∷ (xs ++ y ∷ [])))) e ∙ ap (λ ys. drop 1 (q ∷ ys)) (take-front xs y)

eqb-false : (b : ℕ) → b ≢ 92 → (b == 92) ≡ false
eqb-false b h = search (rules, nat_tests)

unescaped-plain : (b : ℕ) (t : List ℕ) → b ≢ 92 → unescaped (b ∷ t) ≡ b ∷ unescaped t
unfolding unescaped
unescaped-plain b [] h = refl
unescaped-plain b (c ∷ []) h = rw (eqb-false b h) refl
unescaped-plain b (c ∷ d ∷ []) h = rw (eqb-false b h) refl
unescaped-plain b (c ∷ d ∷ e ∷ t) h = rw (eqb-false b h) refl

unescaped-pair : (c : ℕ) (t : List ℕ) → (c == 120) ≡ false → unescaped (92 ∷ c ∷ t) ≡ escaped c ∷ unescaped t
unfolding unescaped
unescaped-pair c [] h = refl
unescaped-pair c (d ∷ []) h = refl
unescaped-pair c (d ∷ e ∷ t) h = rw h refl

unescaped-code : (h l : ℕ) (t : List ℕ) → unescaped (92 ∷ 120 ∷ h ∷ l ∷ t) ≡ (16 * digit_of h + digit_of l) ∷ unescaped t
unfolding unescaped
unescaped-code h l t = refl

stands-unescaped : {t more : List ℕ} {b : ℕ} → Stands t b more → unescaped t ≡ b ∷ unescaped more
stands-unescaped (itself {b = b} {t = t} n q e) = unescaped-plain b t e
stands-unescaped (quote {t = t}) = unescaped-pair 34 t refl
stands-unescaped (backslash {t = t}) = unescaped-pair 92 t refl
stands-unescaped (tab {t = t}) = unescaped-pair 116 t refl
stands-unescaped (feed {t = t}) = unescaped-pair 110 t refl
stands-unescaped (carriage_return {t = t}) = unescaped-pair 114 t refl
stands-unescaped (code {h = h} {l = l} {t = t} x y) = unescaped-code h l t

unescaped-empty : unescaped [] ≡ []
unfolding unescaped
unescaped-empty = refl

pub unescaped-is : (t bytes : List ℕ) → Unescapes t bytes → unescaped t ≡ bytes
unescaped-is t bytes nothing = unescaped-empty
unescaped-is t bytes (unit {more = more} {b = b} {bytes = rest} s u) = stands-unescaped s ∙ ap (λ ys. b ∷ ys) (unescaped-is more rest u)

-- the inside of a text has a meaning
pub text-unescapes : (w : List ℕ) → IsSpelled w kind.Text → (bytes : List ℕ) × Unescapes (inside 1 w) bytes
text-unescapes w s =
    let e = s.escapes in
    (e.1, subst (λ (t : List ℕ). Unescapes t e.1) (sym (ap (inside 1) e.2 ∙ inside-quoted 34 e.0 34)) e.3)

pub ruleset token_rules = (first-drop, none-drop)

pub ruleset cursor_rules = (drop-on, drop-end, left-is)
