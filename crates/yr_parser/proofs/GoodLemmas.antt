-- Gathered tokens are good terminals.
use Rattle.std.proofs.Common.{◌≡◌, ℕ, zero, suc, ◌-◌, ◌+◌, ◌≤◌, ◌<◌, ◌^◌, true, List, [], ◌∷◌, ◌++◌, length, drop, take, map, refl, sym, ap, subst, ◌∙◌, arith, length-append}
use Rattle.std.specs.Prelude.{All, slice_range}
use Rattle.std.proofs.lemmas.List.{length-drop, length-take}
use Rattle.yr_base.specs.Bytes.{is_word_byte}
use Rattle.yr_lexer.specs.declared.token.TokenKind.{TokenKind}
use Rattle.yr_lexer.specs.declared.token.TokenKind.TheVariants as kind
use Rattle.yr_lexer.specs.declared.source.FileToken.{FileToken}
use Rattle.yr_lexer.specs.Sources.{File, Gathered, spelling, LiesInFile}
use Rattle.yr_lexer.specs.Forms.{IsSpelled}
use Rattle.yr_syntax.specs.Forms.{Each, IsName, IsShortText}
use Rattle.yr_parser.specs.Terminals.{Terminal, Read, Flag, Operator, Sign}
use Rattle.yr_parser.specs.Good.{IsGood, AreGood}
use Rattle.yr_parser.specs.Spelling.{words, signs, lookup, known, inside, flag_length, spelled, terminal_of, terminals_of}
use Rattle.yr_parser.proofs.TokenLemmas.{is_fixed, known-fixed, words-fixed, signs-fixed, inside-quoted}

fixed-good : (t : Terminal) → is_fixed t ≡ true → IsGood t
unfolding is_fixed
fixed-good (Read r) e = tt
fixed-good (Flag b) e = tt
fixed-good (Operator o) e = tt
fixed-good (Sign s) e = tt
fixed-good _ e = absurd cc

all-each : {A : Type 0} (P : A → Type 0) (xs : List A) → All P xs → Each P xs
all-each P [] h = tt
all-each P (x ∷ xs) h = (h zero x (omega arith), all-each P xs (λ k d lt. h (suc k) d (omega arith)))

take-all : (xs : List ℕ) → take (length xs) xs ≡ xs
take-all [] = refl
take-all (x ∷ xs) = ap (λ ys. x ∷ ys) (take-all xs)

inside-named : (b : ℕ) (xs : List ℕ) → inside 0 (b ∷ xs) ≡ xs
inside-named b xs =
    let e : length (b ∷ xs) - 0 ≡ length (b ∷ xs) = omega arith in
    ap (λ n. drop 1 (take n (b ∷ xs))) e ∙ ap (λ ys. drop 1 (b ∷ ys)) (take-all xs)

named-good : (b : ℕ) (w name : List ℕ) → w ≡ b ∷ name → All (λ c. is_word_byte c ≡ true) name → length w - 1 ≤ 128 → IsName (inside 0 w)
named-good b w name e a h =
    let same : inside 0 w ≡ name = ap (inside 0) e ∙ inside-named b name in
    let long : length w ≡ suc (length name) = ap length e in
    subst IsName (sym same) (all-each (λ c. is_word_byte c ≡ true) name a, omega arith)

wild-good : (w name : List ℕ) → w ≡ 36 ∷ (name ++ 42 ∷ []) → All (λ c. is_word_byte c ≡ true) name → length w - 2 ≤ 128 → IsName (inside 1 w)
wild-good w name e a h =
    let same : inside 1 w ≡ name = ap (inside 1) e ∙ inside-quoted 36 name 42 in
    let long : length w ≡ suc (length (name ++ 42 ∷ [])) = ap length e in
    let more = length-append name (42 ∷ []) in
    subst IsName (sym same) (all-each (λ c. is_word_byte c ≡ true) name a, omega arith)

inside-short : (ends : ℕ) (w : List ℕ) → IsShortText w → IsShortText (inside ends w)
inside-short ends w h =
    let d = length-drop 1 (take (length w - ends) w) in
    let t = length-take (length w - ends) w in
    omega arith

range-short : (text : List ℕ) (from to : ℕ) → to < 2 ^ 32 → IsShortText (slice_range text from to)
range-short text from to h = let t = length-take (to - from) (drop from text) in omega arith

spelled-good : (w : List ℕ) (k : TokenKind) → IsSpelled w k → IsShortText w → IsGood (spelled w k)
spelled-good w kind.Word s h = (s.form.0, s.form.1, s.short)
spelled-good w kind.Reserved s h = fixed-good (known (lookup w words)) (known-fixed w words words-fixed)
spelled-good w kind.StringName s h = named-good 36 w s.form.0 s.form.1 s.form.2 s.short
spelled-good w kind.StringWild s h = wild-good w s.form.0 s.form.1 s.form.2 s.short
spelled-good w kind.CountName s h = named-good 35 w s.form.0 s.form.1 s.form.2 s.short
spelled-good w kind.PlaceName s h = named-good 64 w s.form.0 s.form.1 s.form.2 s.short
spelled-good w kind.LengthName s h = named-good 33 w s.form.0 s.form.1 s.form.2 s.short
spelled-good w kind.Sign s h = fixed-good (known (lookup w signs)) (known-fixed w signs signs-fixed)
spelled-good w (kind.Regex nocase dot_all) s h = inside-short (1 + flag_length nocase dot_all) w h
spelled-good w kind.Hex s h = inside-short 1 w h
spelled-good w _ s h = tt

files-good : (files : List File) (ts : List FileToken) → All (LiesInFile files) ts → AreGood (map (terminal_of files) ts)
files-good files [] h = tt
files-good files (t ∷ ts) h =
    let lies = h zero t (omega arith) in
    (spelled-good (spelling files t) t.token.kind lies.lies.spelled (range-short _ t.token.from t.token.to lies.lies.small), files-good files ts (λ k d lt. h (suc k) d (omega arith)))

pub gathered-good : (g : Gathered) → All (LiesInFile g.files) g.tokens → AreGood (terminals_of g)
gathered-good g h = files-good g.files g.tokens h
