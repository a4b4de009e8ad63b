-- The path of an include, and the files and texts that code reads.
use Rattle.std.proofs.Common.{◌≡◌, ◌≢◌, ℕ, ◌+◌, ◌-◌, ◌≤◌, ◌<◌, Bool, true, false, ◌||◌, List, [], ◌∷◌, ◌++◌, length, take, drop, get_or, map, Some, Result, Ok, Err, string_bytes, refl, sym, ap, ◌∙◌, subst, append_assoc, length-append, take-append-drop, arith}
use Rattle.std.specs.Prelude.{not, slice_range, slice_get}
use Rattle.std.specs.Option.{option_map}
use Rattle.std.specs.Str.{is_utf8, IsUtf8, bytes_eq}
use Rattle.std.proofs.lemmas.Str.{IsUtf8-from_is_utf8, is_utf8-from_IsUtf8}
use Rattle.std.proofs.lemmas.List.{drop-drop, length-drop, length-take-le}
use Rattle.std.proofs.lemmas.Bool.{false≢true}
use Rattle.std.proofs.lemmas.Option.{slice_get-map, slice_get_read}
use Rattle.yr_lexer.specs.declared.token.TokenKind.{TokenKind}
use Rattle.yr_lexer.specs.declared.token.TokenKind.TheVariants as kind
use Rattle.yr_lexer.specs.declared.token.Token.{Token}
use Rattle.yr_lexer.specs.declared.source.SourceFile.{SourceFile}
use Rattle.yr_lexer.specs.declared.fault.LexFault.{LexFault}
use Rattle.yr_lexer.specs.declared.fault.LexFault.TheVariants as lex_fault
use Rattle.yr_lexer.specs.Gaps.{Text}
use Rattle.yr_lexer.specs.Texts.{Unescapes}
use Rattle.yr_lexer.specs.Forms.{HasGoodEscapes}
use Rattle.yr_lexer.specs.Tokens.{Lexes, ExplainsLex}
use Rattle.yr_lexer.specs.Sources.{file_of, text_at, LiesIn}
use Rattle.yr_lexer.specs.Includes.{is_empty, is_text_kind, inside_of, IsLexing, IsUnescaping}
use Rattle.yr_lexer.specs.OpenFiles.{name_at}
use Rattle.yr_lexer.proofs.Basics.{take-front}
use Rattle.yr_lexer.proofs.OneLemmas.{one-answer}

-- some UTF-8
pub name-good : (bytes : List ℕ) → IsUtf8 bytes → length bytes ≢ 0 → (is_empty bytes || not (is_utf8 bytes)) ≡ false
name-good [] u some = absurd (some refl)
name-good (b ∷ bs) u some = rw (is_utf8-from_IsUtf8 (b ∷ bs) u) refl

or-true : (b : Bool) → (b || true) ≡ true
or-true true = refl
or-true false = refl

pub name-bad : (bytes : List ℕ) → ¬ (IsUtf8 bytes) → (is_empty bytes || not (is_utf8 bytes)) ≡ true
name-bad bytes other = by_test (is_utf8 bytes) refl
  where
    by_test : (b : Bool) → is_utf8 bytes ≡ b → (is_empty bytes || not (is_utf8 bytes)) ≡ true
    by_test true e = absurd (other (IsUtf8-from_is_utf8 bytes e))
    by_test false e = rw e (or-true (is_empty bytes))

inner : (xs : Text) (n : ℕ) (inside : Text) (a b : ℕ) → n ≤ length xs → take n xs ≡ a ∷ (inside ++ b ∷ []) → take (n - 2) (drop 1 xs) ≡ inside
inner xs n inside a b within e =
    let h : xs ≡ a ∷ (inside ++ b ∷ drop n xs) = sym (take-append-drop n xs) ∙ ap (λ (l : Text). l ++ drop n xs) e ∙ ap (λ (l : Text). a ∷ l) (append_assoc inside (b ∷ []) (drop n xs)) in
    let d : drop 1 xs ≡ inside ++ b ∷ drop n xs = ap (drop 1) h in
    let l = ap (λ (v : Text). length v) e in
    let m = length-take-le n xs within in
    let o = length-append inside (b ∷ []) in
    let p : n - 2 ≡ length inside = omega arith in
    ap (λ k. take k (drop 1 xs)) p ∙ ap (take (length inside)) d ∙ take-front inside (b ∷ drop n xs)

only-text : (k : TokenKind) → is_text_kind k ≡ true → k ≡ kind.Text
only-text kind.Word e = absurd (false≢true e)
only-text kind.Reserved e = absurd (false≢true e)
only-text kind.StringName e = absurd (false≢true e)
only-text kind.StringWild e = absurd (false≢true e)
only-text kind.CountName e = absurd (false≢true e)
only-text kind.PlaceName e = absurd (false≢true e)
only-text kind.LengthName e = absurd (false≢true e)
only-text (kind.Number n) e = absurd (false≢true e)
only-text kind.Text e = refl
only-text (kind.Regex i d) e = absurd (false≢true e)
only-text kind.Hex e = absurd (false≢true e)
only-text kind.Sign e = absurd (false≢true e)

-- the bytes between the quotes of a text token have a meaning
pub inside-good : (text : Text) (t : Token) → LiesIn text t → is_text_kind t.kind ≡ true → (bytes : List ℕ) × Unescapes (inside_of text t) bytes
inside-good text t h e =
    let P : TokenKind → Type 0 = λ k. HasGoodEscapes k (slice_range text t.from t.to) in
    let g : HasGoodEscapes kind.Text (slice_range text t.from t.to) = subst P (only-text t.kind e) h.spelled.escapes in
    let a = h.ordered in
    let b = h.within in
    let l = length-drop t.from text in
    let s : inside_of text t ≡ g.0 =
    ap (λ n. take n (drop (t.from + 1) text)) (omega arith) ∙ ap (λ (x : Text). take (t.to - t.from - 2) x) (sym (drop-drop 1 t.from text ∙ ap (λ n. drop n text) (omega arith)))
    ∙ inner (drop t.from text) (t.to - t.from) g.0 34 34 (omega arith) g.2 in
    (g.1, subst (λ (x : Text). Unescapes x g.1) (sym s) g.3)

module _ (unescaped : List ℕ → List ℕ) (is : IsUnescaping unescaped) where
  pub meaning : (inside there bytes : List ℕ) → there ≡ inside → Unescapes there bytes → unescaped inside ≡ bytes
  meaning inside there bytes e h = ap unescaped (sym e) ∙ is there bytes h

-- the file of a number
module _ (files : List SourceFile) (n : ℕ) (x : SourceFile) (within : n < length files) (is : x ≡ get_or files n x) where
  file-here : slice_get (map file_of files) n ≡ Some (file_of x)
  file-here = slice_get-map file_of files n ∙ ap (option_map file_of) (slice_get_read files (length files) n x refl within is)

  pub name-here : name_at (map file_of files) n ≡ string_bytes x.name
  name-here = rw file-here refl

  pub text-here : text_at (map file_of files) n ≡ x.text.items
  text-here = rw file-here refl

-- a text with its tokens, or with its fault
module _ (lexed : Text → Result (List Token) LexFault) (is : IsLexing lexed) where
  pub lexed-here : (text there : Text) (tokens : List Token) → there ≡ text → Lexes there (Ok tokens) → lexed text ≡ Ok tokens
  lexed-here text there tokens e h = ap lexed (sym e) ∙ one-answer there (lexed there) (Ok tokens) (is there) h

  explained : (text : Text) (f : LexFault) → (f ≡ lex_fault.NoMemory → ⊥) → ExplainsLex text f → Lexes text (Err f)
  explained text (lex_fault.Unclosed n) known h = h
  explained text (lex_fault.BadEscape n) known h = h
  explained text (lex_fault.Float n) known h = h
  explained text (lex_fault.BadByte n) known h = h
  explained text (lex_fault.TooLargeNumber n) known h = h
  explained text (lex_fault.LongName n) known h = h
  explained text lex_fault.NoMemory known h = absurd (known refl)

  pub refused-here : (text there : Text) (f : LexFault) → there ≡ text → (f ≡ lex_fault.NoMemory → ⊥) → ExplainsLex there f → lexed text ≡ Err f
  refused-here text there f e known h = ap lexed (sym e) ∙ one-answer there (lexed there) (Err f) (is there) (explained there f known h)

-- whether the file of a number has a name
pub name-tested : (files : List SourceFile) (n : ℕ) (x : SourceFile) (found name : List ℕ) (r : Bool) → n < length files → x ≡ get_or files n x
    → found ≡ string_bytes (get_or files n x).name → r ≡ bytes_eq found name → bytes_eq (name_at (map file_of files) n) name ≡ r
name-tested files n x found name r within is e answer =
    ap (λ (l : List ℕ). bytes_eq l name) (name-here files n x within is ∙ ap (λ (y : SourceFile). string_bytes y.name) is ∙ sym e) ∙ sym answer
