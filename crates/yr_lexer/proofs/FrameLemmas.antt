-- The tokens of one file, and the open files where more files are read.
use Rattle.std.proofs.Common.{◌≡◌, ℕ, zero, suc, ◌+◌, ◌≤◌, ◌<◌, Bool, true, false, ◌&&◌, ◌||◌, List, [], ◌∷◌, ◌++◌, length, take, drop, get_or, map, Option, Some, None, Result, refl, sym, ap, ◌∙◌, subst, length-append, append-nil, take-append-drop, arith}
use Rattle.std.specs.Prelude.{slice_get, All}
use Rattle.std.specs.Str.{bytes_eq}
use Rattle.std.specs.List.{list_any}
use Rattle.std.proofs.Math.ListN.{drop_of_length-le}
use Rattle.std.proofs.lemmas.List.{length-map}
use Rattle.std.proofs.lemmas.List.Folds.{list_any_at, list_any_more}
use Rattle.std.proofs.lemmas.Option.{none-some}
use Rattle.std.proofs.lemmas.List.Elements.{All-head, All-tail}
use Rattle.yr_base.specs.Store.{Files}
use Rattle.yr_lexer.specs.declared.token.Token.{Token}
use Rattle.yr_lexer.specs.declared.source.FileToken.{FileToken}
use Rattle.yr_lexer.specs.declared.source.SourceFile.{SourceFile}
use Rattle.yr_lexer.specs.declared.fault.LexFault.{LexFault}
use Rattle.yr_lexer.specs.declared.frame.Frame.{Frame}
use Rattle.yr_lexer.specs.declared.frame.Include.{Include}
use Rattle.yr_lexer.specs.Gaps.{Text}
use Rattle.yr_lexer.specs.Sources.{File, file_of, text_at, LiesIn, LiesInFile}
use Rattle.yr_lexer.specs.Includes.{Walk, Walked, with_tokens, followed_by, is_name_among, is_include, is_text_kind, inside_of, token_walk}
use Rattle.yr_lexer.specs.OpenFiles.{name_at, OpenFile, open_file, open_files, open_names, front_include, goes_on, LiesOpen}
use Rattle.yr_lexer.proofs.WalkLemmas.{with_tokens-more}

abbrev content : Include → Option Include → Include
content other None = other
content other (Some i) = i

module _ (number : ℕ) (text : Text) where
  -- a token at the front that begins no include
  pub plain-front : (t u : Token) (ts : List Token) → front_include number text (t ∷ u ∷ ts) ≡ None → is_include text t && is_text_kind u.kind ≡ false
  plain-front t u ts e = by_test (is_include text t && is_text_kind u.kind) refl
    where
      by_test : (b : Bool) → is_include text t && is_text_kind u.kind ≡ b → is_include text t && is_text_kind u.kind ≡ false
      by_test false h = h
      by_test true h = absurd (none-some (record { file = number; line = t.line; path = u }) (sym (rw h at e)))

  -- an include at the front, and its parts
  pub pair-front : (t u : Token) (ts : List Token) (i : Include) → front_include number text (t ∷ u ∷ ts) ≡ Some i
      → (is_include text t && is_text_kind u.kind ≡ true) × (record { file = number; line = t.line; path = u } ≡ i)
  pair-front t u ts i e = by_test (is_include text t && is_text_kind u.kind) refl
    where
      by_test : (b : Bool) → is_include text t && is_text_kind u.kind ≡ b → (is_include text t && is_text_kind u.kind ≡ true) × (record { file = number; line = t.line; path = u } ≡ i)
      by_test false h = absurd (none-some i (rw h at e))
      by_test true h = (h, ap (content (record { file = number; line = t.line; path = u })) (rw h at e))

  pub include-length : (ts : List Token) (i : Include) → front_include number text ts ≡ Some i → 2 ≤ length ts
  include-length [] i e = absurd (none-some i e)
  include-length (t ∷ []) i e = absurd (none-some i e)
  include-length (t ∷ u ∷ ts) i e = omega arith

  and-right : (a b : Bool) → a && b ≡ true → b ≡ true
  and-right true b h = h
  and-right false b h = absurd (false-not h)
    where
      false-not : false ≡ true → ⊥
      false-not e = grind arith

  -- what an include at the front carries
  pub include-lies : (ts : List Token) (i : Include) → front_include number text ts ≡ Some i → All (LiesIn text) ts
      → (i.file ≡ number) × LiesIn text i.path × (is_text_kind i.path.kind ≡ true)
  include-lies [] i e h = absurd (none-some i e)
  include-lies (t ∷ []) i e h = absurd (none-some i e)
  include-lies (t ∷ u ∷ ts) i e h =
      let p = pair-front t u ts i e in
      let lies = All-head (LiesIn text) u ts (All-tail (LiesIn text) t (u ∷ ts) h) in
      let P : Include → Type 0 = λ j. (j.file ≡ number) × LiesIn text j.path × (is_text_kind j.path.kind ≡ true) in
      subst P p.1 (refl, lies, and-right (is_include text t) (is_text_kind u.kind) p.0)

  module _ (lexed : Text → Result (List Token) LexFault) (unescaped : List ℕ → List ℕ) (files : Files) (include : ℕ → List ℕ → Walked → Walk) where
    pub walk-plain : (t : Token) (ts : List Token) (w : Walked) → front_include number text (t ∷ ts) ≡ None
        → token_walk lexed unescaped files include number text (t ∷ ts) w
        ≡ with_tokens (record { file = number; token = t } ∷ []) (token_walk lexed unescaped files include number text ts w)
    walk-plain t [] w e = refl
    walk-plain t (u ∷ ts) w e = rw (plain-front t u ts e) refl

    pub walk-include : (ts : List Token) (i : Include) (w : Walked) → front_include number text ts ≡ Some i
        → token_walk lexed unescaped files include number text ts w ≡ goes_on lexed unescaped files include number text (Some i) (drop 2 ts) w
    walk-include [] i w e = absurd (none-some i e)
    walk-include (t ∷ []) i w e = absurd (none-some i e)
    walk-include (t ∷ u ∷ ts) i w e =
        let p = pair-front t u ts i e in
        let P : Include → Type 0 = λ j. followed_by (include t.line (unescaped (inside_of text u)) w) (token_walk lexed unescaped files include number text ts)
        ≡ goes_on lexed unescaped files include number text (Some j) ts w in
        rw p.0 (subst P p.1 refl)

    -- one plain token is gathered
    pub one-plain : (front : List FileToken) (t : Token) (ts : List Token) (before : Walk) (w : Walked) → front_include number text (t ∷ ts) ≡ None
        → before ≡ with_tokens front (token_walk lexed unescaped files include number text (t ∷ ts) w)
        → before ≡ with_tokens (front ++ record { file = number; token = t } ∷ []) (token_walk lexed unescaped files include number text ts w)
    one-plain front t ts before w e so_far =
        so_far ∙ ap (with_tokens front) (walk-plain t ts w e)
        ∙ sym (with_tokens-more front (record { file = number; token = t } ∷ []) (token_walk lexed unescaped files include number text ts w))

same-place : (files more : List File) (n : ℕ) → n < length files → slice_get (files ++ more) n ≡ slice_get files n
same-place [] more n h = absurd (omega arith)
same-place (f ∷ files) more zero h = refl
same-place (f ∷ files) more (suc n) h = same-place files more n (omega arith)

last-place : (files : List File) (f : File) → slice_get (files ++ f ∷ []) (length files) ≡ Some f
last-place [] f = refl
last-place (g ∷ files) f = last-place files f

-- the text and the name of a file stay where more files are read
pub text_at-grown : (files more : List File) (n : ℕ) → n < length files → text_at (files ++ more) n ≡ text_at files n
text_at-grown files more n h = rw (same-place files more n h) refl

pub name_at-grown : (files more : List File) (n : ℕ) → n < length files → name_at (files ++ more) n ≡ name_at files n
name_at-grown files more n h = rw (same-place files more n h) refl

pub text_at-last : (files : List File) (f : File) → text_at (files ++ f ∷ []) (length files) ≡ f.text
text_at-last files f = rw (last-place files f) refl

pub name_at-last : (files : List File) (f : File) → name_at (files ++ f ∷ []) (length files) ≡ f.name
name_at-last files f = rw (last-place files f) refl

pub grown-length : (files : List File) (f : File) (n : ℕ) → n < length files → n < length (files ++ f ∷ [])
grown-length files f n h = let l = length-append files (f ∷ []) in omega arith

pub LiesInFile-grown : (files : List File) (f : File) (t : FileToken) → LiesInFile files t → LiesInFile (files ++ f ∷ []) t
LiesInFile-grown files f t h = record {
  there = grown-length files f t.file h.there;
  lies = rw (text_at-grown files (f ∷ []) t.file h.there) h.lies;
}

pub LiesOpen-grown : (files : List File) (f : File) (x : Frame) → LiesOpen files x → LiesOpen (files ++ f ∷ []) x
LiesOpen-grown files f x h = record {
  there = grown-length files f x.file h.there;
  within = h.within;
  lies = rw (text_at-grown files (f ∷ []) x.file h.there) h.lies;
}

pub All-more : {X : Type 0} (P Q : X → Type 0) → ((x : X) → P x → Q x) → (xs : List X) → All P xs → All Q xs
All-more P Q implies xs h = λ k d within. implies (get_or xs k d) (h k d within)

open_file-grown : (files more : List File) (f : Frame) → f.file < length files → open_file (files ++ more) f ≡ open_file files f
open_file-grown files more f h = rw (name_at-grown files more f.file h) (rw (text_at-grown files more f.file h) refl)

pub open_files-grown : (files more : List File) (fs : List Frame) → All (LiesOpen files) fs → open_files (files ++ more) fs ≡ open_files files fs
open_files-grown files more [] h = refl
open_files-grown files more (f ∷ fs) h =
    let first = All-head (LiesOpen files) f fs h in
    ap (λ (l : List OpenFile). l ++ open_file (files ++ more) f ∷ []) (open_files-grown files more fs (All-tail (LiesOpen files) f fs h))
    ∙ ap (λ (o : OpenFile). open_files files fs ++ o ∷ []) (open_file-grown files more f first.there)

pub open_files-push : (files : List File) (fs : List Frame) (f : Frame) → open_files files (fs ++ f ∷ []) ≡ open_file files f ∷ open_files files fs
open_files-push files [] f = refl
open_files-push files (g ∷ fs) f = ap (λ (l : List OpenFile). l ++ open_file files g ∷ []) (open_files-push files fs f)

pub open_files-length : (files : List File) (fs : List Frame) → length (open_files files fs) ≡ length fs
open_files-length files [] = refl
open_files-length files (f ∷ fs) = let e = open_files-length files fs in let l = length-append (open_files files fs) (open_file files f ∷ []) in omega arith

-- a name among those of the open files
among-last : (name : List ℕ) (fs : List OpenFile) (f : OpenFile) → is_name_among name (open_names (fs ++ f ∷ [])) ≡ (is_name_among name (open_names fs) || bytes_eq f.name name)
among-last name [] f = or-false (bytes_eq f.name name)
  where
    or-false : (b : Bool) → (b || false) ≡ (false || b)
    or-false true = refl
    or-false false = refl
among-last name (g ∷ fs) f = ap (λ (b : Bool). bytes_eq g.name name || b) (among-last name fs f) ∙ or-more (bytes_eq g.name name) (is_name_among name (open_names fs)) (bytes_eq f.name name)
  where
    or-more : (a b c : Bool) → (a || (b || c)) ≡ ((a || b) || c)
    or-more true b c = refl
    or-more false b c = refl

pub among-any : (files : List File) (name : List ℕ) (fs : List Frame) → is_name_among name (open_names (open_files files fs)) ≡ list_any (λ f. bytes_eq (name_at files f.file) name) fs
among-any files name [] = refl
among-any files name (f ∷ fs) = among-last name (open_files files fs) (open_file files f)
    ∙ ap (λ (b : Bool). b || bytes_eq (name_at files f.file) name) (among-any files name fs)
    ∙ or-swap (list_any (λ (g : Frame). bytes_eq (name_at files g.file) name) fs) (bytes_eq (name_at files f.file) name)
  where
    or-swap : (a b : Bool) → (a || b) ≡ (b || a)
    or-swap true true = refl
    or-swap true false = refl
    or-swap false true = refl
    or-swap false false = refl

-- a name is looked for among those of the open files
module _ (files : List SourceFile) (frames : List Frame) (name : List ℕ) (i : ℕ) (frame : Frame) (within : i < length frames) (is : frame ≡ get_or frames i frame) where
  pub open-there : All (LiesOpen (map file_of files)) frames → frame.file < length files
  open-there lies =
      let h : LiesOpen (map file_of files) frame = subst (λ (f : Frame). LiesOpen (map file_of files) f) (sym is) (lies i frame within) in
      let l = length-map files file_of in
      let t = h.there in
      omega arith

  pub found-open : bytes_eq (name_at (map file_of files) frame.file) name ≡ true → true ≡ is_name_among name (open_names (open_files (map file_of files) frames))
  found-open e =
      sym (among-any (map file_of files) name frames
      ∙ list_any_at (λ f. bytes_eq (name_at (map file_of files) f.file) name) frames i frame within
      (subst (λ (f : Frame). bytes_eq (name_at (map file_of files) f.file) name ≡ true) is e))

  pub none-more : list_any (λ f. bytes_eq (name_at (map file_of files) f.file) name) (take i frames) ≡ false → bytes_eq (name_at (map file_of files) frame.file) name ≡ false
      → list_any (λ f. bytes_eq (name_at (map file_of files) f.file) name) (take (i + 1) frames) ≡ false
  none-more so_far e =
      list_any_more (λ f. bytes_eq (name_at (map file_of files) f.file) name) frames i frame within
      ∙ ap (λ (b : Bool). b || bytes_eq (name_at (map file_of files) (get_or frames i frame).file) name) so_far
      ∙ subst (λ (f : Frame). bytes_eq (name_at (map file_of files) f.file) name ≡ false) is e

take-all : (frames : List Frame) (i : ℕ) → length frames ≤ i → take i frames ≡ frames
take-all frames i all = sym (append-nil (take i frames)) ∙ ap (λ (l : List Frame). take i frames ++ l) (sym (drop_of_length-le frames all)) ∙ take-append-drop i frames

pub none-open : (files : List File) (frames : List Frame) (name : List ℕ) (i : ℕ) → length frames ≤ i
    → list_any (λ f. bytes_eq (name_at files f.file) name) (take i frames) ≡ false → false ≡ is_name_among name (open_names (open_files files frames))
none-open files frames name i all e =
    sym (among-any files name frames ∙ subst (λ (l : List Frame). list_any (λ f. bytes_eq (name_at files f.file) name) l ≡ false) (take-all frames i all) e)
