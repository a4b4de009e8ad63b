-- The tokens that one file has given so far.
use Rattle.std.proofs.Common.{◌≡◌, ℕ, ◌+◌, ◌≤◌, ◌<◌, true, List, [], ◌∷◌, ◌++◌, length, drop, get_or, Some, None, Result, refl, sym, ap, ◌∙◌, subst, arith, length-drop}
use Rattle.std.specs.Prelude.{All}
use Rattle.std.proofs.Math.ListN.{drop_of_length-le}
use Rattle.std.proofs.lemmas.List.{drop_more, drop-drop}
use Rattle.std.proofs.lemmas.List.Elements.{All-nil, All-cons, All-append, All-drop}
use Rattle.yr_base.specs.Store.{Files}
use Rattle.yr_lexer.specs.declared.token.Token.{Token}
use Rattle.yr_lexer.specs.declared.source.FileToken.{FileToken}
use Rattle.yr_lexer.specs.declared.fault.LexFault.{LexFault}
use Rattle.yr_lexer.specs.declared.frame.Frame.{Frame}
use Rattle.yr_lexer.specs.declared.frame.Include.{Include}
use Rattle.yr_lexer.specs.Gaps.{Text}
use Rattle.yr_lexer.specs.Sources.{File, text_at, LiesIn, LiesInFile}
use Rattle.yr_lexer.specs.Includes.{Walk, Walked, with_tokens, is_text_kind, token_walk}
use Rattle.yr_lexer.specs.OpenFiles.{left_of, front_include, goes_on}
use Rattle.yr_lexer.proofs.FrameLemmas.{walk-include, one-plain, include-length, include-lies}

-- a file was gathered up to some token, and these are the tokens before and after
pub record Passes (text : Text) (old now : Frame) (before after : List FileToken) : Type 0 where
  pub file : now.file ≡ old.file
  pub same : now.tokens.items ≡ old.tokens.items
  pub later : old.at ≤ now.at
  pub within : now.at ≤ length old.tokens.items
  pub gathered : (files : List File) → old.file < length files → text_at files old.file ≡ text → All (LiesInFile files) before → All (LiesInFile files) after
  pub walk : (lexed : Text → Result (List Token) LexFault) (unescaped : List ℕ → List ℕ) (files : Files) (include : ℕ → List ℕ → Walked → Walk) (w : Walked)
      → with_tokens before (token_walk lexed unescaped files include old.file text (left_of old) w) ≡ with_tokens after (token_walk lexed unescaped files include old.file text (left_of now) w)

pub passes-none : (text : Text) (old : Frame) (before : List FileToken) → old.at ≤ length old.tokens.items → Passes text old old before before
passes-none text old before within = record {
  file = refl;
  same = refl;
  later = omega arith;
  within = within;
  gathered = λ files there texts lies. lies;
  walk = λ lexed unescaped files include w. refl;
}

module _ (text : Text) (old x y : Frame) (before after : List FileToken) (t : Token) where
  left-more : t ≡ get_or x.tokens.items x.at t → y.tokens.items ≡ x.tokens.items → y.at ≡ x.at + 1 → x.at < length x.tokens.items → left_of x ≡ t ∷ left_of y
  left-more is same moved there =
      drop_more x.tokens.items x.at t there ∙ ap (λ (v : Token). v ∷ drop (x.at + 1) x.tokens.items) (sym is)
      ∙ ap (λ (l : List Token). t ∷ drop (x.at + 1) l) (sym same) ∙ ap (λ n. t ∷ drop n y.tokens.items) (sym moved)

  -- one more plain token
  pub passes-one : t ≡ get_or x.tokens.items x.at t → y.file ≡ x.file → y.tokens.items ≡ x.tokens.items → y.at ≡ x.at + 1 → x.at < length x.tokens.items
      → front_include x.file text (left_of x) ≡ None → All (LiesIn text) old.tokens.items → Passes text old x before after
      → Passes text old y before (after ++ record { file = x.file; token = t } ∷ [])
  passes-one is file same moved there plain lies p =
      let e = left-more is same moved there in
      let front : front_include x.file text (t ∷ left_of y) ≡ None = (rw e at plain) in
      let lies_here : LiesIn text t = rw is (subst (λ (l : List Token). LiesIn text (get_or l x.at t)) (sym p.same) (lies x.at t (subst (λ (l : List Token). x.at < length l) p.same there))) in
      record {
        file = file ∙ p.file;
        same = same ∙ p.same;
        later = let l = p.later in omega arith;
        within = let l = subst (λ (l : List Token). x.at < length l) p.same there in omega arith;
        gathered = λ files inside texts sofar.
            All-append (LiesInFile files) after (record { file = x.file; token = t } ∷ []) (p.gathered files inside texts sofar)
            (All-cons (LiesInFile files) (record { file = x.file; token = t }) [] (record {
              there = subst (λ n. n < length files) (sym p.file) inside;
              lies = subst (λ n. LiesIn (text_at files n) t) (sym p.file) (subst (λ (v : Text). LiesIn v t) (sym texts) lies_here);
            }) (All-nil (LiesInFile files)));
        walk = λ lexed unescaped files include w.
            subst (λ n. with_tokens before (token_walk lexed unescaped files include old.file text (left_of old) w)
            ≡ with_tokens (after ++ record { file = n; token = t } ∷ []) (token_walk lexed unescaped files include old.file text (left_of y) w)) (sym p.file)
            (one-plain old.file text lexed unescaped files include after t (left_of y) (with_tokens before (token_walk lexed unescaped files include old.file text (left_of old) w)) w
            (subst (λ n. front_include n text (t ∷ left_of y) ≡ None) p.file front)
            (p.walk lexed unescaped files include w ∙ ap (λ (l : List Token). with_tokens after (token_walk lexed unescaped files include old.file text l w)) e));
      }

module _ (text : Text) (old x : Frame) (before after : List FileToken) (p : Passes text old x before after) where
  pub passes-left : All (LiesIn text) old.tokens.items → All (LiesIn text) (left_of x)
  passes-left lies = All-drop (LiesIn text) x.at x.tokens.items (subst (λ (v : List Token). All (LiesIn text) v) (sym p.same) lies)

  -- no token is left
  pub passes-end : (lexed : Text → Result (List Token) LexFault) (unescaped : List ℕ → List ℕ) (files : Files) (include : ℕ → List ℕ → Walked → Walk) (w : Walked)
      → left_of x ≡ [] → with_tokens before (token_walk lexed unescaped files include old.file text (left_of old) w)
      ≡ with_tokens after (goes_on lexed unescaped files include old.file text None (left_of x) w)
  passes-end lexed unescaped files include w e =
      p.walk lexed unescaped files include w ∙ ap (λ (l : List Token). with_tokens after (token_walk lexed unescaped files include old.file text l w)) e

  module _ (i : Include) (e : front_include x.file text (left_of x) ≡ Some i) (y : Frame) (same : y.tokens.items ≡ x.tokens.items) (moved : y.at ≡ x.at + 2) where
    left-two : drop 2 (left_of x) ≡ left_of y
    left-two = drop-drop 2 x.at x.tokens.items ∙ ap (λ n. drop n x.tokens.items) (omega arith) ∙ ap (λ (l : List Token). drop y.at l) (sym same)

    -- an include was passed
    pub passes-include : (lexed : Text → Result (List Token) LexFault) (unescaped : List ℕ → List ℕ) (files : Files) (include : ℕ → List ℕ → Walked → Walk) (w : Walked)
        → with_tokens before (token_walk lexed unescaped files include old.file text (left_of old) w)
        ≡ with_tokens after (goes_on lexed unescaped files include old.file text (Some i) (left_of y) w)
    passes-include lexed unescaped files include w =
        p.walk lexed unescaped files include w
        ∙ ap (with_tokens after) (walk-include old.file text lexed unescaped files include (left_of x) i w (subst (λ n. front_include n text (left_of x) ≡ Some i) p.file e))
        ∙ ap (λ (l : List Token). with_tokens after (goes_on lexed unescaped files include old.file text (Some i) l w)) left-two

    pub passes-within : x.at + 2 ≤ length x.tokens.items
    passes-within = let a = include-length x.file text (left_of x) i e in let b = length-drop x.at x.tokens.items in omega arith

    pub passes-lies : All (LiesIn text) old.tokens.items → (i.file ≡ old.file) × LiesIn text i.path × (is_text_kind i.path.kind ≡ true)
    passes-lies lies =
        let h = include-lies x.file text (left_of x) i e (passes-left lies) in
        (h.0 ∙ p.file, h.1, h.2)

    pub passes-fewer : length (left_of y) + 2 ≤ length (left_of old)
    passes-fewer =
        let a = length-drop y.at y.tokens.items in
        let b = length-drop old.at old.tokens.items in
        let m = ap (λ (l : List Token). length l) (same ∙ p.same) in
        let n = ap (λ (l : List Token). length l) p.same in
        let q = passes-within in
        let l = p.later in
        omega arith

pub left-none : (f : Frame) (n : ℕ) → n ≡ length f.tokens.items → n ≤ f.at → left_of f ≡ []
left-none f n e h = drop_of_length-le f.tokens.items (omega arith)
