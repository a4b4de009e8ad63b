-- Walks one after another, and what every walk has read.
use Rattle.std.proofs.Common.{◌≡◌, ℕ, zero, suc, Bool, true, false, cond, ◌&&◌, ◌||◌, List, [], ◌∷◌, ◌++◌, length, Option, Some, None, Result, Ok, Err, refl, sym, ap, ◌∙◌, append_assoc, append-nil}
use Rattle.std.specs.Prelude.{not, nat_lt}
use Rattle.std.specs.Str.{is_utf8}
use Rattle.yr_base.specs.Store.{Files}
use Rattle.yr_lexer.specs.declared.token.Token.{Token}
use Rattle.yr_lexer.specs.declared.source.FileToken.{FileToken}
use Rattle.yr_lexer.specs.declared.fault.LexFault.{LexFault}
use Rattle.yr_lexer.specs.Gaps.{Text}
use Rattle.yr_lexer.specs.Includes.{Walk, Walked, WalkFault, Lex, Read, Path, Cycle, Depth, TextTooLong, depth_limit, room_after, joined_name, with_file, with_read, stops, gathers, with_tokens, followed_by, is_name_among, is_empty, is_include, is_text_kind, inside_of, include_walk, token_walk, text_walk, name_walk, walk_down}

pub with_tokens-nil : (k : Walk) → with_tokens [] k ≡ k
with_tokens-nil k = by_answer k.answer k.after
  where
    by_answer : (a : Result (List FileToken) WalkFault) (w : Walked) → with_tokens [] (record { answer = a; after = w }) ≡ record { answer = a; after = w }
    by_answer (Ok ts) w = refl
    by_answer (Err f) w = refl

pub with_tokens-more : (front next : List FileToken) (k : Walk) → with_tokens (front ++ next) k ≡ with_tokens front (with_tokens next k)
with_tokens-more front next k = by_answer k.answer k.after
  where
    by_answer : (a : Result (List FileToken) WalkFault) (w : Walked)
        → with_tokens (front ++ next) (record { answer = a; after = w }) ≡ with_tokens front (with_tokens next (record { answer = a; after = w }))
    by_answer (Ok ts) w = ap (λ (l : List FileToken). gathers l w) (append_assoc front next ts)
    by_answer (Err f) w = refl

pub followed_by-tokens : (front : List FileToken) (k : Walk) (next : Walked → Walk) → followed_by (with_tokens front k) next ≡ with_tokens front (followed_by k next)
followed_by-tokens front k next = by_answer k.answer k.after
  where
    by_answer : (a : Result (List FileToken) WalkFault) (w : Walked)
        → followed_by (with_tokens front (record { answer = a; after = w })) next ≡ with_tokens front (followed_by (record { answer = a; after = w }) next)
    by_answer (Ok ts) w = with_tokens-more front ts (next w)
    by_answer (Err f) w = refl

pub followed_by-more : (k : Walk) (next last : Walked → Walk) → followed_by (followed_by k next) last ≡ followed_by k (λ w. followed_by (next w) last)
followed_by-more k next last = by_answer k.answer k.after
  where
    by_answer : (a : Result (List FileToken) WalkFault) (w : Walked)
        → followed_by (followed_by (record { answer = a; after = w }) next) last ≡ followed_by (record { answer = a; after = w }) (λ v. followed_by (next v) last)
    by_answer (Ok ts) w = followed_by-tokens ts (next w) last
    by_answer (Err f) w = refl

pub followed_by-end : (k : Walk) → followed_by k (gathers []) ≡ k
followed_by-end k = by_answer k.answer k.after
  where
    by_answer : (a : Result (List FileToken) WalkFault) (w : Walked) → followed_by (record { answer = a; after = w }) (gathers []) ≡ record { answer = a; after = w }
    by_answer (Ok ts) w = ap (λ (l : List FileToken). gathers l w) (append-nil ts)
    by_answer (Err f) w = refl

-- a walk that stopped stays so
pub stops-stays : (front : List FileToken) (why : WalkFault) (w : Walked) (next : Walked → Walk) → with_tokens front (followed_by (stops why w) next) ≡ stops why w
stops-stays front why w next = refl

-- the reads of a walk begin with these
abbrev pub Extends : List (List ℕ) → Walk → Type 0
Extends reads k = (more : List (List ℕ)) × (k.after.reads ≡ reads ++ more)

pub extends-same : (reads : List (List ℕ)) (k : Walk) → k.after.reads ≡ reads → Extends reads k
extends-same reads k e = ([], e ∙ sym (append-nil reads))

pub extends-less : (reads : List (List ℕ)) (name : List ℕ) (k : Walk) → Extends (reads ++ name ∷ []) k → Extends reads k
extends-less reads name k e = (name ∷ e.0, e.1 ∙ append_assoc reads (name ∷ []) e.0)

pub extends-tokens : (reads : List (List ℕ)) (front : List FileToken) (k : Walk) → Extends reads k → Extends reads (with_tokens front k)
extends-tokens reads front k e = e

pub extends-cond : (b : Bool) (reads : List (List ℕ)) (j k : Walk) → Extends reads j → Extends reads k → Extends reads (cond b j k)
extends-cond true reads j k x y = x
extends-cond false reads j k x y = y

abbrev pub Grows : (Walked → Walk) → Type 0
Grows next = (w : Walked) → Extends w.reads (next w)

extends-then : (reads : List (List ℕ)) (v : Walked) (k : Walk) → v.reads ≡ reads → Extends v.reads k → Extends reads k
extends-then reads v k e x = (x.0, x.1 ∙ ap (λ (l : List (List ℕ)). l ++ x.0) e)

extends-over : (reads : List (List ℕ)) (v : Walked) (k : Walk) → (more : List (List ℕ)) → v.reads ≡ reads ++ more → Extends v.reads k → Extends reads k
extends-over reads v k more e x = (more ++ x.0, x.1 ∙ ap (λ (l : List (List ℕ)). l ++ x.0) e ∙ append_assoc reads more x.0)

pub extends-followed : (reads : List (List ℕ)) (k : Walk) (next : Walked → Walk) → Extends reads k → Grows next → Extends reads (followed_by k next)
extends-followed reads k next x grows = by_answer k.answer k.after x
  where
    by_answer : (a : Result (List FileToken) WalkFault) (v : Walked) → Extends reads (record { answer = a; after = v }) → Extends reads (followed_by (record { answer = a; after = v }) next)
    by_answer (Ok ts) v y = extends-over reads v (next v) y.0 y.1 (grows v)
    by_answer (Err f) v y = y

module _ (lexed : Text → Result (List Token) LexFault) (unescaped : List ℕ → List ℕ) (files : Files) where
  pub token_walk-grows : (include : ℕ → List ℕ → Walked → Walk) → ((line : ℕ) (path : List ℕ) → Grows (include line path))
      → (number : ℕ) (text : Text) (ts : List Token) → Grows (token_walk lexed unescaped files include number text ts)
  token_walk-grows include grows number text [] w = extends-same w.reads (gathers [] w) refl
  token_walk-grows include grows number text (t ∷ []) w = extends-same w.reads (gathers (record { file = number; token = t } ∷ []) w) refl
  token_walk-grows include grows number text (t ∷ u ∷ ts) w =
      extends-cond (is_include text t && is_text_kind u.kind) w.reads _ _
      (extends-followed w.reads (include t.line (unescaped (inside_of text u)) w) (token_walk lexed unescaped files include number text ts) (grows t.line (unescaped (inside_of text u)) w)
      (token_walk-grows include grows number text ts))
      (extends-tokens w.reads (record { file = number; token = t } ∷ []) (token_walk lexed unescaped files include number text (u ∷ ts) w) (token_walk-grows include grows number text (u ∷ ts) w))

  pub include_walk-grows : (deeper : List ℕ → Walked → Walk) → ((name : List ℕ) → Grows (deeper name))
      → (being : List (List ℕ)) (including : List ℕ) (line : ℕ) (path : List ℕ) → Grows (include_walk lexed unescaped files deeper being including line path)
  include_walk-grows deeper grows being including line path w =
      extends-cond (is_empty path || not (is_utf8 path)) w.reads _ _ (extends-same w.reads (stops (Path including line) w) refl)
      (extends-cond (is_name_among (joined_name including path) being) w.reads _ _ (extends-same w.reads (stops (Cycle including line (joined_name including path)) w) refl)
      (extends-cond (nat_lt depth_limit (length being)) w.reads _ _ (extends-same w.reads (stops (Depth including line (joined_name including path)) w) refl)
      (grows (joined_name including path) w)))

  pub text_walk-refused : (deeper : List (List ℕ) → List ℕ → Walked → Walk) (outer : List (List ℕ)) (name : List ℕ) (text : Text) (w : Walked) (f : LexFault)
      → lexed text ≡ Err f → text_walk lexed unescaped files deeper outer name text w ≡ stops (Lex name f) (with_file (record { name = name; text = text }) w)
  text_walk-refused deeper outer name text w f e = rw e refl

  pub text_walk-lexed : (deeper : List (List ℕ) → List ℕ → Walked → Walk) (outer : List (List ℕ)) (name : List ℕ) (text : Text) (w : Walked) (tokens : List Token)
      → lexed text ≡ Ok tokens
      → text_walk lexed unescaped files deeper outer name text w
      ≡ token_walk lexed unescaped files (include_walk lexed unescaped files (deeper (name ∷ outer)) (name ∷ outer) name) (length w.files) text tokens (with_file (record { name = name; text = text }) w)
  text_walk-lexed deeper outer name text w tokens e = rw e refl

  pub name_walk-missing : (deeper : List (List ℕ) → List ℕ → Walked → Walk) (outer : List (List ℕ)) (name : List ℕ) (w : Walked)
      → files name ≡ None → name_walk lexed unescaped files deeper outer name w ≡ stops (Read name) (with_read name w)
  name_walk-missing deeper outer name w e = rw e refl

  pub name_walk-long : (deeper : List (List ℕ) → List ℕ → Walked → Walk) (outer : List (List ℕ)) (name : List ℕ) (w : Walked) (text : Text)
      → files name ≡ Some text → nat_lt (room_after w.files) (length text) ≡ true
      → name_walk lexed unescaped files deeper outer name w ≡ stops (TextTooLong name) (with_read name w)
  name_walk-long deeper outer name w text e long = rw e (rw long refl)

  pub name_walk-fits : (deeper : List (List ℕ) → List ℕ → Walked → Walk) (outer : List (List ℕ)) (name : List ℕ) (w : Walked) (text : Text)
      → files name ≡ Some text → nat_lt (room_after w.files) (length text) ≡ false
      → name_walk lexed unescaped files deeper outer name w ≡ text_walk lexed unescaped files deeper outer name text w
  name_walk-fits deeper outer name w text e fits = rw e (rw fits refl)

  module _ (deeper : List (List ℕ) → List ℕ → Walked → Walk) (grows : (outer : List (List ℕ)) (name : List ℕ) → Grows (deeper outer name)) where
    -- a walk over a file reads this file first
    pub text_walk-reads : (outer : List (List ℕ)) (name : List ℕ) (text : Text) (w : Walked) → Extends (w.reads ++ name ∷ []) (text_walk lexed unescaped files deeper outer name text w)
    text_walk-reads outer name text w = by_answer (lexed text) refl
      where
        by_answer : (a : Result (List Token) LexFault) → lexed text ≡ a → Extends (w.reads ++ name ∷ []) (text_walk lexed unescaped files deeper outer name text w)
        by_answer (Err f) e = rw (text_walk-refused deeper outer name text w f e) (extends-same (w.reads ++ name ∷ []) (stops (Lex name f) (with_file (record { name = name; text = text }) w)) refl)
        by_answer (Ok tokens) e =
            rw (text_walk-lexed deeper outer name text w tokens e)
            (token_walk-grows (include_walk lexed unescaped files (deeper (name ∷ outer)) (name ∷ outer) name)
            (include_walk-grows (deeper (name ∷ outer)) (grows (name ∷ outer)) (name ∷ outer) name) (length w.files) text tokens (with_file (record { name = name; text = text }) w))

    pub name_walk-reads : (outer : List (List ℕ)) (name : List ℕ) (w : Walked) → Extends (w.reads ++ name ∷ []) (name_walk lexed unescaped files deeper outer name w)
    name_walk-reads outer name w = by_file (files name) refl
      where
        by_length : (text : Text) → files name ≡ Some text → (b : Bool) → nat_lt (room_after w.files) (length text) ≡ b → Extends (w.reads ++ name ∷ []) (name_walk lexed unescaped files deeper outer name w)
        by_length text e true long = rw (name_walk-long deeper outer name w text e long) (extends-same (w.reads ++ name ∷ []) (stops (TextTooLong name) (with_read name w)) refl)
        by_length text e false fits = rw (name_walk-fits deeper outer name w text e fits) (text_walk-reads outer name text w)

        by_file : (o : Option Text) → files name ≡ o → Extends (w.reads ++ name ∷ []) (name_walk lexed unescaped files deeper outer name w)
        by_file None e = rw (name_walk-missing deeper outer name w e) (extends-same (w.reads ++ name ∷ []) (stops (Read name) (with_read name w)) refl)
        by_file (Some text) e = by_length text e (nat_lt (room_after w.files) (length text)) refl

  pub walk_down-more : (levels : ℕ) (outer : List (List ℕ)) (name : List ℕ) (w : Walked)
      → walk_down lexed unescaped files (suc levels) outer name w ≡ name_walk lexed unescaped files (walk_down lexed unescaped files levels) outer name w
  unfolding walk_down
  walk_down-more levels outer name w = refl

  pub walk_down-grows : (levels : ℕ) (outer : List (List ℕ)) (name : List ℕ) → Grows (walk_down lexed unescaped files levels outer name)
  unfolding walk_down
  walk_down-grows zero outer name w = extends-same w.reads (stops (Read name) w) refl
  walk_down-grows (suc levels) outer name w =
      extends-less w.reads name (name_walk lexed unescaped files (walk_down lexed unescaped files levels) outer name w)
      (name_walk-reads (walk_down lexed unescaped files levels) (walk_down-grows levels) outer name w)
