-- Walks from where some files are open.
use Rattle.std.proofs.Common.{◌≡◌, ℕ, suc, ◌-◌, ◌≤◌, ◌<◌, true, false, ◌||◌, List, [], ◌∷◌, ◌++◌, length, Option, Some, Result, Ok, Err, refl, sym, ap, ◌∙◌, subst, arith}
use Rattle.std.specs.Prelude.{not, nat_lt}
use Rattle.std.specs.Str.{is_utf8}
use Rattle.std.proofs.lemmas.Bool.{lt-ltb, le-ltb}
use Rattle.std.proofs.lemmas.List.{map-append}
use Rattle.yr_base.specs.Store.{Files}
use Rattle.yr_base.specs.Trace.{Entry}
use Rattle.yr_base.specs.Notes.{NotesAll, NotesSome}
use Rattle.yr_base.proofs.NoteLemmas.{NotesSome-of}
use Rattle.yr_lexer.specs.declared.token.Token.{Token}
use Rattle.yr_lexer.specs.declared.fault.LexFault.{LexFault}
use Rattle.yr_lexer.specs.Gaps.{Text}
use Rattle.yr_lexer.specs.Sources.{File}
use Rattle.yr_lexer.specs.Includes.{Walk, Walked, WalkFault, Lex, Path, Cycle, Depth, TextTooLong, depth_limit, room_after, joined_name, with_file, with_read, stops, gathers, followed_by, is_name_among, is_empty, include_walk, token_walk, text_walk, name_walk, walk_down}
use Rattle.yr_lexer.specs.OpenFiles.{OpenFile, open_names, levels_below, resume, entering, including, walked}
use Rattle.yr_lexer.proofs.WalkLemmas.{Extends, Grows, extends-same, extends-followed, token_walk-grows, include_walk-grows, walk_down-grows, walk_down-more, name_walk-reads, name_walk-long, name_walk-fits, text_walk-lexed, text_walk-refused}

pub walked-more : (files : List File) (f : File) → with_file f (walked files) ≡ walked (files ++ f ∷ [])
walked-more files f = ap (λ (r : List (List ℕ)). record { files = files ++ f ∷ []; reads = r }) (sym (map-append (λ (g : File). g.name) files (f ∷ [])))

levels-more : (n : ℕ) → n ≤ 16 → 17 - n ≡ suc (16 - n)
levels-more n h = omega arith

-- a walk that ends with a fault
pub refused-at : (walk : Walk) (why : WalkFault) (w : Walked) (reads : List (List ℕ)) → walk ≡ stops why w → w.reads ≡ reads
    → (start told : Option (List Entry)) → NotesAll start told reads → (walk.answer ≡ Err why) × NotesAll start told walk.after.reads
refused-at walk why w reads e r start told notes =
    (ap (λ (k : Walk). k.answer) e, subst (λ (l : List (List ℕ)). NotesAll start told l) (sym (ap (λ (k : Walk). k.after.reads) e ∙ r)) notes)

-- there was no memory
pub no-memory-at : (walk : Walk) (reads : List (List ℕ)) → Extends reads walk → (start told : Option (List Entry)) → NotesAll start told reads → NotesSome start told walk.after.reads
no-memory-at walk reads x start told notes = NotesSome-of start told reads x.0 walk.after.reads notes x.1

module _ (lexed : Text → Result (List Token) LexFault) (unescaped : List ℕ → List ℕ) (files : Files) where
  pub resume-grows : (stack : List OpenFile) → Grows (resume lexed unescaped files stack)
  resume-grows [] w = extends-same w.reads (gathers [] w) refl
  resume-grows (f ∷ fs) w =
      let deeper = walk_down lexed unescaped files (levels_below (f ∷ fs)) (open_names (f ∷ fs)) in
      let include = include_walk lexed unescaped files deeper (open_names (f ∷ fs)) f.name in
      extends-followed w.reads (token_walk lexed unescaped files include f.number f.text f.left w) (resume lexed unescaped files fs)
      (token_walk-grows lexed unescaped files include
      (include_walk-grows lexed unescaped files deeper (walk_down-grows lexed unescaped files (levels_below (f ∷ fs)) (open_names (f ∷ fs))) (open_names (f ∷ fs)) f.name)
      f.number f.text f.left w) (resume-grows fs)

  module _ (stack : List OpenFile) where
    pub entering-grows : (name : List ℕ) → Grows (entering lexed unescaped files stack name)
    entering-grows name w =
        extends-followed w.reads (walk_down lexed unescaped files (levels_below stack) (open_names stack) name w) (resume lexed unescaped files stack)
        (walk_down-grows lexed unescaped files (levels_below stack) (open_names stack) name w) (resume-grows stack)

    pub including-grows : (file : List ℕ) (line : ℕ) (path : List ℕ) → Grows (including lexed unescaped files stack file line path)
    including-grows file line path w =
        extends-followed w.reads (include_walk lexed unescaped files (walk_down lexed unescaped files (levels_below stack) (open_names stack)) (open_names stack) file line path w)
        (resume lexed unescaped files stack)
        (include_walk-grows lexed unescaped files (walk_down lexed unescaped files (levels_below stack) (open_names stack))
        (walk_down-grows lexed unescaped files (levels_below stack) (open_names stack)) (open_names stack) file line path w) (resume-grows stack)

    module _ (few : length stack ≤ 16) (name : List ℕ) (w : Walked) where
      entering-more : entering lexed unescaped files stack name w
          ≡ followed_by (name_walk lexed unescaped files (walk_down lexed unescaped files (16 - length stack)) (open_names stack) name w) (resume lexed unescaped files stack)
      entering-more =
          ap (λ n. followed_by (walk_down lexed unescaped files n (open_names stack) name w) (resume lexed unescaped files stack)) (levels-more (length stack) few)
          ∙ ap (λ (k : Walk). followed_by k (resume lexed unescaped files stack)) (walk_down-more lexed unescaped files (16 - length stack) (open_names stack) name w)

      -- the file is read first
      pub entering-reads : Extends (w.reads ++ name ∷ []) (entering lexed unescaped files stack name w)
      entering-reads =
          rw entering-more
          (extends-followed (w.reads ++ name ∷ []) (name_walk lexed unescaped files (walk_down lexed unescaped files (16 - length stack)) (open_names stack) name w) (resume lexed unescaped files stack)
          (name_walk-reads lexed unescaped files (walk_down lexed unescaped files (16 - length stack)) (walk_down-grows lexed unescaped files (16 - length stack)) (open_names stack) name w)
          (resume-grows stack))

      module _ (text : Text) (there : files name ≡ Some text) where
        pub entering-long : room_after w.files < length text → entering lexed unescaped files stack name w ≡ stops (TextTooLong name) (with_read name w)
        entering-long long =
            entering-more
            ∙ ap (λ (k : Walk). followed_by k (resume lexed unescaped files stack))
            (name_walk-long lexed unescaped files (walk_down lexed unescaped files (16 - length stack)) (open_names stack) name w text there (lt-ltb (room_after w.files) (length text) long))

        module _ (fits : length text ≤ room_after w.files) where
          entering-text : entering lexed unescaped files stack name w
              ≡ followed_by (text_walk lexed unescaped files (walk_down lexed unescaped files (16 - length stack)) (open_names stack) name text w) (resume lexed unescaped files stack)
          entering-text =
              entering-more
              ∙ ap (λ (k : Walk). followed_by k (resume lexed unescaped files stack))
              (name_walk-fits lexed unescaped files (walk_down lexed unescaped files (16 - length stack)) (open_names stack) name w text there (le-ltb (room_after w.files) (length text) fits))

          pub entering-refused : (f : LexFault) → lexed text ≡ Err f
              → entering lexed unescaped files stack name w ≡ stops (Lex name f) (with_file (record { name = name; text = text }) w)
          entering-refused f e =
              entering-text
              ∙ ap (λ (k : Walk). followed_by k (resume lexed unescaped files stack))
              (text_walk-refused lexed unescaped files (walk_down lexed unescaped files (16 - length stack)) (open_names stack) name text w f e)

          pub entering-opens : (tokens : List Token) → lexed text ≡ Ok tokens
              → entering lexed unescaped files stack name w
              ≡ resume lexed unescaped files (record { number = length w.files; name = name; text = text; left = tokens } ∷ stack) (with_file (record { name = name; text = text }) w)
          entering-opens tokens e =
              entering-text
              ∙ ap (λ (k : Walk). followed_by k (resume lexed unescaped files stack))
              (text_walk-lexed lexed unescaped files (walk_down lexed unescaped files (16 - length stack)) (open_names stack) name text w tokens e)
              ∙ ap (λ n. followed_by
              (token_walk lexed unescaped files (include_walk lexed unescaped files (walk_down lexed unescaped files n (name ∷ open_names stack)) (name ∷ open_names stack) name)
              (length w.files) text tokens (with_file (record { name = name; text = text }) w)) (resume lexed unescaped files stack)) (same-levels (length stack))
            where
              same-levels : (n : ℕ) → 16 - n ≡ 17 - suc n
              same-levels n = omega arith

    -- an include of each kind
    module _ (file : List ℕ) (line : ℕ) (path : List ℕ) (w : Walked) where
      pub including-path : (is_empty path || not (is_utf8 path)) ≡ true → including lexed unescaped files stack file line path w ≡ stops (Path file line) w
      including-path e = rw e refl

      module _ (named : (is_empty path || not (is_utf8 path)) ≡ false) where
        pub including-cycle : is_name_among (joined_name file path) (open_names stack) ≡ true
            → including lexed unescaped files stack file line path w ≡ stops (Cycle file line (joined_name file path)) w
        including-cycle e = rw named (rw e refl)

        module _ (closed : is_name_among (joined_name file path) (open_names stack) ≡ false) where
          pub including-depth : nat_lt depth_limit (length (open_names stack)) ≡ true
              → including lexed unescaped files stack file line path w ≡ stops (Depth file line (joined_name file path)) w
          including-depth e = rw named (rw closed (rw e refl))

          pub including-enters : nat_lt depth_limit (length (open_names stack)) ≡ false
              → including lexed unescaped files stack file line path w ≡ entering lexed unescaped files stack (joined_name file path) w
          including-enters e = rw named (rw closed (rw e refl))
