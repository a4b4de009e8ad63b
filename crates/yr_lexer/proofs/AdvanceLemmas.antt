-- The steps of gathering in the innermost open file.
use Rattle.std.proofs.Common.{◌≡◌, ℕ, ◌+◌, ◌≤◌, ◌<◌, Bool, true, false, List, [], ◌∷◌, ◌++◌, length, get_or, map, Option, Some, None, Result, Ok, Err, string_bytes, refl, sym, ap, ◌∙◌, subst, append-nil, length-append, arith}
use Rattle.std.specs.Prelude.{All, sum_by}
use Rattle.std.specs.declared.alloc.Global.{Global}
use Rattle.std.specs.declared.string.String.{String}
use Rattle.std.proofs.lemmas.Bool.{lt-ltb, le-ltb}
use Rattle.std.proofs.lemmas.List.{length-map}
use Rattle.std.proofs.lemmas.List.Sums.{sum_by-append}
use Rattle.std.proofs.lemmas.List.Elements.{All-nil, All-cons, All-head, All-tail, All-append}
use Rattle.yr_base.specs.Store.{Files}
use Rattle.yr_base.specs.Trace.{Entry}
use Rattle.yr_base.specs.Notes.{NotesAll, NotesSome}
use Rattle.yr_base.proofs.NoteLemmas.{NotesAll-none, NotesSome-of}
use Rattle.yr_lexer.specs.declared.token.Token.{Token}
use Rattle.yr_lexer.specs.declared.source.FileToken.{FileToken}
use Rattle.yr_lexer.specs.declared.source.SourceFile.{SourceFile}
use Rattle.yr_lexer.specs.declared.fault.LexFault.{LexFault}
use Rattle.yr_lexer.specs.declared.fault.GatherFault.{GatherFault}
use Rattle.yr_lexer.specs.declared.fault.GatherFault.TheVariants as fault
use Rattle.yr_lexer.specs.declared.frame.Frame.{Frame}
use Rattle.yr_lexer.specs.declared.frame.Include.{Include}
use Rattle.yr_lexer.specs.declared.gathering.Gathering.{Gathering}
use Rattle.yr_lexer.specs.Gaps.{Text}
use Rattle.yr_lexer.specs.Sources.{File, file_of, text_at, LiesInFile}
use Rattle.yr_lexer.specs.Includes.{Walk, Walked, Path, Cycle, Depth, room_after, joined_name, stops, gathers, with_tokens, followed_by, is_name_among, inside_of, include_walk, token_walk, walk_down, walk_of}
use Rattle.yr_lexer.specs.Gathering.{FitsFault, FitsWalk}
use Rattle.yr_lexer.specs.OpenFiles.{OpenFile, open_file, open_files, open_names, levels_below, goes_on, resume, entering, including, walked, names_of, name_at, left_of, files_in, open_in, walk_from, walk_with, walk_into, walk_at, Refuses, Leads, LiesOpen, IsGathering, work_left, FitsPath}
use Rattle.yr_lexer.proofs.WalkLemmas.{with_tokens-nil, followed_by-tokens, followed_by-more, followed_by-end, Extends}
use Rattle.yr_lexer.proofs.FrameLemmas.{open_files-push, open_files-length}
use Rattle.yr_lexer.proofs.PathLemmas.{name-here, text-here}
use Rattle.yr_lexer.proofs.StateLemmas.{refused-at, no-memory-at, including-grows, including-path, including-cycle, including-depth, including-enters, resume-grows}

All-last : {X : Type 0} (P : X → Type 0) (xs : List X) (x : X) → All P (xs ++ x ∷ []) → P x
All-last P [] x h = All-head P x [] h
All-last P (y ∷ xs) x h = All-last P xs x (All-tail P y (xs ++ x ∷ []) h)

All-front : {X : Type 0} (P : X → Type 0) (xs ys : List X) → All P (xs ++ ys) → All P xs
All-front P [] ys h = All-nil P
All-front P (x ∷ xs) ys h = All-cons P x xs (All-head P x (xs ++ ys) h) (All-front P xs ys (All-tail P x (xs ++ ys) h))

names-length : (s : Gathering) → length (open_names (open_in s)) ≡ length s.frames.items
names-length s = length-map (open_in s) (λ (f : OpenFile). f.name) ∙ open_files-length (files_in s) s.frames.items

module _ (lexed : Text → Result (List Token) LexFault) (unescaped : List ℕ → List ℕ) (files : Files) (s : Gathering) (i : Include) where
  pub at-grows : Extends (names_of (files_in s)) (walk_at lexed unescaped files i s)
  at-grows = including-grows lexed unescaped files (open_in s) (name_at (files_in s) i.file) i.line (unescaped (inside_of (text_at (files_in s) i.file) i.path)) (walked (files_in s))

  -- there was no memory
  pub at-no-memory : (told : Option (List Entry)) → Refuses (walk_at lexed unescaped files i s) (names_of (files_in s)) fault.NoMemory told told
  at-no-memory told = λ start notes. no-memory-at (walk_at lexed unescaped files i s) (names_of (files_in s)) at-grows start told notes

  module _ (x : SourceFile) (within : i.file < length s.files.items) (is : x ≡ get_or s.files.items i.file x) where
    at-here : walk_at lexed unescaped files i s
        ≡ with_tokens s.tokens.items (including lexed unescaped files (open_in s) (string_bytes x.name) i.line (unescaped (inside_of x.text.items i.path)) (walked (files_in s)))
    at-here =
        ap (λ (n : List ℕ). with_tokens s.tokens.items
        (including lexed unescaped files (open_in s) n i.line (unescaped (inside_of (text_at (files_in s) i.file) i.path)) (walked (files_in s)))) (name-here s.files.items i.file x within is)
        ∙ ap (λ (t : Text). with_tokens s.tokens.items (including lexed unescaped files (open_in s) (string_bytes x.name) i.line (unescaped (inside_of t i.path)) (walked (files_in s))))
        (text-here s.files.items i.file x within is)

    -- the path is no name
    pub at-path : (why : GatherFault) → FitsPath (unescaped (inside_of x.text.items i.path)) (string_bytes x.name) i.line (Err why) → (told : Option (List Entry))
        → Refuses (walk_at lexed unescaped files i s) (names_of (files_in s)) why told told
    at-path (fault.Lex f e) h told = absurd h
    at-path (fault.Read n) h told = absurd h
    at-path (fault.Path f l) h told = λ start notes.
        refused-at (walk_at lexed unescaped files i s) (Path (string_bytes f) l) (walked (files_in s)) (names_of (files_in s))
        (at-here ∙ ap (with_tokens s.tokens.items)
        (including-path lexed unescaped files (open_in s) (string_bytes x.name) i.line (unescaped (inside_of x.text.items i.path)) (walked (files_in s)) h.2)
        ∙ ap (λ (n : List ℕ). stops (Path n i.line) (walked (files_in s))) (sym h.0) ∙ ap (λ n. stops (Path (string_bytes f) n) (walked (files_in s))) (sym h.1))
        refl start told notes
    at-path (fault.Cycle f l n) h told = absurd h
    at-path (fault.Depth f l n) h told = absurd h
    at-path (fault.TextTooLong n) h told = absurd h
    at-path fault.NoMemory h told = at-no-memory told

    module _ (path : String Global) (fits : FitsPath (unescaped (inside_of x.text.items i.path)) (string_bytes x.name) i.line (Ok path)) (name : String Global) (from by : List ℕ)
        (joined : string_bytes name ≡ joined_name from by) (from_is : from ≡ string_bytes x.name) (by_is : by ≡ string_bytes path) where
      joined-here : joined_name (string_bytes x.name) (unescaped (inside_of x.text.items i.path)) ≡ string_bytes name
      joined-here =
          ap (joined_name (string_bytes x.name)) (sym fits.0) ∙ ap (joined_name (string_bytes x.name)) (sym by_is) ∙ ap (λ (n : List ℕ). joined_name n by) (sym from_is) ∙ sym joined

      -- the file is open
      pub at-cycle : (file : String Global) → string_bytes file ≡ string_bytes x.name → is_name_among (string_bytes name) (open_names (open_in s)) ≡ true → (told : Option (List Entry))
          → Refuses (walk_at lexed unescaped files i s) (names_of (files_in s)) (fault.Cycle file i.line name) told told
      at-cycle file same among told = λ start notes.
          refused-at (walk_at lexed unescaped files i s) (Cycle (string_bytes file) i.line (string_bytes name)) (walked (files_in s)) (names_of (files_in s))
          (at-here ∙ ap (with_tokens s.tokens.items)
          (including-cycle lexed unescaped files (open_in s) (string_bytes x.name) i.line (unescaped (inside_of x.text.items i.path)) (walked (files_in s)) fits.1
          (subst (λ (n : List ℕ). is_name_among n (open_names (open_in s)) ≡ true) (sym joined-here) among))
          ∙ ap (λ (n : List ℕ). stops (Cycle (string_bytes x.name) i.line n) (walked (files_in s))) joined-here
          ∙ ap (λ (n : List ℕ). stops (Cycle n i.line (string_bytes name)) (walked (files_in s))) (sym same))
          refl start told notes

      module _ (closed : is_name_among (string_bytes name) (open_names (open_in s)) ≡ false) where
        closed-here : is_name_among (joined_name (string_bytes x.name) (unescaped (inside_of x.text.items i.path))) (open_names (open_in s)) ≡ false
        closed-here = subst (λ (n : List ℕ). is_name_among n (open_names (open_in s)) ≡ false) (sym joined-here) closed

        -- the file stands too deep
        pub at-depth : (file : String Global) → string_bytes file ≡ string_bytes x.name → 16 < length s.frames.items → (told : Option (List Entry))
            → Refuses (walk_at lexed unescaped files i s) (names_of (files_in s)) (fault.Depth file i.line name) told told
        at-depth file same deep told = λ start notes.
            refused-at (walk_at lexed unescaped files i s) (Depth (string_bytes file) i.line (string_bytes name)) (walked (files_in s)) (names_of (files_in s))
            (at-here ∙ ap (with_tokens s.tokens.items)
            (including-depth lexed unescaped files (open_in s) (string_bytes x.name) i.line (unescaped (inside_of x.text.items i.path)) (walked (files_in s)) fits.1 closed-here
            (lt-ltb 16 (length (open_names (open_in s))) (rw (names-length s) deep)))
            ∙ ap (λ (n : List ℕ). stops (Depth (string_bytes x.name) i.line n) (walked (files_in s))) joined-here
            ∙ ap (λ (n : List ℕ). stops (Depth n i.line (string_bytes name)) (walked (files_in s))) (sym same))
            refl start told notes

        -- the file may be entered
        pub at-enters : length s.frames.items ≤ 16 → walk_at lexed unescaped files i s ≡ walk_into lexed unescaped files (string_bytes name) s
        at-enters few =
            at-here ∙ ap (with_tokens s.tokens.items)
            (including-enters lexed unescaped files (open_in s) (string_bytes x.name) i.line (unescaped (inside_of x.text.items i.path)) (walked (files_in s)) fits.1 closed-here
            (le-ltb 16 (length (open_names (open_in s))) (rw (names-length s) few))
            ∙ ap (λ (n : List ℕ). entering lexed unescaped files (open_in s) n (walked (files_in s))) joined-here)

-- the innermost open file was gathered up to its end or to an include
module _ (lexed : Text → Result (List Token) LexFault) (unescaped : List ℕ → List ℕ) (files : Files) (s : Gathering) (f g : Frame) (tokens : List FileToken) (text : Text) (found : Option Include)
    (text_is : text ≡ text_at (files_in s) f.file)
    (passes : (include : ℕ → List ℕ → Walked → Walk) (w : Walked) → with_tokens s.tokens.items (token_walk lexed unescaped files include f.file text (left_of f) w)
    ≡ with_tokens tokens (goes_on lexed unescaped files include f.file text found (left_of g) w)) where
  -- what follows in the open file
  inside : ℕ → List ℕ → Walked → Walk
  inside = include_walk lexed unescaped files (walk_down lexed unescaped files (levels_below (open_file (files_in s) f ∷ open_in s)) (open_names (open_file (files_in s) f ∷ open_in s)))
      (open_names (open_file (files_in s) f ∷ open_in s)) (name_at (files_in s) f.file)

  passed-on : walk_with lexed unescaped files f s
      ≡ with_tokens tokens (followed_by (goes_on lexed unescaped files
      (include_walk lexed unescaped files (walk_down lexed unescaped files (levels_below (open_file (files_in s) f ∷ open_in s)) (open_names (open_file (files_in s) f ∷ open_in s)))
      (open_names (open_file (files_in s) f ∷ open_in s)) (name_at (files_in s) f.file))
      f.file (text_at (files_in s) f.file) found (left_of g) (walked (files_in s))) (resume lexed unescaped files (open_in s)))
  unfolding inside
  passed-on =
      sym (followed_by-tokens s.tokens.items (token_walk lexed unescaped files inside f.file (text_at (files_in s) f.file) (left_of f) (walked (files_in s))) (resume lexed unescaped files (open_in s)))
      ∙ ap (λ (k : Walk). followed_by k (resume lexed unescaped files (open_in s)))
      (subst (λ (t : Text). with_tokens s.tokens.items (token_walk lexed unescaped files inside f.file t (left_of f) (walked (files_in s)))
      ≡ with_tokens tokens (goes_on lexed unescaped files inside f.file t found (left_of g) (walked (files_in s)))) text_is (passes inside (walked (files_in s))))
      ∙ followed_by-tokens tokens (goes_on lexed unescaped files inside f.file (text_at (files_in s) f.file) found (left_of g) (walked (files_in s))) (resume lexed unescaped files (open_in s))

  pub walk-ended : found ≡ None → walk_with lexed unescaped files f s ≡ with_tokens tokens (resume lexed unescaped files (open_in s) (walked (files_in s)))
  unfolding inside
  walk-ended e =
      passed-on
      ∙ ap (λ (o : Option Include). with_tokens tokens (followed_by (goes_on lexed unescaped files inside f.file (text_at (files_in s) f.file) o (left_of g) (walked (files_in s))) (resume lexed unescaped files (open_in s)))) e
      ∙ ap (with_tokens tokens) (with_tokens-nil (resume lexed unescaped files (open_in s) (walked (files_in s))))

  module _ (i : Include) (is : found ≡ Some i) (file : i.file ≡ f.file) (same : g.file ≡ f.file) (u : Gathering) (files_are : u.files.items ≡ s.files.items) (tokens_are : u.tokens.items ≡ tokens)
      (frames_are : u.frames.items ≡ s.frames.items ++ g ∷ []) where
    stack-here : open_in u ≡ record { number = f.file; name = name_at (files_in s) f.file; text = text_at (files_in s) f.file; left = left_of g } ∷ open_in s
    stack-here =
        ap (λ (l : List SourceFile). open_files (map file_of l) u.frames.items) files_are ∙ ap (open_files (files_in s)) frames_are ∙ open_files-push (files_in s) s.frames.items g
        ∙ ap (λ n. record { number = n; name = name_at (files_in s) n; text = text_at (files_in s) n; left = left_of g } ∷ open_in s) same

    pub walk-included : walk_with lexed unescaped files f s ≡ walk_at lexed unescaped files i u
    unfolding inside
    walk-included =
        passed-on
        ∙ ap (λ (o : Option Include). with_tokens tokens (followed_by (goes_on lexed unescaped files inside f.file (text_at (files_in s) f.file) o (left_of g) (walked (files_in s))) (resume lexed unescaped files (open_in s)))) is
        ∙ ap (with_tokens tokens)
        (followed_by-more (inside i.line (unescaped (inside_of (text_at (files_in s) f.file) i.path)) (walked (files_in s)))
        (token_walk lexed unescaped files inside f.file (text_at (files_in s) f.file) (left_of g)) (resume lexed unescaped files (open_in s)))
        ∙ ap (λ n. with_tokens tokens
        (including lexed unescaped files (record { number = f.file; name = name_at (files_in s) f.file; text = text_at (files_in s) f.file; left = left_of g } ∷ open_in s)
        (name_at (files_in s) n) i.line (unescaped (inside_of (text_at (files_in s) n) i.path)) (walked (files_in s)))) (sym file)
        ∙ ap (λ (l : List OpenFile). with_tokens tokens
        (including lexed unescaped files l (name_at (files_in s) i.file) i.line (unescaped (inside_of (text_at (files_in s) i.file) i.path)) (walked (files_in s)))) (sym stack-here)
        ∙ ap (λ (l : List FileToken). with_tokens l
        (including lexed unescaped files (open_in u) (name_at (files_in s) i.file) i.line (unescaped (inside_of (text_at (files_in s) i.file) i.path)) (walked (files_in s)))) (sym tokens_are)
        ∙ ap (λ (l : List SourceFile). with_tokens u.tokens.items
        (including lexed unescaped files (open_in u) (name_at (map file_of l) i.file) i.line (unescaped (inside_of (text_at (map file_of l) i.file) i.path)) (walked (map file_of l)))) (sym files_are)

-- whether the file of a name is open
pub among-here : (s : Gathering) (name : String Global) (found : List ℕ) (fs : List SourceFile) (frames : List Frame) (r : Bool)
    → r ≡ is_name_among found (open_names (open_files (map file_of fs) frames)) → found ≡ string_bytes name → fs ≡ s.files.items → frames ≡ s.frames.items
    → is_name_among (string_bytes name) (open_names (open_in s)) ≡ r
among-here s name found fs frames r answer a b d =
    ap (λ (n : List ℕ). is_name_among n (open_names (open_in s))) (sym a)
    ∙ ap (λ (l : List SourceFile). is_name_among found (open_names (open_files (map file_of l) s.frames.items))) (sym b)
    ∙ ap (λ (l : List Frame). is_name_among found (open_names (open_files (map file_of fs) l))) (sym d) ∙ sym answer

module _ (s : Gathering) (f : Frame) (lies : LiesOpen (files_in s) f) where
  pub there-here : f.file < length s.files.items
  there-here = let a = lies.there in let l = length-map s.files.items file_of in omega arith

  pub text-is : (x : SourceFile) (text : Text) → x ≡ get_or s.files.items f.file x → text ≡ x.text.items → text ≡ text_at (files_in s) f.file
  text-is x text is e = e ∙ sym (text-here s.files.items f.file x there-here is)

-- there was no memory to go on in an open file
pub with-no-memory : (lexed : Text → Result (List Token) LexFault) (unescaped : List ℕ → List ℕ) (files : Files) (s : Gathering) (f : Frame) (told : Option (List Entry))
    → Refuses (walk_with lexed unescaped files f s) (names_of (files_in s)) fault.NoMemory told told
with-no-memory lexed unescaped files s f told = λ start notes.
    no-memory-at (walk_with lexed unescaped files f s) (names_of (files_in s)) (resume-grows lexed unescaped files (open_file (files_in s) f ∷ open_in s) (walked (files_in s))) start told notes

-- a state with more tokens
pub kept-gathering : (s t : Gathering) → IsGathering s → t.files.items ≡ s.files.items → t.frames.items ≡ s.frames.items → t.room ≡ s.room
    → All (LiesInFile (files_in s)) t.tokens.items → IsGathering t
kept-gathering s t ok files_are frames_are room_is lies = record {
  room = room_is ∙ ok.room ∙ ap (λ (l : List SourceFile). room_after (map file_of l)) (sym files_are);
  few = rw frames_are ok.few;
  lies = rw files_are lies;
  open_lies = rw (files_are, frames_are) ok.open_lies;
}

-- a state with more tokens, and with the innermost file open again
pub opened-gathering : (s t : Gathering) (g : Frame) → IsGathering s → length s.frames.items ≤ 16 → LiesOpen (files_in s) g → t.files.items ≡ s.files.items
    → t.frames.items ≡ s.frames.items ++ g ∷ [] → t.room ≡ s.room → All (LiesInFile (files_in s)) t.tokens.items → IsGathering t
opened-gathering s t g ok few open_too files_are frames_are room_is lies = record {
  room = room_is ∙ ok.room ∙ ap (λ (l : List SourceFile). room_after (map file_of l)) (sym files_are);
  few = let a = ap (λ (l : List Frame). length l) frames_are ∙ length-append s.frames.items (g ∷ []) in omega arith;
  lies = rw files_are lies;
  open_lies =
      rw (files_are, frames_are)
      (All-append (LiesOpen (files_in s)) s.frames.items (g ∷ []) ok.open_lies (All-cons (LiesOpen (files_in s)) g [] open_too (All-nil (LiesOpen (files_in s)))));
}

-- an open file after some of its tokens
pub still-open : (files : List File) (f g : Frame) → LiesOpen files f → (g.file ≡ f.file) × (g.tokens.items ≡ f.tokens.items) × (g.at ≤ length f.tokens.items) → LiesOpen files g
still-open files f g lies same = record {
  there = rw same.0 lies.there;
  within = rw same.1 same.2;
  lies = rw (same.0, same.1) lies.lies;
}

pub work-opened : (s t : Gathering) (f g : Frame) → t.frames.items ≡ s.frames.items ++ g ∷ [] → t.room ≡ s.room → length (left_of g) + 2 ≤ length (left_of f)
    → work_left t + 1 ≤ work_left s + length (left_of f)
work-opened s t f g frames_are room_is fewer =
    let a = ap (λ (l : List Frame). length l) frames_are ∙ length-append s.frames.items (g ∷ []) in
    let b = ap (λ (l : List Frame). sum_by (λ (h : Frame). length (left_of h)) l) frames_are ∙ sum_by-append (λ (h : Frame). length (left_of h)) s.frames.items (g ∷ []) in
    omega arith

-- the walk before the first file
pub walk-begins : (lexed : Text → Result (List Token) LexFault) (unescaped : List ℕ → List ℕ) (files : Files) (s : Gathering) (name : List ℕ)
    → s.files.items ≡ [] → s.tokens.items ≡ [] → s.frames.items ≡ [] → walk_into lexed unescaped files name s ≡ walk_of lexed unescaped files name
walk-begins lexed unescaped files s name files_are tokens_are frames_are =
    ap (λ (l : List SourceFile). with_tokens s.tokens.items (entering lexed unescaped files (open_files (map file_of l) s.frames.items) name (walked (map file_of l)))) files_are
    ∙ ap (λ (l : List FileToken). with_tokens l (entering lexed unescaped files (open_files [] s.frames.items) name (walked []))) tokens_are
    ∙ ap (λ (l : List Frame). with_tokens [] (entering lexed unescaped files (open_files [] l) name (walked []))) frames_are
    ∙ with_tokens-nil (entering lexed unescaped files [] name (walked []))
    ∙ followed_by-end (walk_of lexed unescaped files name)

pub begins-gathering : (s : Gathering) → s.files.items ≡ [] → s.tokens.items ≡ [] → s.frames.items ≡ [] → s.room ≡ 16777216 → IsGathering s
begins-gathering s files_are tokens_are frames_are room_is = record {
  room = room_is ∙ ap (λ (l : List SourceFile). room_after (map file_of l)) (sym files_are);
  few = rw frames_are (omega arith);
  lies = rw tokens_are (All-nil (LiesInFile (files_in s)));
  open_lies = rw frames_are (All-nil (LiesOpen (files_in s)));
}

-- a state without its innermost open file
module _ (s t : Gathering) (f : Frame) (files_are : t.files.items ≡ s.files.items) (tokens_are : t.tokens.items ≡ s.tokens.items) (frames_are : s.frames.items ≡ t.frames.items ++ f ∷ []) (room_is : t.room ≡ s.room)
    (ok : IsGathering s) where
  pub closed-few : length t.frames.items ≤ 16
  closed-few = let a = ap (λ (l : List Frame). length l) frames_are ∙ length-append t.frames.items (f ∷ []) in let b = ok.few in omega arith

  all-open : All (LiesOpen (files_in s)) (t.frames.items ++ f ∷ [])
  all-open = subst (λ (l : List Frame). All (LiesOpen (files_in s)) l) frames_are ok.open_lies

  pub closed-lies : LiesOpen (files_in t) f
  closed-lies = rw files_are (All-last (LiesOpen (files_in s)) t.frames.items f all-open)

  pub closed-gathering : IsGathering t
  closed-gathering = record {
    room = room_is ∙ ok.room ∙ ap (λ (l : List SourceFile). room_after (map file_of l)) (sym files_are);
    few = let a = closed-few in omega arith;
    lies = rw (files_are, tokens_are) ok.lies;
    open_lies = rw files_are (All-front (LiesOpen (files_in s)) t.frames.items (f ∷ []) all-open);
  }

  pub closed-walk : (lexed : Text → Result (List Token) LexFault) (unescaped : List ℕ → List ℕ) (files : Files) → walk_from lexed unescaped files s ≡ walk_with lexed unescaped files f t
  closed-walk lexed unescaped files =
      ap (λ (l : List Frame). with_tokens s.tokens.items (resume lexed unescaped files (open_files (files_in s) l) (walked (files_in s)))) frames_are
      ∙ ap (λ (l : List OpenFile). with_tokens s.tokens.items (resume lexed unescaped files l (walked (files_in s)))) (open_files-push (files_in s) t.frames.items f)
      ∙ ap (λ (l : List FileToken). with_tokens l (resume lexed unescaped files (open_file (files_in s) f ∷ open_files (files_in s) t.frames.items) (walked (files_in s)))) (sym tokens_are)
      ∙ ap (λ (l : List SourceFile). with_tokens t.tokens.items (resume lexed unescaped files (open_file (map file_of l) f ∷ open_files (map file_of l) t.frames.items) (walked (map file_of l)))) (sym files_are)

  pub closed-work : work_left s ≡ work_left t + length (left_of f) + 1
  closed-work =
      let a = ap (λ (l : List Frame). length l) frames_are ∙ length-append t.frames.items (f ∷ []) in
      let b = ap (λ (l : List Frame). sum_by (λ (h : Frame). length (left_of h)) l) frames_are ∙ sum_by-append (λ (h : Frame). length (left_of h)) t.frames.items (f ∷ []) in
      omega arith

-- The walk so far: it is the walk over the file of this name, and its reads were noted.
pub record Follows (lexed : Text → Result (List Token) LexFault) (unescaped : List ℕ → List ℕ) (files : Files) (name : List ℕ) (s : Gathering) (old new : Option (List Entry)) : Type 0 where
  pub walk : walk_of lexed unescaped files name ≡ walk_from lexed unescaped files s
  pub noted : NotesAll old new (names_of (files_in s))

module _ (lexed : Text → Result (List Token) LexFault) (unescaped : List ℕ → List ℕ) (files : Files) (name : List ℕ) (old : Option (List Entry)) where
  -- the first file was read, or not
  pub follows-first : (s t : Gathering) (new : Option (List Entry)) → walk_into lexed unescaped files name s ≡ walk_of lexed unescaped files name → names_of (files_in s) ≡ []
      → Leads {X = Unit {0}} (walk_into lexed unescaped files name s) (names_of (files_in s)) (Ok tt) (walk_from lexed unescaped files t) (names_of (files_in t)) old new
      → Follows lexed unescaped files name t old new
  follows-first s t new begins none h = record {
    walk = sym begins ∙ h.0;
    noted = h.1 old (subst (λ (l : List (List ℕ)). NotesAll old old l) (sym none) (NotesAll-none old old refl));
  }

  pub fails-first : (s : Gathering) (new : Option (List Entry)) (why : GatherFault) → walk_into lexed unescaped files name s ≡ walk_of lexed unescaped files name → names_of (files_in s) ≡ []
      → Refuses (walk_into lexed unescaped files name s) (names_of (files_in s)) why old new → FitsFault (walk_of lexed unescaped files name) why old new
  fails-first s new why begins none h =
      subst (λ (k : Walk). FitsFault k why old new) begins (h old (subst (λ (l : List (List ℕ)). NotesAll old old l) (sym none) (NotesAll-none old old refl)))

  -- a step that went on, or not
  pub follows-next : (s t u : Gathering) (f : Frame) (mid new : Option (List Entry)) → Follows lexed unescaped files name s old mid → walk_from lexed unescaped files s ≡ walk_with lexed unescaped files f t
      → files_in t ≡ files_in s → Leads {X = Unit {0}} (walk_with lexed unescaped files f t) (names_of (files_in t)) (Ok tt) (walk_from lexed unescaped files u) (names_of (files_in u)) mid new
      → Follows lexed unescaped files name u old new
  follows-next s t u f mid new follows e same h = record {
    walk = follows.walk ∙ e ∙ h.0;
    noted = h.1 old (subst (λ (l : List File). NotesAll old mid (names_of l)) (sym same) follows.noted);
  }

  pub fails-next : (s t : Gathering) (f : Frame) (mid new : Option (List Entry)) (why : GatherFault) → Follows lexed unescaped files name s old mid → walk_from lexed unescaped files s ≡ walk_with lexed unescaped files f t
      → files_in t ≡ files_in s → Refuses (walk_with lexed unescaped files f t) (names_of (files_in t)) why mid new → FitsFault (walk_of lexed unescaped files name) why old new
  fails-next s t f mid new why follows e same h =
      subst (λ (k : Walk). FitsFault k why old new) (sym (follows.walk ∙ e)) (h old (subst (λ (l : List File). NotesAll old mid (names_of l)) (sym same) follows.noted))

  -- no file is open
  pub follows-end : (s : Gathering) (new : Option (List Entry)) → Follows lexed unescaped files name s old new → s.frames.items ≡ []
      → FitsWalk (walk_of lexed unescaped files name) (Ok (record { files = files_in s; tokens = s.tokens.items })) old new
  follows-end s new follows none =
      let e : walk_of lexed unescaped files name ≡ gathers (s.tokens.items ++ []) (walked (files_in s)) =
      follows.walk ∙ ap (λ (l : List Frame). with_tokens s.tokens.items (resume lexed unescaped files (open_files (files_in s) l) (walked (files_in s)))) none in (
        ap (λ (k : Walk). k.answer) e ∙ ap (λ (l : List FileToken). Ok l) (append-nil s.tokens.items),
        ap (λ (k : Walk). k.after.files) e,
        subst (λ (k : Walk). NotesAll old new k.after.reads) (sym e) follows.noted,
      )

  pub no-start : NotesSome old old (walk_of lexed unescaped files name).after.reads
  no-start = NotesSome-of old old [] (walk_of lexed unescaped files name).after.reads (walk_of lexed unescaped files name).after.reads (NotesAll-none old old refl) refl

pub begins-work : (s : Gathering) → s.frames.items ≡ [] → s.room ≡ 16777216 → work_left s ≡ 16777216
begins-work s frames_are room_is =
    ap (λ (l : List Frame). sum_by (λ (h : Frame). length (left_of h)) l + length l + s.room) frames_are ∙ (omega arith)
