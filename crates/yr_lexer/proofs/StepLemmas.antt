-- The steps of gathering, from one state to the next.
use Rattle.std.proofs.Common.{◌≡◌, ℕ, ◌+◌, ◌-◌, ◌≤◌, ◌<◌, List, [], ◌∷◌, ◌++◌, length, drop, map, Option, Some, Result, Ok, Err, string_bytes, refl, sym, ap, ◌∙◌, subst, append_assoc, length-append, arith}
use Rattle.std.specs.Prelude.{All, OnOk, MatchResult, sum_by}
use Rattle.std.specs.declared.alloc.Global.{Global}
use Rattle.std.specs.declared.string.String.{String}
use Rattle.std.proofs.lemmas.List.{map-append, length-map}
use Rattle.std.proofs.lemmas.List.Sums.{sum_by-append}
use Rattle.std.proofs.lemmas.List.Elements.{All-nil, All-cons, All-append}
use Rattle.yr_base.specs.Store.{Files}
use Rattle.yr_base.specs.Told.{told_more, told_more-nil}
use Rattle.yr_base.specs.Trace.{Entry}
use Rattle.yr_base.specs.Notes.{read_noted, failure_noted}
use Rattle.yr_base.proofs.NoteLemmas.{NotesAll-then, NotesFailure-then}
use Rattle.yr_lexer.specs.declared.token.Token.{Token}
use Rattle.yr_lexer.specs.declared.source.FileToken.{FileToken}
use Rattle.yr_lexer.specs.declared.source.SourceFile.{SourceFile}
use Rattle.yr_lexer.specs.declared.fault.LexFault.{LexFault}
use Rattle.yr_lexer.specs.declared.fault.GatherFault.{GatherFault}
use Rattle.yr_lexer.specs.declared.fault.GatherFault.TheVariants as fault
use Rattle.yr_lexer.specs.declared.frame.Frame.{Frame}
use Rattle.yr_lexer.specs.declared.gathering.Gathering.{Gathering}
use Rattle.yr_lexer.specs.Gaps.{Text}
use Rattle.yr_lexer.specs.Sources.{File, file_of, text_at, LiesIn, LiesInFile}
use Rattle.yr_lexer.specs.Includes.{Walk, Lex, TextTooLong, with_file, with_read, stops, with_tokens}
use Rattle.yr_lexer.specs.OpenFiles.{OpenFile, open_file, open_files, resume, walked, names_of, name_at, left_of, files_in, open_in, walk_from, walk_into, Refuses, Leads, LiesOpen, IsGathering, work_left, FitsLex}
use Rattle.yr_lexer.proofs.WalkLemmas.{Extends}
use Rattle.yr_lexer.proofs.FrameLemmas.{text_at-last, name_at-last, LiesInFile-grown, LiesOpen-grown, All-more, open_files-grown, open_files-push, open_files-length}
use Rattle.yr_lexer.proofs.StateLemmas.{walked-more, refused-at, no-memory-at, entering-grows, entering-reads, entering-long, entering-refused, entering-opens}

-- A file was added to a state.
pub record Adds (s t : Gathering) (file : SourceFile) (frame : Frame) : Type 0 where
  pub start : frame.at ≡ 0
  pub number : frame.file ≡ length s.files.items
  pub files : t.files.items ≡ s.files.items ++ file ∷ []
  pub tokens : t.tokens.items ≡ s.tokens.items
  pub frames : t.frames.items ≡ s.frames.items ++ frame ∷ []
  pub room : t.room ≡ s.room - length file.text.items

stack-few : (s : Gathering) → length s.frames.items ≤ 16 → length (open_in s) ≤ 16
stack-few s few = let e = open_files-length (files_in s) s.frames.items in omega arith

module _ (s t : Gathering) (file : SourceFile) (frame : Frame) (adds : Adds s t file frame) where
  pub added-files : files_in t ≡ files_in s ++ file_of file ∷ []
  added-files = ap (map file_of) adds.files ∙ map-append file_of s.files.items (file ∷ [])

  pub added-names : names_of (files_in t) ≡ names_of (files_in s) ++ string_bytes file.name ∷ []
  added-names = ap names_of added-files ∙ map-append (λ (f : File). f.name) (files_in s) (file_of file ∷ [])

  pub added-count : length t.files.items ≡ length s.files.items + 1
  added-count = let a = ap (λ (l : List SourceFile). length l) adds.files in let b = length-append s.files.items (file ∷ []) in omega arith

  number-here : frame.file ≡ length (files_in s)
  number-here = adds.number ∙ sym (length-map s.files.items file_of)

  left-all : left_of frame ≡ frame.tokens.items
  left-all = ap (λ n. drop n frame.tokens.items) adds.start

  frame-here : open_file (files_in s ++ file_of file ∷ []) frame ≡ record { number = length (files_in s); name = string_bytes file.name; text = file.text.items; left = frame.tokens.items }
  frame-here =
      ap (λ n. record { number = n; name = name_at (files_in s ++ file_of file ∷ []) n; text = text_at (files_in s ++ file_of file ∷ []) n; left = left_of frame }) number-here
      ∙ ap (λ (l : List ℕ). record { number = length (files_in s); name = l; text = text_at (files_in s ++ file_of file ∷ []) (length (files_in s)); left = left_of frame }) (name_at-last (files_in s) (file_of file))
      ∙ ap (λ (l : List ℕ). record { number = length (files_in s); name = string_bytes file.name; text = l; left = left_of frame }) (text_at-last (files_in s) (file_of file))
      ∙ ap (λ (l : List Token). record { number = length (files_in s); name = string_bytes file.name; text = file.text.items; left = l }) left-all

  module _ (ok : IsGathering s) (few : length s.frames.items ≤ 16) (fits : length file.text.items ≤ s.room) (short : length frame.tokens.items ≤ length file.text.items)
      (lies : All (LiesIn file.text.items) frame.tokens.items) where
    added-stack : open_in t ≡ record { number = length (files_in s); name = string_bytes file.name; text = file.text.items; left = frame.tokens.items } ∷ open_in s
    added-stack =
        ap (λ (l : List File). open_files l t.frames.items) added-files
        ∙ ap (open_files (files_in s ++ file_of file ∷ [])) adds.frames
        ∙ open_files-push (files_in s ++ file_of file ∷ []) s.frames.items frame
        ∙ ap (λ (o : OpenFile). o ∷ open_files (files_in s ++ file_of file ∷ []) s.frames.items) frame-here
        ∙ ap (λ (l : List OpenFile). record { number = length (files_in s); name = string_bytes file.name; text = file.text.items; left = frame.tokens.items } ∷ l)
        (open_files-grown (files_in s) (file_of file ∷ []) s.frames.items ok.open_lies)

    frame-lies : LiesOpen (files_in s ++ file_of file ∷ []) frame
    frame-lies = record {
      there = let a = number-here in let l = length-append (files_in s) (file_of file ∷ []) in omega arith;
      within = rw adds.start (omega arith);
      lies = rw number-here (rw (text_at-last (files_in s) (file_of file)) lies);
    }

    pub added-gathering : IsGathering t
    added-gathering = record {
      room =
          let a = adds.room in
          let b = ok.room in
          let e = ap (λ (l : List File). sum_by (λ (f : File). length f.text) l) added-files ∙ sum_by-append (λ (f : File). length f.text) (files_in s) (file_of file ∷ []) in
          omega arith;
      few = let a = ap (λ (l : List Frame). length l) adds.frames ∙ length-append s.frames.items (frame ∷ []) in omega arith;
      lies =
          rw adds.tokens
          (subst (λ (l : List File). All (LiesInFile l) s.tokens.items) (sym added-files)
          (All-more (LiesInFile (files_in s)) (LiesInFile (files_in s ++ file_of file ∷ [])) (LiesInFile-grown (files_in s) (file_of file)) s.tokens.items ok.lies));
      open_lies =
          rw adds.frames
          (subst (λ (l : List File). All (LiesOpen l) (s.frames.items ++ frame ∷ [])) (sym added-files)
          (All-append (LiesOpen (files_in s ++ file_of file ∷ [])) s.frames.items (frame ∷ [])
          (All-more (LiesOpen (files_in s)) (LiesOpen (files_in s ++ file_of file ∷ [])) (LiesOpen-grown (files_in s) (file_of file)) s.frames.items ok.open_lies)
          (All-cons (LiesOpen (files_in s ++ file_of file ∷ [])) frame [] frame-lies (All-nil (LiesOpen (files_in s ++ file_of file ∷ []))))));
    }

    pub added-work : work_left t ≤ work_left s + 1
    added-work =
        let a = ap (λ (l : List Frame). length l) adds.frames ∙ length-append s.frames.items (frame ∷ []) in
        let b = ap (λ (l : List Frame). sum_by (λ (f : Frame). length (left_of f)) l) adds.frames ∙ sum_by-append (λ (f : Frame). length (left_of f)) s.frames.items (frame ∷ []) in
        let d = ap (λ (l : List Token). length l) left-all in
        let e = adds.room in
        omega arith

    module _ (lexed : Text → Result (List Token) LexFault) (unescaped : List ℕ → List ℕ) (files : Files) (there : files (string_bytes file.name) ≡ Some file.text.items) where
      pub added-walk : lexed file.text.items ≡ Ok frame.tokens.items → walk_into lexed unescaped files (string_bytes file.name) s ≡ walk_from lexed unescaped files t
      added-walk e =
          ap (with_tokens s.tokens.items)
          (entering-opens lexed unescaped files (open_in s) (stack-few s few) (string_bytes file.name) (walked (files_in s)) file.text.items there (rw (sym ok.room) fits) frame.tokens.items e
          ∙ ap (resume lexed unescaped files (record { number = length (files_in s); name = string_bytes file.name; text = file.text.items; left = frame.tokens.items } ∷ open_in s))
          (walked-more (files_in s) (file_of file)))
          ∙ ap (λ (l : List FileToken). with_tokens l (resume lexed unescaped files
          (record { number = length (files_in s); name = string_bytes file.name; text = file.text.items; left = frame.tokens.items } ∷ open_in s) (walked (files_in s ++ file_of file ∷ [])))) (sym adds.tokens)
          ∙ ap (λ (l : List OpenFile). with_tokens t.tokens.items (resume lexed unescaped files l (walked (files_in s ++ file_of file ∷ [])))) (sym added-stack)
          ∙ ap (λ (l : List File). with_tokens t.tokens.items (resume lexed unescaped files (open_in t) (walked l))) (sym added-files)

module _ (lexed : Text → Result (List Token) LexFault) (unescaped : List ℕ → List ℕ) (files : Files) (s : Gathering) (name : List ℕ) (ok : IsGathering s) (few : length s.frames.items ≤ 16) where
  pub into-reads : Extends (names_of (files_in s) ++ name ∷ []) (walk_into lexed unescaped files name s)
  into-reads = entering-reads lexed unescaped files (open_in s) (stack-few s few) name (walked (files_in s))

  pub into-grows : Extends (names_of (files_in s)) (walk_into lexed unescaped files name s)
  into-grows = entering-grows lexed unescaped files (open_in s) name (walked (files_in s))

  -- the text of the file has no tokens
  pub into-lex : (text : Text) → files name ≡ Some text → length text ≤ s.room → (why : GatherFault) → FitsLex (lexed text) name why → (told : Option (List Entry))
      → Refuses (walk_into lexed unescaped files name s) (names_of (files_in s) ++ name ∷ []) why told told
  into-lex text there fits (fault.Lex file f) h told = λ start notes.
      refused-at (walk_into lexed unescaped files name s) (Lex (string_bytes file) f) (with_file (record { name = name; text = text }) (walked (files_in s))) (names_of (files_in s) ++ name ∷ [])
      (ap (with_tokens s.tokens.items) (entering-refused lexed unescaped files (open_in s) (stack-few s few) name (walked (files_in s)) text there (rw (sym ok.room) fits) f h.0)
      ∙ ap (λ (n : List ℕ). stops (Lex n f) (with_file (record { name = name; text = text }) (walked (files_in s)))) (sym h.1))
      refl start told notes
  into-lex text there fits (fault.Read n) h told = absurd h
  into-lex text there fits (fault.Path f l) h told = absurd h
  into-lex text there fits (fault.Cycle f l n) h told = absurd h
  into-lex text there fits (fault.Depth f l n) h told = absurd h
  into-lex text there fits (fault.TextTooLong n) h told = absurd h
  into-lex text there fits fault.NoMemory h told = λ start notes. no-memory-at (walk_into lexed unescaped files name s) (names_of (files_in s) ++ name ∷ []) into-reads start told notes

  -- the file is too long
  pub into-long : (text : Text) → files name ≡ Some text → s.room < length text → (told : Option (List Entry)) (long : String Global) → string_bytes long ≡ name
      → Refuses (walk_into lexed unescaped files name s) (names_of (files_in s) ++ name ∷ []) (fault.TextTooLong long) told told
  into-long text there longer told long e = λ start notes.
      refused-at (walk_into lexed unescaped files name s) (TextTooLong (string_bytes long)) (with_read name (walked (files_in s))) (names_of (files_in s) ++ name ∷ [])
      (ap (with_tokens s.tokens.items) (entering-long lexed unescaped files (open_in s) (stack-few s few) name (walked (files_in s)) text there (rw (sym ok.room) longer))
      ∙ ap (λ (n : List ℕ). stops (TextTooLong n) (with_read name (walked (files_in s)))) (sym e))
      refl start told notes

  -- there was no memory for the file
  pub into-no-memory : (told : Option (List Entry)) → Refuses (walk_into lexed unescaped files name s) (names_of (files_in s) ++ name ∷ []) fault.NoMemory told told
  into-no-memory told = λ start notes. no-memory-at (walk_into lexed unescaped files name s) (names_of (files_in s) ++ name ∷ []) into-reads start told notes

  pub into-no-read : (old new : Option (List Entry)) → new ≡ told_more old [] → Refuses (walk_into lexed unescaped files name s) (names_of (files_in s)) fault.NoMemory old new
  into-no-read old new e = λ start notes.
      no-memory-at (walk_into lexed unescaped files name s) (names_of (files_in s)) into-grows start new (e ∙ told_more-nil old ∙ notes)

  -- the file could not be read
  pub into-failure : (old new : Option (List Entry)) (failed : String Global) → string_bytes failed ≡ name → new ≡ told_more old (failure_noted name ∷ [])
      → Refuses (walk_into lexed unescaped files name s) (names_of (files_in s)) (fault.Read failed) old new
  into-failure old new failed e noted = λ start notes.
      NotesFailure-then start old new (names_of (files_in s)) into-reads.0 (walk_into lexed unescaped files name s).after.reads (string_bytes failed) notes
      (noted ∙ ap (λ (n : List ℕ). told_more old (failure_noted n ∷ [])) (sym e))
      (into-reads.1 ∙ append_assoc (names_of (files_in s)) (name ∷ []) into-reads.0 ∙ ap (λ (n : List ℕ). names_of (files_in s) ++ n ∷ into-reads.0) (sym e))

-- a refusal after one more read
pub refuses-read : (before : Walk) (reads : List (List ℕ)) (name : List ℕ) (why : GatherFault) (old new : Option (List Entry))
    → new ≡ told_more old (read_noted name ∷ []) → Refuses before (reads ++ name ∷ []) why new new → Refuses before reads why old new
refuses-read before reads name why old new noted h = λ start notes. h start (NotesAll-then start old new reads (reads ++ name ∷ []) name notes noted refl)

-- a step that read one file
pub leads-read : {X : Type 0} (before after : Walk) (reads more : List (List ℕ)) (name : List ℕ) (result : Result X GatherFault) (old new : Option (List Entry))
    → new ≡ told_more old (read_noted name ∷ []) → OnOk result (more ≡ reads ++ name ∷ [])
    → MatchResult result (λ _. before ≡ after) (λ why. (told : Option (List Entry)) → Refuses before (reads ++ name ∷ []) why told told)
    → Leads before reads result after more old new
leads-read before after reads more name (Ok x) old new noted names h = (h, λ start notes. NotesAll-then start old new reads more name notes noted names)
leads-read before after reads more name (Err why) old new noted names h = refuses-read before reads name why old new noted (h new)
