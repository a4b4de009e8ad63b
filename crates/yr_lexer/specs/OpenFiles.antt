-- What is left of a walk where some files are still being gathered.
use Rattle.std.specs.Prelude.{◌≡◌, ℕ, ◌+◌, ◌-◌, ◌<◌, ◌≤◌, ◌&&◌, ◌||◌, not, List, [], ◌∷◌, ◌++◌, length, map, drop, sum_by, slice_get, All, true, false, Option, Some, None, Result, Ok, Err, string_bytes, if◌then◌else◌}
use Rattle.std.specs.Str.{is_utf8}
use Rattle.std.specs.declared.alloc.Global.{Global}
use Rattle.std.specs.declared.string.String.{String}
use Rattle.yr_base.specs.Store.{Files}
use Rattle.yr_base.specs.Trace.{Entry}
use Rattle.yr_base.specs.Notes.{NotesAll}
use Rattle.yr_lexer.specs.declared.token.Token.{Token}
use Rattle.yr_lexer.specs.declared.fault.LexFault.{LexFault}
use Rattle.yr_lexer.specs.declared.fault.GatherFault.{GatherFault}
use Rattle.yr_lexer.specs.declared.fault.GatherFault.TheVariants as fault
use Rattle.yr_lexer.specs.declared.frame.Frame.{Frame}
use Rattle.yr_lexer.specs.declared.frame.Include.{Include}
use Rattle.yr_lexer.specs.declared.gathering.Gathering.{Gathering}
use Rattle.yr_lexer.specs.Gaps.{Text}
use Rattle.yr_lexer.specs.Sources.{File, file_of, text_at, LiesIn, LiesInFile}
use Rattle.yr_lexer.specs.Includes.{Walked, Walk, depth_limit, room_after, gathers, with_tokens, followed_by, is_empty, is_include, is_text_kind, inside_of, include_walk, token_walk, walk_down}
use Rattle.yr_lexer.specs.Gathering.{FitsFault}

-- the name of the file of a number, empty past the last
abbrev pub name_at : List File → ℕ → List ℕ
name_at files n = name_in (slice_get files n)
  where
    name_in : Option File → List ℕ
    name_in None = []
    name_in (Some f) = f.name

abbrev pub names_of : List File → List (List ℕ)
names_of files = map (λ f. f.name) files

-- what was read, where each read gave a file
abbrev pub walked : List File → Walked
walked files = record { files = files; reads = names_of files }

-- a file that is being gathered: its number, its name, its text, and the tokens that are left
pub record OpenFile : Type 0 where
  pub number : ℕ
  pub name : List ℕ
  pub text : Text
  pub left : List Token

abbrev pub left_of : Frame → List Token
left_of f = drop f.at f.tokens.items

abbrev pub open_file : List File → Frame → OpenFile
open_file files f = record { number = f.file; name = name_at files f.file; text = text_at files f.file; left = left_of f }

-- the open files, the innermost first
abbrev pub open_files : List File → List Frame → List OpenFile
open_files files [] = []
open_files files (f ∷ fs) = open_files files fs ++ open_file files f ∷ []

abbrev pub open_names : List OpenFile → List (List ℕ)
open_names stack = map (λ f. f.name) stack

-- how many levels a file that the innermost of these includes may lead down
abbrev pub levels_below : List OpenFile → ℕ
levels_below stack = depth_limit + 1 - length stack

-- the include that stands at the front of the tokens of a file
abbrev pub front_include : (number : ℕ) → Text → List Token → Option Include
front_include number text [] = None
front_include number text (t ∷ []) = None
front_include number text (t ∷ u ∷ ts) = if is_include text t && is_text_kind u.kind then Some (record { file = number; line = t.line; path = u }) else None

module _ (lexed : Text → Result (List Token) LexFault) (unescaped : List ℕ → List ℕ) (files : Files) where
  -- what follows an include of a file, or nothing where it has no more
  abbrev pub goes_on : (include : ℕ → List ℕ → Walked → Walk) → (number : ℕ) → Text → Option Include → List Token → Walked → Walk
  goes_on include number text None left w = gathers [] w
  goes_on include number text (Some i) left w =
      followed_by (include i.line (unescaped (inside_of text i.path)) w) (token_walk lexed unescaped files include number text left)

  -- the walk over what is left of the open files
  abbrev pub resume : List OpenFile → Walked → Walk
  resume [] w = gathers [] w
  resume (f ∷ fs) w =
      followed_by
      (token_walk lexed unescaped files (include_walk lexed unescaped files (walk_down lexed unescaped files (levels_below (f ∷ fs)) (open_names (f ∷ fs))) (open_names (f ∷ fs)) f.name)
      f.number f.text f.left w) (resume fs)

  -- the walk over the file of a name, included by the innermost of the open files, and then over what is left of these
  abbrev pub entering : List OpenFile → List ℕ → Walked → Walk
  entering stack name w = followed_by (walk_down lexed unescaped files (levels_below stack) (open_names stack) name w) (resume stack)

  -- the walk over an include in the file of this name, and then over what is left of the open files
  abbrev pub including : List OpenFile → (file : List ℕ) → (line : ℕ) → (path : List ℕ) → Walked → Walk
  including stack file line path w =
      followed_by (include_walk lexed unescaped files (walk_down lexed unescaped files (levels_below stack) (open_names stack)) (open_names stack) file line path w) (resume stack)

abbrev pub files_in : Gathering → List File
files_in s = map file_of s.files.items

abbrev pub open_in : Gathering → List OpenFile
open_in s = open_files (files_in s) s.frames.items

module _ (lexed : Text → Result (List Token) LexFault) (unescaped : List ℕ → List ℕ) (files : Files) where
  -- the whole walk, from where it has come
  abbrev pub walk_from : Gathering → Walk
  walk_from s = with_tokens s.tokens.items (resume lexed unescaped files (open_in s) (walked (files_in s)))

  -- the same with one more open file, or before a file of this name, or before an include
  abbrev pub walk_with : Frame → Gathering → Walk
  walk_with f s = with_tokens s.tokens.items (resume lexed unescaped files (open_file (files_in s) f ∷ open_in s) (walked (files_in s)))

  abbrev pub walk_into : List ℕ → Gathering → Walk
  walk_into name s = with_tokens s.tokens.items (entering lexed unescaped files (open_in s) name (walked (files_in s)))

  abbrev pub walk_at : Include → Gathering → Walk
  walk_at i s =
      with_tokens s.tokens.items
      (including lexed unescaped files (open_in s) (name_at (files_in s) i.file) i.line (unescaped (inside_of (text_at (files_in s) i.file) i.path)) (walked (files_in s)))

-- the tokens of an open file lie in its text
pub record LiesOpen (files : List File) (f : Frame) : Type 0 where
  pub there : f.file < length files
  pub within : f.at ≤ length f.tokens.items
  pub lies : All (LiesIn (text_at files f.file)) f.tokens.items

-- a state of gathering
pub record IsGathering (s : Gathering) : Type 0 where
  pub room : s.room ≡ room_after (files_in s)
  pub few : length s.frames.items ≤ depth_limit + 1
  pub lies : All (LiesInFile (files_in s)) s.tokens.items
  pub open_lies : All (LiesOpen (files_in s)) s.frames.items

-- what is still to do at most: the tokens left, the open files, and the bytes that may still be read
abbrev pub work_left : Gathering → ℕ
work_left s = sum_by (λ f. length (left_of f)) s.frames.items + length s.frames.items + s.room

-- where these reads were noted so far, the fault fits the walk
abbrev pub Refuses : Walk → List (List ℕ) → GatherFault → Option (List Entry) → Option (List Entry) → Type 0
Refuses walk reads why old new = (start : Option (List Entry)) → NotesAll start old reads → FitsFault walk why start new

-- A step of gathering leads from one walk to the same, and notes its reads.
abbrev pub Leads : {X : Type 0} → (before : Walk) → List (List ℕ) → Result X GatherFault → (after : Walk) → List (List ℕ) → Option (List Entry) → Option (List Entry) → Type 0
Leads before reads (Ok x) after more old new = (before ≡ after) × ((start : Option (List Entry)) → NotesAll start old reads → NotesAll start new more)
Leads before reads (Err why) after more old new = Refuses before reads why old new

-- the path is a name, or it is refused
abbrev pub FitsPath : (path file : List ℕ) → (line : ℕ) → Result (String Global) GatherFault → Type 0
FitsPath path file line (Ok name) = (string_bytes name ≡ path) × ((is_empty path || not (is_utf8 path)) ≡ false)
FitsPath path file line (Err (fault.Path f l)) = (string_bytes f ≡ file) × (l ≡ line) × ((is_empty path || not (is_utf8 path)) ≡ true)
FitsPath path file line (Err fault.NoMemory) = Unit {0}
FitsPath path file line (Err why) = ⊥

-- a text was refused with its fault, in the file of this name
abbrev pub FitsLex : Result (List Token) LexFault → List ℕ → GatherFault → Type 0
FitsLex answer name (fault.Lex file why) = (answer ≡ Err why) × (string_bytes file ≡ name)
FitsLex answer name fault.NoMemory = Unit {0}
FitsLex answer name why = ⊥
