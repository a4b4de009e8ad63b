-- Rule files with their includes: the gathered tokens and the files that were read, or the first fault of the walk, which goes
-- depth first ('Writing YARA rules', 'Including files').
use Rattle.std.specs.Prelude.{ℕ, zero, suc, ◌+◌, ◌-◌, ◌≡◌, Bool, true, false, not, ◌&&◌, ◌||◌, ◌==◌, nat_lt, List, [], ◌∷◌, ◌++◌, length, sum_by, slice_range, Option, Some, None, Result, Ok, Err, codes, if◌then◌else◌}
use Rattle.std.specs.Str.{bytes_eq, is_utf8}
use Rattle.yr_base.specs.Store.{Files}
use Rattle.yr_lexer.specs.declared.token.TokenKind.{TokenKind}
use Rattle.yr_lexer.specs.declared.token.TokenKind.TheVariants as kind
use Rattle.yr_lexer.specs.declared.token.Token.{Token}
use Rattle.yr_lexer.specs.declared.source.FileToken.{FileToken}
use Rattle.yr_lexer.specs.declared.fault.LexFault.{LexFault}
use Rattle.yr_lexer.specs.Gaps.{Text}
use Rattle.yr_lexer.specs.Texts.{Unescapes}
use Rattle.yr_lexer.specs.Tokens.{Lexes}
use Rattle.yr_lexer.specs.Sources.{File}

-- why the walk ends before all is gathered
pub data WalkFault : Type 0 where
  Lex : (file : List ℕ) → LexFault → WalkFault
  Read : (name : List ℕ) → WalkFault
  Path : (file : List ℕ) → (line : ℕ) → WalkFault
  Cycle : (file : List ℕ) → (line : ℕ) → (name : List ℕ) → WalkFault
  Depth : (file : List ℕ) → (line : ℕ) → (name : List ℕ) → WalkFault
  TextTooLong : (name : List ℕ) → WalkFault

-- What the walk has: the files read so far, in order, and the names of all reads, the last of which may have given no file.
pub record Walked : Type 0 where
  pub files : List File
  pub reads : List (List ℕ)

-- where the walk leads: the tokens that it gathers or its fault, and what it has read
pub record Walk : Type 0 where
  pub answer : Result (List FileToken) WalkFault
  pub after : Walked

-- all rule text together has at most this many bytes, and includes stand at most this deep
abbrev pub text_limit : ℕ
text_limit = 16777216

abbrev pub depth_limit : ℕ
depth_limit = 16

-- the bytes that may still be read
abbrev pub room_after : List File → ℕ
room_after files = text_limit - sum_by (λ f. length f.text) files

-- the folder of a name with one more byte before it
abbrev pub in_folder : ℕ → List ℕ → List ℕ
in_folder b [] = if b == 47 then b ∷ [] else []
in_folder b (c ∷ cs) = b ∷ c ∷ cs

-- the front of a name up to and with its last `/`
abbrev pub folder_of : List ℕ → List ℕ
folder_of [] = []
folder_of (b ∷ bs) = in_folder b (folder_of bs)

-- the name of a file that an include in another file names: as it stands where it begins with `/`, else beside the other file
abbrev pub joined_name : (including path : List ℕ) → List ℕ
joined_name including [] = folder_of including
joined_name including (b ∷ bs) = if b == 47 then b ∷ bs else folder_of including ++ b ∷ bs

-- nothing was read
abbrev pub unread : Walked
unread = record { files = []; reads = [] }

-- a read that gave this file, and one that gave none
abbrev pub with_file : File → Walked → Walked
with_file f w = record { files = w.files ++ f ∷ []; reads = w.reads ++ f.name ∷ [] }

abbrev pub with_read : List ℕ → Walked → Walked
with_read name w = record { files = w.files; reads = w.reads ++ name ∷ [] }

abbrev pub stops : WalkFault → Walked → Walk
stops fault w = record { answer = Err fault; after = w }

abbrev pub gathers : List FileToken → Walked → Walk
gathers tokens w = record { answer = Ok tokens; after = w }

abbrev pub in_front : List FileToken → Result (List FileToken) WalkFault → Result (List FileToken) WalkFault
in_front front (Ok tokens) = Ok (front ++ tokens)
in_front front (Err fault) = Err fault

-- these tokens before those of a walk
abbrev pub with_tokens : List FileToken → Walk → Walk
with_tokens front walk = record { answer = in_front front walk.answer; after = walk.after }

-- a walk, and where it did not stop what follows it
abbrev pub followed_by : Walk → (Walked → Walk) → Walk
followed_by walk next = go walk.answer
  where
    go : Result (List FileToken) WalkFault → Walk
    go (Ok tokens) = with_tokens tokens (next walk.after)
    go (Err fault) = walk

abbrev pub is_name_among : List ℕ → List (List ℕ) → Bool
is_name_among name [] = false
is_name_among name (other ∷ others) = bytes_eq other name || is_name_among name others

abbrev pub is_empty : List ℕ → Bool
is_empty [] = true
is_empty (b ∷ bs) = false

abbrev pub is_reserved_kind : TokenKind → Bool
is_reserved_kind kind.Reserved = true
is_reserved_kind _ = false

abbrev pub is_text_kind : TokenKind → Bool
is_text_kind kind.Text = true
is_text_kind _ = false

-- the token of a text is the word `include`
abbrev pub is_include : Text → Token → Bool
is_include text t = is_reserved_kind t.kind && bytes_eq (slice_range text t.from t.to) (codes "include")

-- the bytes between the quotes of a text token
abbrev pub inside_of : Text → Token → List ℕ
inside_of text t = slice_range text (t.from + 1) (t.to - 1)

-- `lexed` gives the tokens of each text or its first fault, `unescaped` the bytes that the inside of a text stands for.
module _ (lexed : Text → Result (List Token) LexFault) (unescaped : List ℕ → List ℕ) (files : Files) where
  -- An include of this path on a line of a file, where these files are being gathered, the innermost first. `deeper` leads into the named file.
  abbrev pub include_walk : (deeper : List ℕ → Walked → Walk) → List (List ℕ) → (including : List ℕ) → (line : ℕ) → (path : List ℕ) → Walked → Walk
  include_walk deeper being including line path w =
      if is_empty path || not (is_utf8 path) then stops (Path including line) w
      else if is_name_among (joined_name including path) being then stops (Cycle including line (joined_name including path)) w
      else if nat_lt depth_limit (length being) then stops (Depth including line (joined_name including path)) w
      else deeper (joined_name including path) w

  -- the tokens of the file of a number, in which `include` and a text stand for the tokens of the named file
  abbrev pub token_walk : (include : ℕ → List ℕ → Walked → Walk) → (number : ℕ) → Text → List Token → Walked → Walk
  token_walk include number text [] w = gathers [] w
  token_walk include number text (t ∷ []) w = gathers (record { file = number; token = t } ∷ []) w
  token_walk include number text (t ∷ u ∷ ts) w =
      if is_include text t && is_text_kind u.kind
      then followed_by (include t.line (unescaped (inside_of text u)) w) (token_walk include number text ts)
      else with_tokens (record { file = number; token = t } ∷ []) (token_walk include number text (u ∷ ts) w)

  -- a file that was read
  abbrev pub text_walk : (deeper : List (List ℕ) → List ℕ → Walked → Walk) → List (List ℕ) → List ℕ → Text → Walked → Walk
  text_walk deeper outer name text w = by_tokens (lexed text)
    where
      by_tokens : Result (List Token) LexFault → Walk
      by_tokens (Err fault) = stops (Lex name fault) (with_file (record { name = name; text = text }) w)
      by_tokens (Ok tokens) =
          token_walk (include_walk (deeper (name ∷ outer)) (name ∷ outer) name) (length w.files) text tokens (with_file (record { name = name; text = text }) w)

  -- a file by its name, where files are being gathered outside it
  abbrev pub name_walk : (deeper : List (List ℕ) → List ℕ → Walked → Walk) → List (List ℕ) → List ℕ → Walked → Walk
  name_walk deeper outer name w = by_file (files name)
    where
      by_file : Option Text → Walk
      by_file None = stops (Read name) (with_read name w)
      by_file (Some text) = if nat_lt (room_after w.files) (length text) then stops (TextTooLong name) (with_read name w) else text_walk deeper outer name text w

  -- a file and all that it includes, so many levels deep
  unfoldable pub walk_down : (levels : ℕ) → List (List ℕ) → List ℕ → Walked → Walk
  walk_down zero outer name w = stops (Read name) w
  walk_down (suc levels) outer name w = name_walk (walk_down levels) outer name w

  -- the walk over the file of a name
  abbrev pub walk_of : List ℕ → Walk
  walk_of name = walk_down (depth_limit + 1) [] name unread

-- `lexed` and `unescaped` are as the walk takes them
abbrev pub IsLexing : (Text → Result (List Token) LexFault) → Type 0
IsLexing lexed = (text : Text) → Lexes text (lexed text)

abbrev pub IsUnescaping : (List ℕ → List ℕ) → Type 0
IsUnescaping unescaped = (inside bytes : List ℕ) → Unescapes inside bytes → unescaped inside ≡ bytes
