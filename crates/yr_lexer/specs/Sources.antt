-- Files that were read, and the tokens in them.
use Rattle.std.specs.Prelude.{ℕ, ◌≤◌, ◌<◌, ◌^◌, List, [], length, string_bytes, slice_range, slice_get, Option, Some, None}
use Rattle.yr_lexer.specs.declared.token.Token.{Token}
use Rattle.yr_lexer.specs.declared.source.SourceFile.{SourceFile}
use Rattle.yr_lexer.specs.declared.source.FileToken.{FileToken}
use Rattle.yr_lexer.specs.Gaps.{Text}
use Rattle.yr_lexer.specs.Forms.{IsSpelled}

-- a file's name and its bytes
pub record File : Type 0 where
  pub name : List ℕ
  pub text : Text

-- the files in the order in which they were read, and the gathered tokens
pub record Gathered : Type 0 where
  pub files : List File
  pub tokens : List FileToken

abbrev pub file_of : SourceFile → File
file_of f = record { name = string_bytes f.name; text = f.text.items }

-- the text of the file of a number, empty past the last
abbrev pub text_at : List File → ℕ → Text
text_at files n = text_in (slice_get files n)
  where
    text_in : Option File → Text
    text_in None = []
    text_in (Some f) = f.text

-- the bytes of a token
abbrev pub spelling : List File → FileToken → Text
spelling files t = slice_range (text_at files t.file) t.token.from t.token.to

-- the bytes of the token of a number, none past the last
abbrev pub text_of : Gathered → ℕ → Text
text_of g k = text_from (slice_get g.tokens k)
  where
    text_from : Option FileToken → Text
    text_from None = []
    text_from (Some t) = spelling g.files t

-- a token that lies in a text, with the form of its kind there
pub record LiesIn (text : Text) (t : Token) : Type 0 where
  pub ordered : t.from ≤ t.to
  pub within : t.to ≤ length text
  pub small : t.to < 2 ^ 32
  pub spelled : IsSpelled (slice_range text t.from t.to) t.kind

-- a token that lies in its file
pub record LiesInFile (files : List File) (t : FileToken) : Type 0 where
  pub there : t.file < length files
  pub lies : LiesIn (text_at files t.file) t.token
