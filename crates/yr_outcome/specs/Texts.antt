-- What is said of each refusal and fault. Each text ends with a line feed.
use Rattle.std.specs.Prelude.{ℕ, List, [], ◌∷◌, ◌++◌, codes, decimal, Option, Some, None}
use Rattle.std.specs.List.{flat_map}
use Rattle.yr_lexer.specs.declared.fault.LexFault.{LexFault}
use Rattle.yr_lexer.specs.declared.fault.LexFault.TheVariants as lex
use Rattle.yr_lexer.specs.Includes.{WalkFault, Lex, Read, Path, Cycle, Depth, TextTooLong}
use Rattle.yr_checks.specs.declared.refusal.Code.{Code}
use Rattle.yr_checks.specs.declared.refusal.Code.TheVariants as code
use Rattle.yr_image.specs.declared.fault.ImageFault.{ImageFault}
use Rattle.yr_image.specs.declared.fault.ImageFault.TheVariants as image

-- a text and a line feed
abbrev pub line : List ℕ → List ℕ
line text = text ++ codes "\n"

-- a blank and a number
abbrev pub spaced : ℕ → List ℕ
spaced n = codes " " ++ decimal n

-- a blank and a text, where there is one
abbrev pub spaced_text : List ℕ → List ℕ
spaced_text [] = []
spaced_text (b ∷ bs) = codes " " ++ b ∷ bs

-- the words do not read
abbrev pub bad_words : List ℕ
bad_words = line (codes "bad command line")

-- a file that could not be read
abbrev pub unread : (name : List ℕ) → List ℕ
unread name = line (codes "cannot read " ++ name)

-- a file that could not be written
abbrev pub unwritten : (name : List ℕ) → List ℕ
unwritten name = line (codes "cannot write " ++ name)

-- where there is no file to write, the output is meant
abbrev pub unwritten_to : Option (List ℕ) → List ℕ
unwritten_to None = unwritten (codes "output")
unwritten_to (Some name) = unwritten name

-- there was no memory
abbrev pub out_of_memory : List ℕ
out_of_memory = line (codes "out of memory")

-- a target that is too long
abbrev pub too_long : (target : List ℕ) → List ℕ
too_long target = line (target ++ codes ": too long")

-- `external NAME: WHY`
abbrev pub external_text : (name why : List ℕ) → List ℕ
external_text name why = line (codes "external " ++ (name ++ (codes ": " ++ why)))

-- `FILE:LINE: WHAT`
abbrev pub at_line : (file : List ℕ) → ℕ → (what : List ℕ) → List ℕ
at_line file n what = line (file ++ (codes ":" ++ (decimal n ++ (codes ": " ++ what))))

-- the name of a fault of the tokens; want of memory is none
abbrev pub lex_name : LexFault → List ℕ
lex_name (lex.Unclosed n) = codes "Unclosed"
lex_name (lex.BadEscape n) = codes "BadEscape"
lex_name (lex.Float n) = codes "Float"
lex_name (lex.BadByte n) = codes "BadByte"
lex_name (lex.TooLargeNumber n) = codes "TooLargeNumber"
lex_name (lex.LongName n) = codes "LongName"
lex_name lex.NoMemory = []

-- the line of a fault of the tokens
abbrev pub lex_line : LexFault → ℕ
lex_line (lex.Unclosed n) = n
lex_line (lex.BadEscape n) = n
lex_line (lex.Float n) = n
lex_line (lex.BadByte n) = n
lex_line (lex.TooLargeNumber n) = n
lex_line (lex.LongName n) = n
lex_line lex.NoMemory = 0

-- why files could not be gathered; Cycle and Depth name the file that is included
abbrev pub gather_text : WalkFault → List ℕ
gather_text (Lex file why) = at_line file (lex_line why) (lex_name why)
gather_text (Read name) = unread name
gather_text (Path file n) = at_line file n (codes "Path")
gather_text (Cycle file n name) = at_line file n (codes "Cycle " ++ name)
gather_text (Depth file n name) = at_line file n (codes "Depth " ++ name)
gather_text (TextTooLong name) = line (name ++ codes ": TextTooLong")

-- the name of what a check finds
abbrev pub code_name : Code → List ℕ
code_name code.UnknownModule = codes "UnknownModule"
code_name code.DuplicateRule = codes "DuplicateRule"
code_name code.WildcardRule = codes "WildcardRule"
code_name code.DuplicateTag = codes "DuplicateTag"
code_name code.DuplicateString = codes "DuplicateString"
code_name code.EmptyString = codes "EmptyString"
code_name code.BadModifiers = codes "BadModifiers"
code_name code.HexSyntax = codes "HexSyntax"
code_name code.HexJump = codes "HexJump"
code_name code.RegexSyntax = codes "RegexSyntax"
code_name code.RegexRange = codes "RegexRange"
code_name code.MixedGreed = codes "MixedGreed"
code_name code.PatternTooLarge = codes "PatternTooLarge"
code_name code.UnknownString = codes "UnknownString"
code_name code.UnknownName = codes "UnknownName"
code_name code.WrongType = codes "WrongType"
code_name code.UnusedString = codes "UnusedString"
code_name code.LoopDepth = codes "LoopDepth"
code_name code.ListTooLong = codes "ListTooLong"
code_name code.TooMany = codes "TooMany"
code_name code.TooHeavy = codes "TooHeavy"

-- a blank and a place, where there is one
abbrev pub place_text : Option ℕ → List ℕ
place_text None = []
place_text (Some place) = spaced place

-- `CODE RULE`, and what is named and its place where they are there
abbrev pub finding_text : Code → (rule named : List ℕ) → Option ℕ → List ℕ
finding_text c rule named place = code_name c ++ (codes " " ++ (rule ++ (spaced_text named ++ place_text place)))

-- the name of a fault of an image
abbrev pub image_name : ImageFault → List ℕ
image_name image.TooShort = codes "TooShort"
image_name image.Magic = codes "Magic"
image_name image.Version = codes "Version"
image_name image.Length = codes "Length"
image_name (image.Section k) = codes "Section"
image_name (image.Index section k) = codes "Index"
image_name (image.Name section k) = codes "Name"
image_name (image.Code rule place) = codes "Code"
image_name (image.ProgramBad k) = codes "ProgramBad"
image_name (image.Node n) = codes "Node"

-- the numbers of a fault of an image
abbrev pub image_numbers : ImageFault → List ℕ
image_numbers image.TooShort = []
image_numbers image.Magic = []
image_numbers image.Version = []
image_numbers image.Length = []
image_numbers (image.Section k) = k ∷ []
image_numbers (image.Index section k) = section ∷ k ∷ []
image_numbers (image.Name section k) = section ∷ k ∷ []
image_numbers (image.Code rule place) = rule ∷ place ∷ []
image_numbers (image.ProgramBad k) = k ∷ []
image_numbers (image.Node n) = n ∷ []

-- `IMAGE: CODE NUMBERS`
abbrev pub image_text : (name : List ℕ) → ImageFault → List ℕ
image_text name fault = line (name ++ (codes ": " ++ (image_name fault ++ flat_map spaced (image_numbers fault))))
