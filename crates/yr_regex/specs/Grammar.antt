-- The grammar of regular expressions ('Writing YARA rules', Regular expressions). Each relation says that something stands at the front of a text, and what follows it.
use Rattle.std.specs.Prelude.{◌≡◌, ℕ, suc, Bool, true, false, List, [], ◌∷◌, length, Option, Some}
use Rattle.yr_regex.specs.Escapes.{Text, is_sign, kind, ReadsEscape}
use Rattle.yr_regex.specs.Quantifiers.{ReadsQuantifier, BeginsNone}
use Rattle.yr_regex.specs.Classes.{ReadsClass}
use Rattle.yr_regex.specs.Expressions.{Member, Element, Piece, Pieces, Branches, Byte, Any, Set, Class, Group, Alone, Repeated, AtStart, AtEnd, AtEdge, AtNoEdge, none, more, only, or}

mutual
  -- what a quantifier may follow, with groups nested no deeper than the number: a byte that is no sign and with which no quantifier begins, an escape, `.`, a set, a class, a group
  pub data ReadsElement : ℕ → Text → Element → Text → Type 0 where
    byte : {n b : ℕ} {rest : Text} → is_sign b ≡ false → BeginsNone (b ∷ rest) → ReadsElement n (b ∷ rest) (Byte b) rest
    escape : {n b : ℕ} {t rest : Text} → ReadsEscape t b rest → ReadsElement n t (Byte b) rest
    any : {n : ℕ} {rest : Text} → ReadsElement n (46 ∷ rest) Any rest
    set : {n c : ℕ} {bytes : ℕ → Bool} {rest : Text} → kind c ≡ Some bytes → ReadsElement n (92 ∷ c ∷ rest) (Set bytes) rest
    class : {n : ℕ} {negated : Bool} {ms : List Member} {t rest : Text} → ReadsClass t negated ms rest → ReadsElement n t (Class negated ms) rest
    group : {n : ℕ} {bs : Branches} {t rest : Text} → ReadsBranches n t bs (41 ∷ rest) → ReadsElement (suc n) (40 ∷ t) (Group bs) rest

  -- an element, with or without a quantifier and a `?` behind it, or `^`, `$`, `\b`, `\B`
  pub data ReadsPiece : ℕ → Text → Piece → Text → Type 0 where
    alone : {n : ℕ} {e : Element} {t rest : Text} → ReadsElement n t e rest → ReadsPiece n t (Alone e) rest
    repeated : {n least : ℕ} {most : Option ℕ} {exact : Bool} {e : Element} {t u rest : Text} → ReadsElement n t e u → ReadsQuantifier u least most exact rest
        → ReadsPiece n t (Repeated e (length u) least most exact false) rest
    lazy : {n least : ℕ} {most : Option ℕ} {exact : Bool} {e : Element} {t u rest : Text} → ReadsElement n t e u → ReadsQuantifier u least most exact (63 ∷ rest)
        → ReadsPiece n t (Repeated e (length u) least most exact true) rest
    start : {n : ℕ} {rest : Text} → ReadsPiece n (94 ∷ rest) AtStart rest
    end : {n : ℕ} {rest : Text} → ReadsPiece n (36 ∷ rest) AtEnd rest
    edge : {n : ℕ} {rest : Text} → ReadsPiece n (92 ∷ 98 ∷ rest) AtEdge rest
    no_edge : {n : ℕ} {rest : Text} → ReadsPiece n (92 ∷ 66 ∷ rest) AtNoEdge rest

  -- any number of pieces
  pub data ReadsPieces : ℕ → Text → Pieces → Text → Type 0 where
    no_piece : {n : ℕ} {t : Text} → ReadsPieces n t none t
    piece_then : {n : ℕ} {p : Piece} {ps : Pieces} {t u rest : Text} → ReadsPiece n t p u → ReadsPieces n u ps rest → ReadsPieces n t (more p ps) rest

  -- branches, with `|` between them
  pub data ReadsBranches : ℕ → Text → Branches → Text → Type 0 where
    last_branch : {n : ℕ} {ps : Pieces} {t rest : Text} → ReadsPieces n t ps rest → ReadsBranches n t (only ps) rest
    branch_then : {n : ℕ} {ps : Pieces} {bs : Branches} {t u rest : Text} → ReadsPieces n t ps (124 ∷ u) → ReadsBranches n u bs rest → ReadsBranches n t (or ps bs) rest

-- the whole text says these branches, with groups nested at most 64 deep
abbrev pub SpellsRegex : Text → Branches → Type 0
SpellsRegex t bs = ReadsBranches 64 t bs []
