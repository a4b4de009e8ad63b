-- An image into which the strings of rules are put: a row for each string and each split, texts and programs for their sides.
use Rattle.std.specs.Prelude.{◌≡◌, ℕ, ◌+◌, ◌*◌, ◌≤◌, Bool, true, List, ◌++◌, length, All, Some, slice_get}
use Rattle.yr_pattern.specs.Variants.{PlainVariant}
use Rattle.yr_rules.specs.Rules.{PlainString, PlainRule, PlainRules}
use Rattle.yr_rules.specs.Weight.{total, string_weight, variant_weight}
use Rattle.yr_atoms.specs.Splits.{Piece, Split, piece_size}
use Rattle.yr_image.specs.declared.rows.RuleRow.{RuleRow}
use Rattle.yr_image.specs.declared.rows.StringRow.{StringRow}
use Rattle.yr_image.specs.Image.{Image, pool_text}
use Rattle.yr_image.specs.Encoding.{encoded_length}
use Rattle.yr_splits.specs.Placed.{Placed, StandForStrings, StandForPart}
use Rattle.yr_splits.specs.SplitRows.{flag, IsSide, AreSplitRows}
use Rattle.yr_splits.specs.Standing.{atoms_of}
use Rattle.yr_draft.specs.Growing.{Grows}
use Rattle.yr_splits.specs.Programs.{AreProgramRows}
use Rattle.yr_splits.specs.Lengths.{HaveLongAtoms, HaveLongAtomsSoFar}
use Rattle.yr_automaton.specs.Automaton.{Rows, IsAutomatonOf}
use Rattle.yr_splits.specs.Sizes.{total_length, piece_cost, rows_cost, atoms_cost}

-- the row says the string
pub record IsStringRow (image : Image) (string : PlainString) (row : StringRow) : Type 0 where
  pub inside : row.name_place + row.name_length ≤ length image.pool
  pub name : pool_text image row.name_place row.name_length ≡ string.name
  pub flags : row.flags ≡ flag string.hidden + 2 * flag string.greedy
  pub rule : row.rule ≡ string.rule

-- the rows of the strings, in order
pub record SayStrings (image : Image) (strings : List PlainString) : Type 0 where
  pub count : length image.strings ≡ length strings
  pub each : (k : ℕ) (string : PlainString) (row : StringRow) → slice_get strings k ≡ Some string
      → slice_get image.strings k ≡ Some row → IsStringRow image string row

-- a short atom, and a key only where letters count as they are
pub record IsSound (p : Placed) : Type 0 where
  pub short : length p.split.atom ≤ 4
  pub one : p.split.fold ≡ true → p.split.key ≡ 0

-- the image has the strings by these splits
pub record HasStrings (image : Image) (placed : List Placed) (strings : List PlainString) : Type 0 where
  pub splits : StandForStrings placed strings
  pub rows : AreSplitRows image placed
  pub string_rows : SayStrings image strings
  pub long : HaveLongAtoms placed strings
  pub sound : All IsSound placed

-- the same while a string is being put, of which the image has some variants
pub record HasPart (image : Image) (placed : List Placed) (strings : List PlainString) (variants : List PlainVariant) : Type 0 where
  pub splits : StandForPart placed strings variants
  pub rows : AreSplitRows image placed
  pub string_rows : SayStrings image strings
  pub long : HaveLongAtomsSoFar placed strings variants
  pub sound : All IsSound placed

-- pieces that are not too large for a program
abbrev pub IsSmall : Split → Type 0
IsSmall split = piece_size split.before + piece_size split.after ≤ 65535

-- a side of a split is put
pub record PutsSide (old new : Image) (backwards : Bool) (piece : Piece) (kind place count : ℕ) : Type 0 where
  pub others : new ≡ record old { sets = new.sets; programs = new.programs; moves = new.moves; pool = new.pool }
  pub grows : Grows old new
  pub programs : AreProgramRows old → AreProgramRows new
  pub is : IsSide new backwards piece kind place count
  pub cost : encoded_length new ≤ encoded_length old + piece_cost piece

-- splits are put
pub record PutsSplits (old new : Image) (added : List Placed) : Type 0 where
  pub others : new ≡ record old { splits = new.splits; sets = new.sets; programs = new.programs; moves = new.moves; pool = new.pool }
  pub grows : Grows old new
  pub programs : AreProgramRows old → AreProgramRows new
  pub rows : (placed : List Placed) → AreSplitRows old placed → AreSplitRows new (placed ++ added)
  pub cost : encoded_length new ≤ encoded_length old + rows_cost added

-- since then only strings, splits, texts and programs have come
pub record IsLater (start image : Image) : Type 0 where
  pub others : image ≡ record start { strings = image.strings; splits = image.splits; sets = image.sets; programs = image.programs; moves = image.moves; pool = image.pool }
  pub grows : Grows start image
  pub programs : AreProgramRows start → AreProgramRows image

-- from a first image on the strings have been put, and their atoms kept; the bytes that they cost, with those of the automaton to come
pub record Filled (start image : Image) (placed : List Placed) (strings : List PlainString) (atoms : List (List ℕ)) : Type 0 where
  pub has : HasStrings image placed strings
  pub later : IsLater start image
  pub atoms_are : atoms ≡ atoms_of placed
  pub few : length placed ≤ total string_weight strings
  pub cost : encoded_length image + atoms_cost placed ≤ encoded_length start + 64 * total string_weight strings

pub record FilledPart (start image : Image) (placed : List Placed) (strings : List PlainString) (variants : List PlainVariant) (atoms : List (List ℕ)) : Type 0 where
  pub has : HasPart image placed strings variants
  pub later : IsLater start image
  pub atoms_are : atoms ≡ atoms_of placed
  pub few : length placed ≤ total string_weight strings + total variant_weight variants
  pub cost : encoded_length image + atoms_cost placed
      ≤ encoded_length start + 64 * (total string_weight strings + total variant_weight variants)

-- the rows of an image's automaton
abbrev pub rows_in : Image → Rows
rows_in image = record { nodes = image.nodes; edges = image.edges; outputs = image.outputs }

-- the automaton of words is put; besides 32 bytes it costs 4 for each word, and 32 for each of their bytes
pub record PutsAutomaton (old new : Image) (words : List (List ℕ)) : Type 0 where
  pub others : new ≡ record old { nodes = new.nodes; edges = new.edges; outputs = new.outputs }
  pub is : IsAutomatonOf words (rows_in new)
  pub cost : encoded_length new ≤ encoded_length old + 32 + (4 * length words + 32 * total_length words)

-- strings are put into an image that had none, with the automaton of their atoms
pub record PutsStrings (old new : Image) (strings : List PlainString) : Type 0 where
  pub placed : List Placed
  pub has : HasStrings new placed strings
  pub automaton : IsAutomatonOf (atoms_of placed) (rows_in new)
  pub others : new ≡ record old {
    strings = new.strings;
    splits = new.splits;
    sets = new.sets;
    programs = new.programs;
    moves = new.moves;
    nodes = new.nodes;
    edges = new.edges;
    outputs = new.outputs;
    pool = new.pool;
  }
  pub grows : Grows old new
  pub programs : AreProgramRows old → AreProgramRows new
  pub cost : encoded_length new ≤ encoded_length old + 64 * total string_weight strings + 32

-- strings, splits and automaton have stayed as they were
pub record KeepsStrings (old new : Image) : Type 0 where
  pub strings : new.strings ≡ old.strings
  pub splits : new.splits ≡ old.splits
  pub nodes : new.nodes ≡ old.nodes
  pub edges : new.edges ≡ old.edges
  pub outputs : new.outputs ≡ old.outputs

-- the rows of rules have the ranges of their strings
pub record SayRanges (image : Image) (rules : PlainRules) : Type 0 where
  pub count : length image.rules ≡ length rules.rules
  pub each : (i : ℕ) (rule : PlainRule) (row : RuleRow) → slice_get rules.rules i ≡ Some rule → slice_get image.rules i ≡ Some row
      → (row.first_string ≡ rule.first_string) × (row.strings ≡ rule.string_count)
