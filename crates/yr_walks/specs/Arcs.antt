-- The ways that the moves of a program lead, followed onwards or back, and what is noted of them.
use Rattle.std.specs.Prelude.{◌≡◌, ℕ, zero, suc, ◌+◌, ◌*◌, ◌/◌, ◌%◌, ◌≤◌, ◌⊎◌, ◌==◌, Bool, IsTrue, if◌then◌else◌, List, length, Option, Some, None, slice_get, option_map, option_and_then}
use Rattle.yr_rows.specs.Moves.{move_at}
use Rattle.yr_rows.specs.Accepts.{HasByte, holds}
use Rattle.yr_rows.specs.declared.moves.MoveRow.{MoveRow}
use Rattle.yr_rows.specs.declared.moves.Move.{Move}
use Rattle.yr_rows.specs.declared.moves.Move.TheVariants.{Accept, Set, Fork, Test}
use Rattle.yr_walks.specs.declared.edges.Edges.{Edges}

-- of a program of n moves, the move leads to move x: over this byte, or reading none at place i; Accept leads to n
abbrev pub Leads : (n : ℕ) → List (List ℕ) → List ℕ → (i : ℕ) → Move → Option ℕ → ℕ → Type 0
Leads n sets file i Accept None x = x ≡ n
Leads n sets file i Accept (Some b) x = ⊥
Leads n sets file i (Set next set) None x = ⊥
Leads n sets file i (Set next set) (Some b) x = (x ≡ next) × (bits : List ℕ) × (slice_get sets set ≡ Some bits) × HasByte bits b
Leads n sets file i (Fork next other) None x = (x ≡ next) ⊎ (x ≡ other)
Leads n sets file i (Fork next other) (Some b) x = ⊥
Leads n sets file i (Test assertion next) None x = (x ≡ next) × IsTrue (holds assertion file i)
Leads n sets file i (Test assertion next) (Some b) x = ⊥

module _ (back : Bool) (moves : List MoveRow) (sets : List (List ℕ)) (file : List ℕ) (i : ℕ) where
  -- followed onwards move x leads to y, followed back y leads to x
  abbrev pub Joins : Option ℕ → ℕ → ℕ → Type 0
  Joins byte x y =
      (v : Move) × (move_at moves (if back then y else x) ≡ Some v) × Leads (length moves) sets file i v byte (if back then x else y)

  -- k steps that read no byte lead from x to y
  abbrev pub Stays : ℕ → ℕ → ℕ → Type 0
  Stays zero x y = x ≡ y
  Stays (suc k) x y = (z : ℕ) × Joins None x z × Stays k z y

-- a move leads so, whatever stands in the file
abbrev pub Opens : List (List ℕ) → List ℕ → (i : ℕ) → Move → Option ℕ → Type 0
Opens sets file i Accept None = Unit {0}
Opens sets file i Accept (Some b) = ⊥
Opens sets file i (Set next set) None = ⊥
Opens sets file i (Set next set) (Some b) = (bits : List ℕ) × (slice_get sets set ≡ Some bits) × HasByte bits b
Opens sets file i (Fork next other) None = Unit {0}
Opens sets file i (Fork next other) (Some b) = ⊥
Opens sets file i (Test assertion next) None = IsTrue (holds assertion file i)
Opens sets file i (Test assertion next) (Some b) = ⊥

-- where the first way of a move leads, and where its other way does
abbrev pub first_way : (n : ℕ) → Move → Option ℕ
first_way n Accept = Some n
first_way n (Set next set) = Some next
first_way n (Fork next other) = Some next
first_way n (Test assertion next) = Some next

abbrev pub other_way : Move → Option ℕ
other_way Accept = None
other_way (Set next set) = None
other_way (Fork next other) = Some other
other_way (Test assertion next) = None

-- arc 2m is the first way of move m, and arc 2m + 1 its other way
abbrev pub way : (n e : ℕ) → Move → Option ℕ
way n e v = if (e % 2 == 0) then first_way n v else other_way v

-- from which move an arc is followed, and to which
abbrev pub head : (back : Bool) → (n e : ℕ) → Move → Option ℕ
head back n e v = if back then way n e v else option_map (λ _. e / 2) (way n e v)

abbrev pub tail : (back : Bool) → (n e : ℕ) → Move → Option ℕ
tail back n e v = if back then Some (e / 2) else way n e v

abbrev pub head_at : (back : Bool) → List MoveRow → ℕ → Option ℕ
head_at back moves e = option_and_then (head back (length moves) e) (move_at moves (e / 2))

-- the arcs below e that are followed from x are chained from this link: link l stands for arc l - 1, and 0 for none
abbrev pub HasChain : (heads : ℕ → Option ℕ) → (after : List ℕ) → (e link x : ℕ) → Type 0
HasChain heads after zero link x = link ≡ 0
HasChain heads after (suc e) link x =
    ((heads e ≡ Some x) × (link ≡ suc e) × (next : ℕ) × (slice_get after e ≡ Some next) × HasChain heads after e next x)
    ⊎ ((heads e ≡ Some x → ⊥) × HasChain heads after e link x)

-- from each move the arcs below e are chained
pub record AreChained (back : Bool) (moves : List MoveRow) (e : ℕ) (first after : List ℕ) : Type 0 where
  pub firsts : length first ≡ length moves + 1
  pub afters : length after ≡ 2 * length moves
  pub chains : (x : ℕ) → x ≤ length moves → (link : ℕ) × (slice_get first x ≡ Some link) × HasChain (head_at back moves) after e link x

-- these are all the arcs of the program
abbrev pub AreEdges : Bool → List MoveRow → Edges → Type 0
AreEdges back moves edges = (edges.back ≡ back) × AreChained back moves (2 * length moves) edges.first.items edges.after.items
