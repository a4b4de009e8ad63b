-- How the front of a text is read. These functions serve the proofs: the definitions above them say what a text has.
use Rattle.std.specs.Prelude.{◌≡◌, ℕ, zero, suc, ◌+◌, ◌-◌, ◌*◌, ◌^◌, min, max, Bool, true, false, not, ◌||◌, ◌&&◌, ◌==◌, nat_le, List, [], ◌∷◌, ◌++◌, length, Option, Some, None, Result, Ok, Err, if◌then◌else◌}
use Rattle.yr_base.specs.Bytes.{is_digit}
use Rattle.yr_pattern.specs.Set.{no_byte, either, only}
use Rattle.yr_pattern.specs.Tree.{Tree, Empty, One, Seq, Alt, Rep, Start, End, Edge, NotEdge, trees_of}
use Rattle.yr_regex.specs.declared.fault.RegexFault.{RegexFault}
use Rattle.yr_regex.specs.declared.fault.RegexFault.TheVariants.{RegexSyntax, RegexRange, MixedGreed, NoMemory}
use Rattle.yr_regex.specs.declared.bounds.Bounds.{Bounds}
use Rattle.yr_regex.specs.Escapes.{Text, is_sign, hex_digit, escaped, kind, between}
use Rattle.yr_regex.specs.Classes.{goes_on}
use Rattle.yr_regex.specs.Expressions.{Member, Single, Kind, Range, Element, Piece, Pieces, Branches, Byte, Any, Set, Class, Group, Alone, Repeated, AtStart, AtEnd, AtEdge, AtNoEdge, none, more}
use Rattle.yr_regex.specs.Expressions as raw
use Rattle.yr_regex.specs.Meaning.{cased, class_bytes, dot_bytes}

-- ---- steps

abbrev pub Outcome : Type 0 → Type 0
Outcome A = Option (A × Text)

abbrev pub and_then : {A B : Type 0} → Outcome A → (A → Text → Outcome B) → Outcome B
and_then None f = None
and_then (Some x) f = f x.0 x.1

abbrev pub or_else : {A : Type 0} → Outcome A → Outcome A → Outcome A
or_else None other = other
or_else (Some x) other = Some x

abbrev pub mapped : {A B : Type 0} → (A → B) → Outcome A → Outcome B
mapped f None = None
mapped f (Some x) = Some (f x.0, x.1)

abbrev pub is_some : {A : Type 0} → Outcome A → Bool
is_some None = false
is_some (Some x) = true

-- what a call that reads gives: what is read, unless there is no memory
abbrev pub Yields : {A B : Type 0} → (A → B) → Outcome B → Result A RegexFault → Text → Type 0
Yields view outcome (Ok a) new = outcome ≡ Some (view a, new)
Yields view outcome (Err RegexSyntax) new = outcome ≡ None
Yields view outcome (Err (RegexRange place)) new = ⊥
Yields view outcome (Err MixedGreed) new = ⊥
Yields view outcome (Err NoMemory) new = Unit {0}

-- the same for a call that takes no memory
abbrev pub Finds : {A B : Type 0} → (A → B) → Outcome B → Option A → Text → Type 0
Finds view outcome (Some a) new = outcome ≡ Some (view a, new)
Finds view outcome None new = outcome ≡ None

abbrev pub tail : Text → Text
tail [] = []
tail (b ∷ t) = t

unfoldable pub sees : ℕ → Text → Bool
sees b [] = false
sees b (c ∷ t) = c == b

unfoldable pub after : ℕ → Text → Text
after b t = if sees b t then tail t else t

unfoldable pub expect : ℕ → Text → Outcome (Unit {0})
expect b t = if sees b t then Some (tt, tail t) else None

abbrev pub with_rest : {A : Type 0} → Option A → Text → Outcome A
with_rest None t = None
with_rest (Some a) t = Some (a, t)

-- ---- bytes, escapes and sets; what follows the `\`

unfoldable pub read_digit : Text → Outcome ℕ
read_digit [] = None
read_digit (b ∷ t) = with_rest (hex_digit b) t

unfoldable pub read_hex : Text → Outcome ℕ
read_hex t = and_then (read_digit t) (λ high u. and_then (read_digit u) (λ low v. Some (16 * high + low, v)))

unfoldable pub read_escaped : Text → Outcome ℕ
read_escaped [] = None
read_escaped (c ∷ t) = if c == 120 then read_hex t else with_rest (escaped c) t

unfoldable pub read_kind : Text → Outcome (ℕ → Bool)
read_kind [] = None
read_kind (c ∷ t) = with_rest (kind c) t

-- a set with its `\`
unfoldable pub read_set : Text → Outcome (ℕ → Bool)
read_set t = if sees 92 t then read_kind (after 92 t) else None

-- ---- quantifiers

abbrev pub bounds : ℕ → Option ℕ → Bool → Bounds
bounds least most exact = record { least = least; most = most; exact = exact }

unfoldable pub read_close : Bounds → Text → Outcome Bounds
read_close b t = and_then (expect 125 t) (λ _ u. Some (b, u))

-- where each number goes through `cap` at each digit
module _ (cap : ℕ → ℕ) where
  unfoldable pub past_digits : ℕ → Text → ℕ × Text
  past_digits n [] = (n, [])
  past_digits n (b ∷ t) = if is_digit b then past_digits (cap (10 * n + (b - 48))) t else (n, b ∷ t)

  unfoldable pub read_number : Text → Outcome ℕ
  read_number [] = None
  read_number (b ∷ t) = if is_digit b then Some (past_digits (b - 48) t) else None

  -- at a last number
  unfoldable pub read_most : ℕ → Text → Outcome Bounds
  read_most least t = and_then (read_number t) (λ most u. read_close (bounds least (Some most) false) u)

  -- after the `,` that follows a first number
  unfoldable pub read_last : ℕ → Text → Outcome Bounds
  read_last least t = if sees 125 t then Some (bounds least None false, after 125 t) else read_most least (after 125 t)

  -- after a first number
  unfoldable pub read_next : ℕ → Text → Outcome Bounds
  read_next least t = if sees 44 t then read_last least (after 44 t) else read_close (bounds least (Some least) true) (after 44 t)

  -- after a `{`
  unfoldable pub read_braced : Text → Outcome Bounds
  read_braced t = if sees 44 t then read_most 0 (after 44 t) else and_then (read_number (after 44 t)) read_next

  unfoldable pub read_quantifier : Text → Outcome Bounds
  read_quantifier [] = None
  read_quantifier (b ∷ t) =
      if b == 42 then Some (bounds 0 None false, t)
      else if b == 43 then Some (bounds 1 None false, t)
      else if b == 63 then Some (bounds 0 (Some 1) false, t)
      else if b == 123 then read_braced t
      else None

-- at most the greatest number of 32 bits
abbrev pub cut : ℕ → ℕ
cut n = min n (2 ^ 32 - 1)

-- each number as it stands
abbrev pub same : ℕ → ℕ
same n = n

abbrev pub capped : (ℕ → ℕ) → Option ℕ → Option ℕ
capped cap None = None
capped cap (Some n) = Some (cap n)

-- a quantifier may have these bounds
abbrev pub allows : ℕ → Option ℕ → Bool
allows least None = nat_le least 32767
allows least (Some most) = nat_le least most && nat_le most 32767

-- ---- classes

-- the place that stands first of the two
abbrev pub first_of : Option ℕ → Option ℕ → Option ℕ
first_of None b = b
first_of (Some a) None = Some a
first_of (Some a) (Some b) = Some (max a b)

-- bytes, and the first bad range among them. Places go by the bytes that are left.
pub record BytesRead : Type 0 where
  pub bytes : ℕ → Bool
  pub bad : Option ℕ

abbrev pub no_bytes : BytesRead
no_bytes = record { bytes = no_byte; bad = None }

abbrev pub all_bytes : BytesRead → BytesRead → BytesRead
all_bytes a b = record { bytes = either a.bytes b.bytes; bad = first_of a.bad b.bad }

abbrev pub range_bad : ℕ → ℕ → ℕ → Option ℕ
range_bad left from to = if nat_le from to then None else Some left

abbrev pub member_read : Member → BytesRead
member_read (Single b) = record { bytes = only b; bad = None }
member_read (Kind bytes) = record { bytes = bytes; bad = None }
member_read (Range left from to) = record { bytes = between from to; bad = range_bad left from to }

abbrev pub members_read : List Member → BytesRead
members_read [] = no_bytes
members_read (m ∷ ms) = all_bytes (member_read m) (members_read ms)

unfoldable pub read_single : (first : Bool) → Text → Outcome ℕ
read_single first [] = None
read_single first (b ∷ t) = if b == 92 then read_escaped t else if b == 93 && not first then None else Some (b, t)

-- after the first byte of what may be a range, at which so many bytes were left
unfoldable pub read_range : ℕ → ℕ → Text → Outcome Member
read_range left from t = if goes_on t then and_then (read_single false (tail t)) (λ to u. Some (Range left from to, u)) else Some (Single from, t)

unfoldable pub read_bytes : (first : Bool) → Text → Outcome Member
read_bytes first t = and_then (read_single first t) (λ b u. read_range (length t) b u)

unfoldable pub read_member : (first : Bool) → Text → Outcome Member
read_member first t = or_else (mapped Kind (read_set t)) (read_bytes first t)

-- members and the `]` behind them; the number bounds how many there are
unfoldable pub members_from : ℕ → (first : Bool) → Text → Outcome (List Member)
members_from zero first t = None
members_from (suc n) first t = and_then (read_member first t) (λ m u.
    if sees 93 u then Some (m ∷ [], after 93 u) else mapped (λ ms. m ∷ ms) (members_from n false u))

-- after the `[`
unfoldable pub read_class : Text → Outcome Element
read_class t = mapped (Class (sees 94 t)) (members_from (length (after 94 t)) true (after 94 t))

-- ---- elements and pieces

-- with which no quantifier begins
unfoldable pub read_byte : ℕ → Text → Outcome Element
read_byte b t = if is_sign b then None else if is_some (read_quantifier same (b ∷ t)) then None else Some (Byte b, t)

-- after the `\`
unfoldable pub read_escape : Text → Outcome Element
read_escape t = or_else (mapped Set (read_kind t)) (mapped Byte (read_escaped t))

-- an element that is no group
unfoldable pub read_simple : ℕ → Text → Outcome Element
read_simple b t =
    if b == 91 then read_class t
    else if b == 92 then read_escape t
    else if b == 46 then Some (Any, t)
    else read_byte b t

-- one of four, with `^`, `$`, `\b` and `\B`
module _ {A : Type 0} (start end edge no_edge : A) where
  unfoldable pub read_edge : Text → Outcome A
  read_edge [] = None
  read_edge (c ∷ t) = if c == 98 then Some (edge, t) else if c == 66 then Some (no_edge, t) else None

  unfoldable pub read_anchor : Text → Outcome A
  read_anchor [] = None
  read_anchor (b ∷ t) = if b == 94 then Some (start, t) else if b == 36 then Some (end, t) else if b == 92 then read_edge t else None

-- an element, and the quantifier behind it where there is one
abbrev pub repeat_by : Element → Text → Outcome Bounds → Piece × Text
repeat_by e t None = (Alone e, t)
repeat_by e t (Some x) = (Repeated e (length t) x.0.least x.0.most x.0.exact (sees 63 x.1), after 63 x.1)

unfoldable pub quantified : Element → Text → Piece × Text
quantified e t = repeat_by e t (read_quantifier same t)

-- a list of pieces ends here: at the end, at `)` or at `|`
abbrev pub ends : Text → Bool
ends [] = true
ends (b ∷ t) = b == 41 || b == 124

-- where `group` reads what follows a `(`
module _ (group : Text → Outcome Branches) where
  unfoldable pub read_element : Text → Outcome Element
  read_element [] = None
  read_element (b ∷ t) = if b == 40 then mapped Group (group t) else read_simple b t

  unfoldable pub read_piece : Text → Outcome Piece
  read_piece t = or_else (read_anchor AtStart AtEnd AtEdge AtNoEdge t) (and_then (read_element t) (λ e u. Some (quantified e u)))

  -- the number bounds how many there are
  unfoldable pub pieces_from : ℕ → Text → Outcome Pieces
  pieces_from zero t = if ends t then Some (none, t) else None
  pieces_from (suc n) t = if ends t then Some (none, t) else and_then (read_piece t) (λ p u. mapped (more p) (pieces_from n u))

  unfoldable pub read_pieces : Text → Outcome Pieces
  read_pieces t = pieces_from (length t) t

  unfoldable pub branches_from : ℕ → Text → Outcome Branches
  branches_from zero t = None
  branches_from (suc n) t = and_then (read_pieces t) (λ ps u. if sees 124 u then mapped (raw.or ps) (branches_from n (after 124 u)) else Some (raw.only ps, after 124 u))

  unfoldable pub read_branches : Text → Outcome Branches
  read_branches t = branches_from (suc (length t)) t

-- after a `(`, where groups nest no deeper than the number
unfoldable pub group_at : ℕ → Text → Outcome Branches
group_at zero t = None
group_at (suc n) t = and_then (read_branches (group_at n) t) (λ bs u. if sees 41 u then Some (bs, after 41 u) else None)

-- ---- the patterns made at once, with the numbers cut

-- the first bad place, and whether a quantifier with a `?`, and one without, stands there
pub record MarksRead : Type 0 where
  pub bad : Option ℕ
  pub lazy : Bool
  pub eager : Bool

abbrev pub no_marks : MarksRead
no_marks = record { bad = None; lazy = false; eager = false }

abbrev pub both : MarksRead → MarksRead → MarksRead
both a b = record { bad = first_of a.bad b.bad; lazy = a.lazy || b.lazy; eager = a.eager || b.eager }

pub record PartRead : Type 0 where
  pub tree : Tree
  pub marks : MarksRead

pub record ListRead : Type 0 where
  pub trees : List Tree
  pub marks : MarksRead

abbrev pub plain : Tree → PartRead
plain tree = record { tree = tree; marks = no_marks }

abbrev pub nothing : ListRead
nothing = record { trees = []; marks = no_marks }

abbrev pub append : ListRead → ListRead → ListRead
append l r = record { trees = l.trees ++ r.trees; marks = both l.marks r.marks }

abbrev pub single : PartRead → ListRead
single p = record { trees = p.tree ∷ []; marks = p.marks }

abbrev pub push : ListRead → PartRead → ListRead
push l p = append l (single p)

abbrev pub sequence_of : List Tree → Tree
sequence_of [] = Empty
sequence_of (t ∷ ts) = Seq (trees_of (t ∷ ts))

abbrev pub sequence : ListRead → PartRead
sequence l = record { tree = sequence_of l.trees; marks = l.marks }

abbrev pub choice : ListRead → PartRead
choice l = record { tree = Alt (trees_of l.trees); marks = l.marks }

abbrev pub quantifier_marks : ℕ → Bounds → Bool → MarksRead
quantifier_marks left b lazy = record {
  bad = if allows b.least b.most then None else Some left;
  lazy = not b.exact && lazy;
  eager = not b.exact && not lazy;
}

abbrev pub repeated : PartRead → ℕ → Bounds → Bool → PartRead
repeated p left b lazy = record { tree = Rep p.tree b.least b.most; marks = both p.marks (quantifier_marks left b lazy) }

abbrev pub repeat_part : PartRead → Text → Outcome Bounds → PartRead × Text
repeat_part p t None = (p, t)
repeat_part p t (Some x) = (repeated p (length t) x.0 (sees 63 x.1), after 63 x.1)

unfoldable pub quantified_part : PartRead → Text → PartRead × Text
quantified_part p t = repeat_part p t (read_quantifier cut t)

abbrev pub class_part : (nocase negated : Bool) → BytesRead → PartRead
class_part nocase negated c = record {
  tree = One (class_bytes nocase negated c.bytes);
  marks = record { bad = c.bad; lazy = false; eager = false };
}

abbrev pub byte_part : (nocase : Bool) → ℕ → PartRead
byte_part nocase b = plain (One (cased nocase (only b)))

abbrev pub set_part : (ℕ → Bool) → PartRead
set_part bytes = plain (One bytes)

-- what `read_byte` reads, as a quantifier's numbers are cut
unfoldable pub byte_at : (nocase : Bool) → ℕ → Text → Outcome PartRead
byte_at nocase b t = if is_sign b then None else if is_some (read_quantifier cut (b ∷ t)) then None else Some (byte_part nocase b, t)

unfoldable pub escape_at : (nocase : Bool) → Text → Outcome PartRead
escape_at nocase t = or_else (mapped set_part (read_kind t)) (mapped (byte_part nocase) (read_escaped t))

unfoldable pub range_at : ℕ → ℕ → Text → Outcome BytesRead
range_at left from t = if goes_on t then and_then (read_single false (tail t)) (λ to u. Some (member_read (Range left from to), u)) else Some (member_read (Single from), t)

unfoldable pub bytes_at : (first : Bool) → Text → Outcome BytesRead
bytes_at first t = and_then (read_single first t) (λ b u. range_at (length t) b u)

unfoldable pub member_at : (first : Bool) → Text → Outcome BytesRead
member_at first t = or_else (mapped (λ s. member_read (Kind s)) (read_set t)) (bytes_at first t)

-- more members after these
unfoldable pub members_at : ℕ → (first : Bool) → BytesRead → Text → Outcome BytesRead
members_at zero first c t = None
members_at (suc n) first c t = and_then (member_at first t) (λ m u.
    if sees 93 u then Some (all_bytes c m, after 93 u) else members_at n false (all_bytes c m) u)

unfoldable pub class_at : (nocase : Bool) → Text → Outcome PartRead
class_at nocase t = mapped (class_part nocase (sees 94 t)) (members_at (length (after 94 t)) true no_bytes (after 94 t))

module _ (nocase dot_all : Bool) where
  unfoldable pub simple_at : ℕ → Text → Outcome PartRead
  simple_at b t =
      if b == 91 then class_at nocase t
      else if b == 92 then escape_at nocase t
      else if b == 46 then Some (set_part (dot_bytes dot_all), t)
      else byte_at nocase b t

  module _ (group : Text → Outcome PartRead) where
    unfoldable pub element_at : Text → Outcome PartRead
    element_at [] = None
    element_at (b ∷ t) = if b == 40 then group t else simple_at b t

    unfoldable pub piece_at : Text → Outcome PartRead
    piece_at t = or_else (mapped plain (read_anchor Start End Edge NotEdge t)) (and_then (element_at t) (λ p u. Some (quantified_part p u)))

    -- more pieces after these
    unfoldable pub pieces_at : ℕ → ListRead → Text → Outcome PartRead
    pieces_at zero l t = if ends t then Some (sequence l, t) else None
    pieces_at (suc n) l t = if ends t then Some (sequence l, t) else and_then (piece_at t) (λ p u. pieces_at n (push l p) u)

    unfoldable pub sequence_at : Text → Outcome PartRead
    sequence_at t = pieces_at (length t) nothing t

    -- more branches after these
    unfoldable pub branches_at : ℕ → ListRead → Text → Outcome PartRead
    branches_at zero c t = None
    branches_at (suc n) c t = and_then (sequence_at t) (λ p u.
        if sees 124 u then branches_at n (push c p) (after 124 u) else Some (choice (push c p), after 124 u))

    unfoldable pub expression_at : Text → Outcome PartRead
    expression_at t = and_then (sequence_at t) (λ p u.
        if sees 124 u then branches_at (length t) (single p) (after 124 u) else Some (p, after 124 u))

  -- after a `(`
  unfoldable pub grouped_at : ℕ → Text → Outcome PartRead
  grouped_at zero t = None
  grouped_at (suc n) t = and_then (expression_at (grouped_at n) t) (λ p u. if sees 41 u then Some (p, after 41 u) else None)
