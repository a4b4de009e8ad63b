-- How the front of a text is read, with the patterns made at once and the numbers cut. These functions serve the proofs: the definitions above them say what a text has.
use Rattle.std.specs.Prelude.{◌≡◌, ℕ, zero, suc, ◌+◌, ◌-◌, ◌*◌, ◌^◌, min, max, Bool, true, false, not, ◌||◌, ◌&&◌, ◌==◌, nat_le, List, [], ◌∷◌, ◌++◌, length, Option, Some, None, Result, Ok, Err, if◌then◌else◌}
use Rattle.yr_base.specs.Bytes.{is_blank, is_digit}
use Rattle.yr_pattern.specs.Set.{any_byte}
use Rattle.yr_pattern.specs.Tree.{Tree, One, Seq, Alt, Rep, trees_of}
use Rattle.yr_hex.specs.declared.fault.HexFault.{HexFault}
use Rattle.yr_hex.specs.declared.fault.HexFault.TheVariants.{HexSyntax, HexJump, NoMemory}
use Rattle.yr_hex.specs.declared.jump.Numbers.{Numbers}
use Rattle.yr_hex.specs.Gaps.{Text}
use Rattle.yr_hex.specs.Items.{Item, Items, Branches, Byte, Jump, Group, last, more, only, or}
use Rattle.yr_hex.specs.Grammar.{half}
use Rattle.yr_hex.specs.Meaning.{class_of}

-- ---- steps

abbrev pub Outcome : Type 0 → Type 0
Outcome A = Option (A × Text)

abbrev pub and_then : {A B : Type 0} → Outcome A → (A → Text → Outcome B) → Outcome B
and_then None f = None
and_then (Some x) f = f x.0 x.1

-- what a call that reads gives: what is read, unless there is no memory
abbrev pub Yields : {A B : Type 0} → (A → B) → Outcome B → Result A HexFault → Text → Type 0
Yields view outcome (Ok a) new = outcome ≡ Some (view a, new)
Yields view outcome (Err HexSyntax) new = outcome ≡ None
Yields view outcome (Err (HexJump place)) new = ⊥
Yields view outcome (Err NoMemory) new = Unit {0}

abbrev pub tail : Text → Text
tail [] = []
tail (b ∷ t) = t

unfoldable pub sees : ℕ → Text → Bool
sees b [] = false
sees b (c ∷ t) = c == b

unfoldable pub after : ℕ → Text → Text
after b t = if sees b t then tail t else t

unfoldable pub expect : ℕ → Text → Outcome (Unit {0})
expect b t = if sees b t then Some (tt, tail t) else None

-- ---- blanks and comments

unfoldable pub past_line : Text → Text
past_line [] = []
past_line (b ∷ t) = if b == 10 then b ∷ t else past_line t

-- the flag says that a `*` stands before
unfoldable pub past_block : Bool → Text → Option Text
past_block star [] = None
past_block star (b ∷ t) = if star && b == 47 then Some t else past_block (b == 42) t

-- after the comment that the bytes behind a `/` go on with
abbrev pub past_comment : Text → Option Text
past_comment [] = None
past_comment (b ∷ t) = if b == 47 then Some (past_line t) else if b == 42 then past_block false t else None

unfoldable pub past_piece : Text → Option Text
past_piece [] = None
past_piece (b ∷ t) = if is_blank b then Some t else if b == 47 then past_comment t else None

abbrev pub or_else : Text → (Text → Text) → Option Text → Text
or_else t f None = t
or_else t f (Some u) = f u

-- the number bounds how many there are
unfoldable pub past_pieces : ℕ → Text → Text
past_pieces zero t = t
past_pieces (suc n) t = or_else t (past_pieces n) (past_piece t)

unfoldable pub past_gap : Text → Text
past_gap t = past_pieces (length t) t

-- ---- bytes

abbrev pub with_rest : {A : Type 0} → Option A → Text → Outcome A
with_rest None t = None
with_rest (Some a) t = Some (a, t)

unfoldable pub read_half : Text → Outcome (Option ℕ)
read_half [] = None
read_half (b ∷ t) = with_rest (half b) t

abbrev pub is_any : Option ℕ → Bool
is_any None = true
is_any (Some d) = false

unfoldable pub read_halves : Bool → Text → Outcome (ℕ → Bool)
read_halves negated t = and_then (read_half t) (λ high u. and_then (read_half u) (λ low v.
    if negated && (is_any high && is_any low) then None else Some (class_of negated high low, v)))

unfoldable pub read_byte : Text → Outcome (ℕ → Bool)
read_byte t = read_halves (sees 126 t) (after 126 t)

-- ---- jumps

abbrev pub numbers : ℕ → Option ℕ → Numbers
numbers least most = record { least = least; most = most }

-- after blanks and comments, the `]` of a jump with these numbers
unfoldable pub read_close : ℕ → Option ℕ → Text → Outcome Numbers
read_close least most t = and_then (expect 93 (past_gap t)) (λ _ u. Some (numbers least most, u))

abbrev pub capped : (ℕ → ℕ) → Option ℕ → Option ℕ
capped cap None = None
capped cap (Some n) = Some (cap n)

-- where each number goes through `cap` at each digit
module _ (cap : ℕ → ℕ) where
  unfoldable pub past_digits : ℕ → Text → ℕ × Text
  past_digits n [] = (n, [])
  past_digits n (b ∷ t) = if is_digit b then past_digits (cap (10 * n + (b - 48))) t else (n, b ∷ t)

  unfoldable pub read_number : Text → Outcome ℕ
  read_number [] = None
  read_number (b ∷ t) = if is_digit b then Some (past_digits (b - 48) t) else None

  -- after the `-` that follows a first number
  unfoldable pub read_last : ℕ → Text → Outcome Numbers
  read_last least t =
      if sees 93 (past_gap t) then Some (numbers least None, after 93 (past_gap t))
      else and_then (read_number (after 93 (past_gap t))) (λ most u. read_close least (Some most) u)

  -- after a first number
  unfoldable pub read_next : ℕ → Text → Outcome Numbers
  read_next least t = if sees 45 (past_gap t) then read_last least (after 45 (past_gap t)) else read_close least (Some least) (after 45 (past_gap t))

  -- at a first number
  unfoldable pub read_first : Text → Outcome Numbers
  read_first t = and_then (read_number t) read_next

  -- after the `[`
  unfoldable pub read_numbers : Text → Outcome Numbers
  read_numbers t = if sees 45 (past_gap t) then read_close 0 None (after 45 (past_gap t)) else read_first (after 45 (past_gap t))

-- at most the greatest number of 32 bits
abbrev pub cut : ℕ → ℕ
cut n = min n (2 ^ 32 - 1)

-- the numbers may stand in a jump
abbrev pub allows : (inside : Bool) → ℕ → Option ℕ → Bool
allows inside least None = not inside && nat_le least 65535
allows inside least (Some most) = nat_le least most && nat_le most (if inside then 200 else 65535)

-- ---- items

-- an item: its tree, its place where it is a jump, and its first bad jump where it has one. Places go by the bytes that are left.
pub record PartRead : Type 0 where
  pub tree : Tree
  pub jump : Option ℕ
  pub bad : Option ℕ

-- items: their trees, the place of the last where that is a jump, and the first bad jump
pub record ListRead : Type 0 where
  pub members : List Tree
  pub jump : Option ℕ
  pub bad : Option ℕ

-- branches: their trees, and the first bad jump
pub record ChoiceRead : Type 0 where
  pub branches : List Tree
  pub bad : Option ℕ

-- the place that stands first of the two
abbrev pub first_of : Option ℕ → Option ℕ → Option ℕ
first_of None b = b
first_of (Some a) None = Some a
first_of (Some a) (Some b) = Some (max a b)

abbrev pub plain : Tree → Option ℕ → PartRead
plain tree bad = record { tree = tree; jump = None; bad = bad }

abbrev pub byte_part : (ℕ → Bool) → PartRead
byte_part bytes = plain (One bytes) None

abbrev pub jump_part : (inside : Bool) → ℕ → ℕ → Option ℕ → PartRead
jump_part inside left least most = record {
  tree = Rep (One any_byte) least most;
  jump = Some left;
  bad = if allows inside least most then None else Some left;
}

abbrev pub no_members : ListRead
no_members = record { members = []; jump = None; bad = None }

-- a jump that stands first
abbrev pub jump_first : List Tree → Option ℕ → Option ℕ
jump_first [] jump = jump
jump_first (t ∷ ts) jump = None

abbrev pub push : ListRead → PartRead → ListRead
push l p = record {
  members = l.members ++ p.tree ∷ [];
  jump = p.jump;
  bad = first_of (first_of l.bad p.bad) (jump_first l.members p.jump);
}

-- a sequence of the items
abbrev pub sequence : ListRead → PartRead
sequence l = plain (Seq (trees_of l.members)) (first_of l.bad l.jump)

abbrev pub one_branch : PartRead → ChoiceRead
one_branch p = record { branches = p.tree ∷ []; bad = p.bad }

abbrev pub add : ChoiceRead → PartRead → ChoiceRead
add c p = record { branches = c.branches ++ p.tree ∷ []; bad = first_of c.bad p.bad }

abbrev pub choice : ChoiceRead → PartRead
choice c = plain (Alt (trees_of c.branches)) c.bad

-- a list ends here: at the end, at `)` or at `|`
abbrev pub ends : Text → Bool
ends [] = true
ends (b ∷ t) = b == 41 || b == 124

-- after the `[` of a jump with so many bytes left at it
unfoldable pub read_jump : (inside : Bool) → ℕ → Text → Outcome PartRead
read_jump inside left t = and_then (read_numbers cut t) (λ n u. Some (jump_part inside left n.least n.most, u))

unfoldable pub read_one : Text → Outcome PartRead
read_one t = and_then (read_byte t) (λ bytes u. Some (byte_part bytes, u))

-- where `group` reads what follows a `(`
module _ (inside : Bool) (group : Text → Outcome PartRead) where
  unfoldable pub read_item : Text → Outcome PartRead
  read_item t =
      if sees 40 t then group (after 40 t)
      else if sees 91 (after 40 t) then read_jump inside (length t) (after 91 (after 40 t))
      else read_one (after 91 (after 40 t))

  -- at an item; the number bounds how many there are
  unfoldable pub items_from : ℕ → ListRead → Text → Outcome PartRead
  items_from zero l t = None
  items_from (suc n) l t = and_then (read_item t) (λ p u.
      if ends (past_gap u) then Some (sequence (push l p), past_gap u) else items_from n (push l p) (past_gap u))

  unfoldable pub read_list : Text → Outcome PartRead
  read_list t = items_from (length (past_gap t)) no_members (past_gap t)

module _ (group : Text → Outcome PartRead) where
  -- at a `|`; the number bounds how many branches there are
  unfoldable pub branches_from : ℕ → ChoiceRead → Text → Outcome PartRead
  branches_from zero c t = None
  branches_from (suc n) c t = and_then (expect 124 t) (λ _ u. and_then (read_list true group u) (λ p v.
      if sees 41 v then Some (choice (add c p), after 41 v) else branches_from n (add c p) (after 41 v)))

  -- after a `(`
  unfoldable pub read_group : Text → Outcome PartRead
  read_group t = and_then (read_list true group t) (λ p u.
      if sees 41 u then Some (p, after 41 u) else branches_from (length (after 41 u)) (one_branch p) (after 41 u))

-- after a `(`, where brackets nest no deeper than the number
unfoldable pub group_at : ℕ → Text → Outcome PartRead
group_at zero t = None
group_at (suc n) t = read_group (group_at n) t

-- ---- what is read where the text says these items

abbrev mutual
  pub part : (inside : Bool) → Item → PartRead
  part inside (Byte negated high low) = plain (One (class_of negated high low)) None
  part inside (Jump left least most) = jump_part inside left (cut least) (capped cut most)
  part inside (Group bs) = group_part bs

  pub group_part : Branches → PartRead
  group_part (only is) = sequence (pushed true no_members is)
  group_part (or is bs) = choice (added (one_branch (sequence (pushed true no_members is))) bs)

  pub added : ChoiceRead → Branches → ChoiceRead
  added c (only is) = add c (sequence (pushed true no_members is))
  added c (or is bs) = added (add c (sequence (pushed true no_members is))) bs

  pub pushed : (inside : Bool) → ListRead → Items → ListRead
  pushed inside l (last i) = push l (part inside i)
  pushed inside l (more i is) = pushed inside (push l (part inside i)) is
