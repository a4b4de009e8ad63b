-- The parts that are made at once are those of what is read.
use Rattle.std.proofs.Common.{◌≡◌, ℕ, zero, suc, ◌+◌, ◌-◌, ◌*◌, ◌≤◌, Bool, true, false, List, [], ◌∷◌, ◌++◌, length, Option, Some, None, if◌then◌else◌, refl, sym, ap, ◌∙◌, append_assoc, arith}
use Rattle.std.specs.Prelude.{◌==◌, ◌||◌, max}
use Rattle.std.proofs.Math.Path.{fun_ext}
use Rattle.yr_base.specs.Bytes.{is_digit}
use Rattle.yr_pattern.specs.Set.{no_byte, either}
use Rattle.yr_pattern.specs.Tree.{Tree, Start, End, Edge, NotEdge}
use Rattle.yr_regex.specs.declared.bounds.Bounds.{Bounds}
use Rattle.yr_regex.specs.Escapes.{Text, is_sign}
use Rattle.yr_regex.specs.Classes.{goes_on}
use Rattle.yr_regex.specs.Expressions.{Member, Single, Kind, Range, Element, Piece, Pieces, Branches, Byte, Any, Set, Class, Group, Alone, Repeated, AtStart, AtEnd, AtEdge, AtNoEdge, none, more}
use Rattle.yr_regex.specs.Expressions as raw
use Rattle.yr_regex.specs.Reading.{Outcome, and_then, or_else, mapped, is_some, sees, after, tail, expect, read_kind, read_escaped, read_set, bounds, read_close, past_digits, read_number, read_most, read_last, read_next, read_braced, read_quantifier, cut, same, first_of, BytesRead, no_bytes, all_bytes, member_read, members_read, read_single, read_range, read_bytes, read_member, members_from, read_class, read_byte, read_escape, read_simple, read_edge, read_anchor, repeat_by, quantified, ends, read_element, read_piece, pieces_from, read_pieces, branches_from, read_branches, group_at, MarksRead, both, no_marks, PartRead, ListRead, plain, nothing, append, single, push, sequence, choice, repeat_part, quantified_part, class_part, byte_part, set_part, byte_at, escape_at, range_at, bytes_at, member_at, members_at, class_at, simple_at, element_at, piece_at, pieces_at, sequence_at, branches_at, expression_at, grouped_at}
use Rattle.yr_regex.proofs.NumberLemmas.{digit-small}
use Rattle.yr_regex.proofs.Summary.{cut_bounds, element_part, piece_part, pieces_list, branches_list, branches_part}

-- ---- outcomes

bind-mapped : {A A' B B' : Type 0} (h : A → A') (k : B → B') (o : Outcome A) (f : A → Text → Outcome B) (g : A' → Text → Outcome B')
    → ((a : A) (u : Text) → g (h a) u ≡ mapped k (f a u)) → and_then (mapped h o) g ≡ mapped k (and_then o f)
bind-mapped h k None f g e = refl
bind-mapped h k (Some x) f g e = e x.0 x.1

bind-plain : {A B B' : Type 0} (k : B → B') (o : Outcome A) (f : A → Text → Outcome B) (g : A → Text → Outcome B')
    → ((a : A) (u : Text) → g a u ≡ mapped k (f a u)) → and_then o g ≡ mapped k (and_then o f)
bind-plain k None f g e = refl
bind-plain k (Some x) f g e = e x.0 x.1

if-mapped : {A B : Type 0} (k : A → B) (b : Bool) (x y : Outcome A) (x' y' : Outcome B) → (b ≡ true → x' ≡ mapped k x) → y' ≡ mapped k y
    → (if b then x' else y') ≡ mapped k (if b then x else y)
if-mapped k true x y x' y' e f = e refl
if-mapped k false x y x' y' e f = f

or-mapped : {A B : Type 0} (k : A → B) (o p : Outcome A) (o' p' : Outcome B) → o' ≡ mapped k o → p' ≡ mapped k p → or_else o' p' ≡ mapped k (or_else o p)
or-mapped {B = B} k None p o' p' e f = ap (λ (x : Outcome B). or_else x p') e ∙ f
or-mapped {B = B} k (Some x) p o' p' e f = ap (λ (y : Outcome B). or_else y p') e

mapped-mapped : {A B C : Type 0} (k : B → C) (h : A → B) (o : Outcome A) → mapped k (mapped h o) ≡ mapped (λ a. k (h a)) o
mapped-mapped k h None = refl
mapped-mapped k h (Some x) = refl

mapped-same : {A B : Type 0} (f g : A → B) (o : Outcome A) → ((a : A) → f a ≡ g a) → mapped f o ≡ mapped g o
mapped-same f g None e = refl
mapped-same {B = B} f g (Some x) e = ap (λ (b : B). Some (b, x.1)) (e x.0)

-- ---- numbers

cut-step : (n d : ℕ) → cut (10 * cut n + d) ≡ cut (10 * n + d)
cut-step n d = omega arith

cut-small : (n : ℕ) → n ≤ 9 → cut n ≡ n
cut-small n h = omega arith

digit-value : (b : ℕ) → is_digit b ≡ true → b - 48 ≤ 9
digit-value b h = let s = digit-small b h in let q : b ≤ 57 = s.1 in omega arith

abbrev cut_number : ℕ × Text → ℕ × Text
cut_number x = (cut x.0, x.1)

if-both : (b : Bool) (x y x' y' : ℕ × Text) → x' ≡ cut_number x → y' ≡ cut_number y → ◌≡◌ {A = ℕ × Text} (if b then x' else y') (cut_number (if b then x else y))
if-both true x y x' y' e f = e
if-both false x y x' y' e f = f

digits-cut : (n : ℕ) (t : Text) → ◌≡◌ {A = ℕ × Text} (past_digits cut (cut n) t) (cut_number (past_digits same n t))
unfolding past_digits
digits-cut n [] = refl
digits-cut n (b ∷ t) =
    if-both (is_digit b) (past_digits same (10 * n + (b - 48)) t) (n, b ∷ t) (past_digits cut (cut (10 * cut n + (b - 48))) t) (cut n, b ∷ t)
    (ap (λ (m : ℕ). past_digits cut m t) (cut-step n (b - 48)) ∙ digits-cut (10 * n + (b - 48)) t) refl

number-cut : (t : Text) → read_number cut t ≡ mapped cut (read_number same t)
unfolding read_number
number-cut [] = refl
number-cut (b ∷ t) =
    if-mapped cut (is_digit b) (Some (past_digits same (b - 48) t)) None (Some (past_digits cut (b - 48) t)) None
    (λ h. ap (λ (m : ℕ). Some (past_digits cut m t)) (sym (cut-small (b - 48) (digit-value b h))) ∙ ap (λ (x : ℕ × Text). Some x) (digits-cut (b - 48) t)) refl

close-cut : (b : Bounds) (t : Text) → read_close (cut_bounds b) t ≡ mapped cut_bounds (read_close b t)
unfolding read_close
close-cut b t = bind-plain cut_bounds (expect 125 t) (λ x u. Some (b, u)) (λ x u. Some (cut_bounds b, u)) (λ x u. refl)

most-cut : (least : ℕ) (t : Text) → read_most cut (cut least) t ≡ mapped cut_bounds (read_most same least t)
unfolding read_most
most-cut least t =
    ap (λ (o : Outcome ℕ). and_then o (λ most u. read_close (bounds (cut least) (Some most) false) u)) (number-cut t)
    ∙ bind-mapped cut cut_bounds (read_number same t) (λ most u. read_close (bounds least (Some most) false) u) (λ most u. read_close (bounds (cut least) (Some most) false) u)
    (λ most u. close-cut (bounds least (Some most) false) u)

last-cut : (least : ℕ) (t : Text) → read_last cut (cut least) t ≡ mapped cut_bounds (read_last same least t)
unfolding read_last
last-cut least t =
    if-mapped cut_bounds (sees 125 t) (Some (bounds least None false, after 125 t)) (read_most same least (after 125 t)) (Some (bounds (cut least) None false, after 125 t)) (read_most cut (cut least) (after 125 t))
    (λ h. refl) (most-cut least (after 125 t))

next-cut : (least : ℕ) (t : Text) → read_next cut (cut least) t ≡ mapped cut_bounds (read_next same least t)
unfolding read_next
next-cut least t =
    if-mapped cut_bounds (sees 44 t) (read_last same least (after 44 t)) (read_close (bounds least (Some least) true) (after 44 t))
    (read_last cut (cut least) (after 44 t)) (read_close (bounds (cut least) (Some (cut least)) true) (after 44 t))
    (λ h. last-cut least (after 44 t)) (close-cut (bounds least (Some least) true) (after 44 t))

braced-cut : (t : Text) → read_braced cut t ≡ mapped cut_bounds (read_braced same t)
unfolding read_braced
braced-cut t =
    if-mapped cut_bounds (sees 44 t) (read_most same 0 (after 44 t)) (and_then (read_number same (after 44 t)) (read_next same)) (read_most cut 0 (after 44 t)) (and_then (read_number cut (after 44 t)) (read_next cut))
    (λ h. most-cut 0 (after 44 t))
    (ap (λ (o : Outcome ℕ). and_then o (read_next cut)) (number-cut (after 44 t))
    ∙ bind-mapped cut cut_bounds (read_number same (after 44 t)) (read_next same) (read_next cut) (λ n u. next-cut n u))

quantifier-cut : (t : Text) → read_quantifier cut t ≡ mapped cut_bounds (read_quantifier same t)
unfolding read_quantifier
quantifier-cut [] = refl
quantifier-cut (b ∷ t) =
    if-mapped cut_bounds (b == 42) _ _ _ _ (λ h. refl)
    (if-mapped cut_bounds (b == 43) _ _ _ _ (λ h. refl)
    (if-mapped cut_bounds (b == 63) _ _ _ _ (λ h. refl)
    (if-mapped cut_bounds (b == 123) _ _ _ _ (λ h. braced-cut t) refl)))

some-mapped : {A B : Type 0} (f : A → B) (o : Outcome A) → is_some (mapped f o) ≡ is_some o
some-mapped f None = refl
some-mapped f (Some x) = refl

-- ---- marks and lists

or-none : (a : Bool) → (a || false) ≡ a
or-none true = refl
or-none false = refl

or-assoc : (a b c : Bool) → ((a || b) || c) ≡ (a || (b || c))
or-assoc true b c = refl
or-assoc false b c = refl

first-none : (a : Option ℕ) → first_of a None ≡ a
first-none None = refl
first-none (Some a) = refl

first-assoc : (a b c : Option ℕ) → first_of (first_of a b) c ≡ first_of a (first_of b c)
first-assoc None b c = refl
first-assoc (Some a) None c = refl
first-assoc (Some a) (Some b) None = refl
first-assoc (Some a) (Some b) (Some c) = let e : max (max a b) c ≡ max a (max b c) = omega arith in ap (λ (n : ℕ). Some n) e

abbrev bytes_read : (ℕ → Bool) → Option ℕ → BytesRead
bytes_read x y = record { bytes = x; bad = y }

bytes-same : (x x' : ℕ → Bool) (y y' : Option ℕ) → x ≡ x' → y ≡ y' → bytes_read x y ≡ bytes_read x' y'
bytes-same x x' y y' e f = ap (λ (z : ℕ → Bool). bytes_read z y) e ∙ ap (λ (z : Option ℕ). bytes_read x' z) f

all-none : (a : BytesRead) → all_bytes a no_bytes ≡ a
all-none a = bytes-same (either a.bytes no_byte) a.bytes (first_of a.bad None) a.bad (fun_ext (λ x. or-none (a.bytes x))) (first-none a.bad)

all-assoc : (a b c : BytesRead) → all_bytes (all_bytes a b) c ≡ all_bytes a (all_bytes b c)
all-assoc a b c = bytes-same (either (either a.bytes b.bytes) c.bytes) (either a.bytes (either b.bytes c.bytes)) (first_of (first_of a.bad b.bad) c.bad) (first_of a.bad (first_of b.bad c.bad))
    (fun_ext (λ x. or-assoc (a.bytes x) (b.bytes x) (c.bytes x))) (first-assoc a.bad b.bad c.bad)

abbrev marks_read : Option ℕ → Bool → Bool → MarksRead
marks_read x y z = record { bad = x; lazy = y; eager = z }

marks-same : (x x' : Option ℕ) (y y' z z' : Bool) → x ≡ x' → y ≡ y' → z ≡ z' → marks_read x y z ≡ marks_read x' y' z'
marks-same x x' y y' z z' e f g = ap (λ (w : Option ℕ). marks_read w y z) e ∙ ap (λ (w : Bool). marks_read x' w z) f ∙ ap (λ (w : Bool). marks_read x' y' w) g

both-none : (a : MarksRead) → both a no_marks ≡ a
both-none a = marks-same (first_of a.bad None) a.bad (a.lazy || false) a.lazy (a.eager || false) a.eager (first-none a.bad) (or-none a.lazy) (or-none a.eager)

both-assoc : (a b c : MarksRead) → both (both a b) c ≡ both a (both b c)
both-assoc a b c = marks-same (first_of (first_of a.bad b.bad) c.bad) (first_of a.bad (first_of b.bad c.bad))
    ((a.lazy || b.lazy) || c.lazy) (a.lazy || (b.lazy || c.lazy)) ((a.eager || b.eager) || c.eager) (a.eager || (b.eager || c.eager))
    (first-assoc a.bad b.bad c.bad) (or-assoc a.lazy b.lazy c.lazy) (or-assoc a.eager b.eager c.eager)

abbrev list_read : List Tree → MarksRead → ListRead
list_read x y = record { trees = x; marks = y }

list-same : (x x' : List Tree) (y y' : MarksRead) → x ≡ x' → y ≡ y' → list_read x y ≡ list_read x' y'
list-same x x' y y' e f = ap (λ (w : List Tree). list_read w y) e ∙ ap (λ (w : MarksRead). list_read x' w) f

append-nil : (ts : List Tree) → ts ++ [] ≡ ts
append-nil [] = refl
append-nil (t ∷ ts) = ap (λ (us : List Tree). t ∷ us) (append-nil ts)

append-nothing : (l : ListRead) → append l nothing ≡ l
append-nothing l = list-same (l.trees ++ []) l.trees (both l.marks no_marks) l.marks (append-nil l.trees) (both-none l.marks)

append-assoc : (a b c : ListRead) → append (append a b) c ≡ append a (append b c)
append-assoc a b c = list-same ((a.trees ++ b.trees) ++ c.trees) (a.trees ++ (b.trees ++ c.trees)) (both (both a.marks b.marks) c.marks) (both a.marks (both b.marks c.marks))
    (append_assoc a.trees b.trees c.trees) (both-assoc a.marks b.marks c.marks)

-- ---- classes

range-same : (left from : ℕ) (t : Text) → range_at left from t ≡ mapped member_read (read_range left from t)
unfolding range_at read_range
range-same left from t =
    if-mapped member_read (goes_on t) _ _ _ _
    (λ h. bind-plain member_read (read_single false (tail t)) (λ to u. Some (Range left from to, u)) (λ to u. Some (member_read (Range left from to), u)) (λ to u. refl)) refl

from-same : (first : Bool) (t : Text) → bytes_at first t ≡ mapped member_read (read_bytes first t)
unfolding bytes_at read_bytes
from-same first t = bind-plain member_read (read_single first t) (λ b u. read_range (length t) b u) (λ b u. range_at (length t) b u) (λ b u. range-same (length t) b u)

member-same : (first : Bool) (t : Text) → member_at first t ≡ mapped member_read (read_member first t)
unfolding member_at read_member
member-same first t =
    or-mapped member_read (mapped Kind (read_set t)) (read_bytes first t) (mapped (λ s. member_read (Kind s)) (read_set t)) (bytes_at first t)
    (sym (mapped-mapped member_read Kind (read_set t))) (from-same first t)

members-same : (n : ℕ) (first : Bool) (c : BytesRead) (t : Text) → members_at n first c t ≡ mapped (λ ms. all_bytes c (members_read ms)) (members_from n first t)
unfolding members_at members_from
members-same zero first c t = refl
members-same (suc n) first c t =
    ap (λ (o : Outcome BytesRead). and_then o (λ m u. if sees 93 u then Some (all_bytes c m, after 93 u) else members_at n false (all_bytes c m) u)) (member-same first t)
    ∙ bind-mapped member_read (λ ms. all_bytes c (members_read ms)) (read_member first t)
    (λ m u. if sees 93 u then Some (m ∷ [], after 93 u) else mapped (λ ms. m ∷ ms) (members_from n false u))
    (λ m u. if sees 93 u then Some (all_bytes c m, after 93 u) else members_at n false (all_bytes c m) u)
    (λ m u. if-mapped (λ ms. all_bytes c (members_read ms)) (sees 93 u) (Some (m ∷ [], after 93 u)) (mapped (λ ms. m ∷ ms) (members_from n false u))
    (Some (all_bytes c (member_read m), after 93 u)) (members_at n false (all_bytes c (member_read m)) u)
    (λ h. ap (λ (b : BytesRead). Some (all_bytes c b, after 93 u)) (sym (all-none (member_read m))))
    (members-same n false (all_bytes c (member_read m)) u
    ∙ mapped-same (λ ms. all_bytes (all_bytes c (member_read m)) (members_read ms)) (λ ms. all_bytes c (all_bytes (member_read m) (members_read ms))) (members_from n false u)
    (λ ms. all-assoc c (member_read m) (members_read ms))
    ∙ sym (mapped-mapped (λ ms. all_bytes c (members_read ms)) (λ ms. m ∷ ms) (members_from n false u))))

-- ---- elements and pieces

anchor-same : {A B : Type 0} (f : A → B) (s e d n : A) (t : Text) → read_anchor (f s) (f e) (f d) (f n) t ≡ mapped f (read_anchor s e d n t)
unfolding read_anchor read_edge
anchor-same f s e d n [] = refl
anchor-same f s e d n (b ∷ []) =
    if-mapped f (b == 94) _ _ _ _ (λ h. refl) (if-mapped f (b == 36) _ _ _ _ (λ h. refl) (if-mapped f (b == 92) _ _ _ _ (λ h. refl) refl))
anchor-same f s e d n (b ∷ c ∷ t) =
    if-mapped f (b == 94) _ _ _ _ (λ h. refl) (if-mapped f (b == 36) _ _ _ _ (λ h. refl) (if-mapped f (b == 92) _ _ _ _
    (λ h. if-mapped f (c == 98) _ _ _ _ (λ k. refl) (if-mapped f (c == 66) _ _ _ _ (λ k. refl) refl)) refl))

module _ (nocase dot_all : Bool) where
  abbrev E : Element → PartRead
  E = element_part nocase dot_all

  abbrev P : Piece → PartRead
  P = piece_part nocase dot_all

  byte-same : (b : ℕ) (t : Text) → byte_at nocase b t ≡ mapped E (read_byte b t)
  unfolding byte_at read_byte
  byte-same b t =
      if-mapped E (is_sign b) _ _ _ _ (λ h. refl)
      (ap (λ (x : Bool). if x then None else Some (byte_part nocase b, t)) (ap is_some (quantifier-cut (b ∷ t)) ∙ some-mapped cut_bounds (read_quantifier same (b ∷ t)))
      ∙ if-mapped E (is_some (read_quantifier same (b ∷ t))) None (Some (Byte b, t)) None (Some (byte_part nocase b, t)) (λ h. refl) refl)

  escape-same : (t : Text) → escape_at nocase t ≡ mapped E (read_escape t)
  unfolding escape_at read_escape
  escape-same t =
      or-mapped E (mapped Set (read_kind t)) (mapped Byte (read_escaped t)) (mapped set_part (read_kind t)) (mapped (byte_part nocase) (read_escaped t))
      (sym (mapped-mapped E Set (read_kind t))) (sym (mapped-mapped E Byte (read_escaped t)))

  class-same : (t : Text) → class_at nocase t ≡ mapped E (read_class t)
  unfolding class_at read_class
  class-same t =
      ap (λ (o : Outcome BytesRead). mapped (class_part nocase (sees 94 t)) o) (members-same (length (after 94 t)) true no_bytes (after 94 t))
      ∙ mapped-mapped (class_part nocase (sees 94 t)) (λ ms. all_bytes no_bytes (members_read ms)) (members_from (length (after 94 t)) true (after 94 t))
      ∙ sym (mapped-mapped E (Class (sees 94 t)) (members_from (length (after 94 t)) true (after 94 t)))

  simple-same : (b : ℕ) (t : Text) → simple_at nocase dot_all b t ≡ mapped E (read_simple b t)
  unfolding simple_at read_simple
  simple-same b t =
      if-mapped E (b == 91) _ _ _ _ (λ h. class-same t) (if-mapped E (b == 92) _ _ _ _ (λ h. escape-same t)
      (if-mapped E (b == 46) _ _ _ _ (λ h. refl) (byte-same b t)))

  quantified-same : (e : Element) (t : Text) → ◌≡◌ {A = PartRead × Text} (quantified_part (E e) t) (P (quantified e t).0, (quantified e t).1)
  unfolding quantified_part quantified
  quantified-same e t = ap (λ (o : Outcome Bounds). repeat_part (E e) t o) (quantifier-cut t) ∙ go (read_quantifier same t)
    where
      go : (o : Outcome Bounds) → ◌≡◌ {A = PartRead × Text} (repeat_part (E e) t (mapped cut_bounds o)) (P (repeat_by e t o).0, (repeat_by e t o).1)
      go None = refl
      go (Some x) = refl

  module _ (group : Text → Outcome Branches) (group' : Text → Outcome PartRead) (ih : (t : Text) → group' t ≡ mapped (branches_part nocase dot_all) (group t)) where
    element-same : (t : Text) → element_at nocase dot_all group' t ≡ mapped E (read_element group t)
    unfolding element_at read_element
    element-same [] = refl
    element-same (b ∷ t) =
        if-mapped E (b == 40) (mapped Group (group t)) (read_simple b t) (group' t) (simple_at nocase dot_all b t)
        (λ h. ih t ∙ sym (mapped-mapped E Group (group t))) (simple-same b t)

    piece-same : (t : Text) → piece_at nocase dot_all group' t ≡ mapped P (read_piece group t)
    unfolding piece_at read_piece
    piece-same t =
        or-mapped P (read_anchor AtStart AtEnd AtEdge AtNoEdge t) (and_then (read_element group t) (λ e u. Some (quantified e u)))
        (mapped plain (read_anchor Start End Edge NotEdge t)) (and_then (element_at nocase dot_all group' t) (λ p u. Some (quantified_part p u)))
        (sym (anchor-same plain Start End Edge NotEdge t) ∙ anchor-same P AtStart AtEnd AtEdge AtNoEdge t)
        (ap (λ (o : Outcome PartRead). and_then o (λ p u. Some (quantified_part p u))) (element-same t)
        ∙ bind-mapped E P (read_element group t) (λ e u. Some (quantified e u)) (λ p u. Some (quantified_part p u))
        (λ e u. ap (λ (x : PartRead × Text). Some x) (quantified-same e u)))

    abbrev L : Pieces → ListRead
    L = pieces_list nocase dot_all

    pieces-same : (n : ℕ) (l : ListRead) (t : Text) → pieces_at nocase dot_all group' n l t ≡ mapped (λ ps. sequence (append l (L ps))) (pieces_from group n t)
    unfolding pieces_at pieces_from
    pieces-same zero l t =
        if-mapped (λ ps. sequence (append l (L ps))) (ends t) (Some (none, t)) None (Some (sequence l, t)) None
        (λ h. ap (λ (k : ListRead). Some (sequence k, t)) (sym (append-nothing l))) refl
    pieces-same (suc n) l t =
        if-mapped (λ ps. sequence (append l (L ps))) (ends t) (Some (none, t)) (and_then (read_piece group t) (λ p u. mapped (more p) (pieces_from group n u)))
        (Some (sequence l, t)) (and_then (piece_at nocase dot_all group' t) (λ p u. pieces_at nocase dot_all group' n (push l p) u))
        (λ h. ap (λ (k : ListRead). Some (sequence k, t)) (sym (append-nothing l)))
        (ap (λ (o : Outcome PartRead). and_then o (λ p u. pieces_at nocase dot_all group' n (push l p) u)) (piece-same t)
        ∙ bind-mapped P (λ ps. sequence (append l (L ps))) (read_piece group t) (λ p u. mapped (more p) (pieces_from group n u)) (λ p u. pieces_at nocase dot_all group' n (push l p) u)
        (λ p u. pieces-same n (push l (P p)) u
        ∙ mapped-same (λ ps. sequence (append (push l (P p)) (L ps))) (λ ps. sequence (append l (append (single (P p)) (L ps)))) (pieces_from group n u)
        (λ ps. ap sequence (append-assoc l (single (P p)) (L ps)))
        ∙ sym (mapped-mapped (λ ps. sequence (append l (L ps))) (more p) (pieces_from group n u))))

    sequence-same : (t : Text) → sequence_at nocase dot_all group' t ≡ mapped (λ ps. sequence (L ps)) (read_pieces group t)
    unfolding sequence_at read_pieces
    sequence-same t = pieces-same (length t) nothing t

    abbrev B : Branches → ListRead
    B = branches_list nocase dot_all

    branches-same : (n : ℕ) (c : ListRead) (t : Text) → branches_at nocase dot_all group' n c t ≡ mapped (λ bs. choice (append c (B bs))) (branches_from group n t)
    unfolding branches_at branches_from
    branches-same zero c t = refl
    branches-same (suc n) c t =
        ap (λ (o : Outcome PartRead). and_then o (λ p u. if sees 124 u then branches_at nocase dot_all group' n (push c p) (after 124 u) else Some (choice (push c p), after 124 u))) (sequence-same t)
        ∙ bind-mapped (λ ps. sequence (L ps)) (λ bs. choice (append c (B bs))) (read_pieces group t)
        (λ ps u. if sees 124 u then mapped (raw.or ps) (branches_from group n (after 124 u)) else Some (raw.only ps, after 124 u))
        (λ p u. if sees 124 u then branches_at nocase dot_all group' n (push c p) (after 124 u) else Some (choice (push c p), after 124 u))
        (λ ps u. if-mapped (λ bs. choice (append c (B bs))) (sees 124 u) (mapped (raw.or ps) (branches_from group n (after 124 u))) (Some (raw.only ps, after 124 u))
        (branches_at nocase dot_all group' n (push c (sequence (L ps))) (after 124 u)) (Some (choice (push c (sequence (L ps))), after 124 u))
        (λ h. branches-same n (push c (sequence (L ps))) (after 124 u)
        ∙ mapped-same (λ bs. choice (append (push c (sequence (L ps))) (B bs))) (λ bs. choice (append c (append (single (sequence (L ps))) (B bs)))) (branches_from group n (after 124 u))
        (λ bs. ap choice (append-assoc c (single (sequence (L ps))) (B bs)))
        ∙ sym (mapped-mapped (λ bs. choice (append c (B bs))) (raw.or ps) (branches_from group n (after 124 u))))
        refl)

    expression-same : (t : Text) → expression_at nocase dot_all group' t ≡ mapped (branches_part nocase dot_all) (read_branches group t)
    unfolding expression_at read_branches branches_from
    expression-same t =
        ap (λ (o : Outcome PartRead). and_then o (λ p u. if sees 124 u then branches_at nocase dot_all group' (length t) (single p) (after 124 u) else Some (p, after 124 u))) (sequence-same t)
        ∙ bind-mapped (λ ps. sequence (L ps)) (branches_part nocase dot_all) (read_pieces group t)
        (λ ps u. if sees 124 u then mapped (raw.or ps) (branches_from group (length t) (after 124 u)) else Some (raw.only ps, after 124 u))
        (λ p u. if sees 124 u then branches_at nocase dot_all group' (length t) (single p) (after 124 u) else Some (p, after 124 u))
        (λ ps u. if-mapped (branches_part nocase dot_all) (sees 124 u) (mapped (raw.or ps) (branches_from group (length t) (after 124 u))) (Some (raw.only ps, after 124 u))
        (branches_at nocase dot_all group' (length t) (single (sequence (L ps))) (after 124 u)) (Some (sequence (L ps), after 124 u))
        (λ h. branches-same (length t) (single (sequence (L ps))) (after 124 u)
        ∙ sym (mapped-mapped (branches_part nocase dot_all) (raw.or ps) (branches_from group (length t) (after 124 u))))
        refl)

  group-same : (n : ℕ) (t : Text) → grouped_at nocase dot_all n t ≡ mapped (branches_part nocase dot_all) (group_at n t)
  unfolding grouped_at group_at
  group-same zero t = refl
  group-same (suc n) t =
      ap (λ (o : Outcome PartRead). and_then o (λ p u. if sees 41 u then Some (p, after 41 u) else None)) (expression-same (group_at n) (grouped_at nocase dot_all n) (group-same n) t)
      ∙ bind-mapped (branches_part nocase dot_all) (branches_part nocase dot_all) (read_branches (group_at n) t)
      (λ bs u. if sees 41 u then Some (bs, after 41 u) else None) (λ p u. if sees 41 u then Some (p, after 41 u) else None)
      (λ bs u. if-mapped (branches_part nocase dot_all) (sees 41 u) (Some (bs, after 41 u)) None (Some (branches_part nocase dot_all bs, after 41 u)) None (λ h. refl) refl)

  -- a whole text
  pub regex-same : (t : Text) → expression_at nocase dot_all (grouped_at nocase dot_all 64) t ≡ mapped (branches_part nocase dot_all) (read_branches (group_at 64) t)
  regex-same t = expression-same (group_at 64) (grouped_at nocase dot_all 64) (group-same 64) t
