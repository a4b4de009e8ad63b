-- The first bad place: the greatest number of bytes left. The greed of the quantifiers.
use Rattle.std.proofs.Common.{◌≡◌, ℕ, ◌<◌, ◌≤◌, ◌⊎◌, inl, inr, Bool, true, false, List, [], ◌∷◌, Option, Some, None, if◌then◌else◌, refl, ap, subst, ◌∙◌, arith}
use Rattle.std.specs.Prelude.{◌&&◌, ◌||◌, not, nat_le, max}
use Rattle.std.proofs.lemmas.Bool.{leb-true, le-leb, and_parts, and_from, cases_lt}
use Rattle.yr_regex.specs.Expressions.{Member, Single, Kind, Range, Element, Piece, Pieces, Branches, Byte, Any, Set, Class, Group, Alone, Repeated, AtStart, AtEnd, AtEdge, AtNoEdge, none, more, only, or}
use Rattle.yr_regex.specs.Faults.{IsAllowed, IsBadMember, HasBadMember, IsBadElement, IsBadPiece, HasBadPiece, HasBadBranch, in_element, in_piece, in_pieces, in_branches}
use Rattle.yr_regex.specs.Reading.{cut, capped, allows, first_of, member_read, members_read}
use Rattle.yr_regex.proofs.Basics.{by_test}
use Rattle.yr_regex.proofs.Summary.{element_part, piece_part, pieces_list, branches_list, branches_part}

-- ---- the bounds of a quantifier

-- a quantifier may have the bounds, and the cut changes none of them
abbrev pub IsAllowedAsCut : ℕ → Option ℕ → Type 0
IsAllowedAsCut least most = IsAllowed least most × (cut least ≡ least) × (capped cut most ≡ most)

pub allows-true : (least : ℕ) (most : Option ℕ) → allows (cut least) (capped cut most) ≡ true → IsAllowedAsCut least most
allows-true least None e = let a = leb-true (cut least) 32767 e in ((omega arith, tt), omega arith, refl)
allows-true least (Some most) e =
    let p = and_parts (nat_le (cut least) (cut most)) (nat_le (cut most) 32767) e in
    let a = leb-true (cut least) (cut most) p.0 in
    let b = leb-true (cut most) 32767 p.1 in
    let f : cut most ≡ most = omega arith in
    ((omega arith, (omega arith, omega arith)), omega arith, ap (λ (m : ℕ). Some m) f)

allows-allowed : (least : ℕ) (most : Option ℕ) → IsAllowed least most → allows (cut least) (capped cut most) ≡ true
allows-allowed least None h = let a = h.0 in le-leb (cut least) 32767 (omega arith)
allows-allowed least (Some most) h =
    let a = h.0 in let b = h.1.0 in let d = h.1.1 in
    and_from (nat_le (cut least) (cut most)) (nat_le (cut most) 32767) (le-leb (cut least) (cut most) (omega arith)) (le-leb (cut most) 32767 (omega arith))

pub allows-false : (least : ℕ) (most : Option ℕ) → allows (cut least) (capped cut most) ≡ false → ¬ IsAllowed least most
allows-false least most e h = let f = allows-allowed least most h in absurd cc

-- ---- the greatest of the numbers with a property

-- this is the greatest, or none where no number has the property
abbrev pub IsGreatest : (ℕ → Type 0) → Option ℕ → Type 0
IsGreatest P None = (n : ℕ) → ¬ P n
IsGreatest P (Some m) = P m × ((n : ℕ) → P n → n ≤ m)

greatest-max : (P Q : ℕ → Type 0) (a b : ℕ) → IsGreatest P (Some a) → IsGreatest Q (Some b) → (a < b) ⊎ (b ≤ a) → P (max a b) ⊎ Q (max a b)
greatest-max P Q a b f g (inl h) = let e : b ≡ max a b = omega arith in inr (subst Q e g.0)
greatest-max P Q a b f g (inr h) = let e : a ≡ max a b = omega arith in inl (subst P e f.0)

le-max : (a b n : ℕ) → (n ≤ a) ⊎ (n ≤ b) → n ≤ max a b
le-max a b n (inl h) = omega arith
le-max a b n (inr h) = omega arith

either-none : (P Q : ℕ → Type 0) → ((n : ℕ) → ¬ P n) → ((n : ℕ) → ¬ Q n) → (n : ℕ) → ¬ (P n ⊎ Q n)
either-none P Q f g n (inl p) = f n p
either-none P Q f g n (inr q) = g n q

either-left : (P Q : ℕ → Type 0) (a : ℕ) → ((n : ℕ) → P n → n ≤ a) → ((n : ℕ) → ¬ Q n) → (n : ℕ) → P n ⊎ Q n → n ≤ a
either-left P Q a f g n (inl p) = f n p
either-left P Q a f g n (inr q) = absurd (g n q)

either-right : (P Q : ℕ → Type 0) (b : ℕ) → ((n : ℕ) → ¬ P n) → ((n : ℕ) → Q n → n ≤ b) → (n : ℕ) → P n ⊎ Q n → n ≤ b
either-right P Q b f g n (inl p) = absurd (f n p)
either-right P Q b f g n (inr q) = g n q

either-both : (P Q : ℕ → Type 0) (a b : ℕ) → ((n : ℕ) → P n → n ≤ a) → ((n : ℕ) → Q n → n ≤ b) → (n : ℕ) → P n ⊎ Q n → n ≤ max a b
either-both P Q a b f g n (inl p) = le-max a b n (inl (f n p))
either-both P Q a b f g n (inr q) = le-max a b n (inr (g n q))

greatest-or : (P Q : ℕ → Type 0) (a b : Option ℕ) → IsGreatest P a → IsGreatest Q b → IsGreatest (λ n. P n ⊎ Q n) (first_of a b)
greatest-or P Q None None f g = either-none P Q f g
greatest-or P Q None (Some b) f g = (inr g.0, either-right P Q b f g.1)
greatest-or P Q (Some a) None f g = (inl f.0, either-left P Q a f.1 g)
greatest-or P Q (Some a) (Some b) f g = (greatest-max P Q a b f g (cases_lt a b), either-both P Q a b f.1 g.1)

-- ---- ranges and quantifiers

member-greatest : (m : Member) → IsGreatest (IsBadMember m) (member_read m).bad
member-greatest (Single b) = λ n h. h
member-greatest (Kind bytes) = λ n h. h
member-greatest (Range at from to) = by_test (nat_le from to) None (Some at) (IsGreatest (IsBadMember (Range at from to)))
    (λ e n h. h.1 (leb-true from to e))
    (λ e. ((refl, λ l. let f = le-leb from to l in absurd cc), λ n h. let s = h.0 in omega arith))

members-greatest : (ms : List Member) → IsGreatest (HasBadMember ms) (members_read ms).bad
members-greatest [] = λ n h. h
members-greatest (m ∷ ms) = greatest-or (IsBadMember m) (HasBadMember ms) (member_read m).bad (members_read ms).bad (member-greatest m) (members-greatest ms)

abbrev IsBadQuantifier : ℕ → ℕ → Option ℕ → ℕ → Type 0
IsBadQuantifier at least most left = (left ≡ at) × ¬ IsAllowed least most

quantifier-greatest : (at least : ℕ) (most : Option ℕ) → IsGreatest (IsBadQuantifier at least most) (if allows (cut least) (capped cut most) then None else Some at)
quantifier-greatest at least most = by_test (allows (cut least) (capped cut most)) None (Some at) (IsGreatest (IsBadQuantifier at least most))
    (λ e n h. h.1 (allows-true least most e).0)
    (λ e. ((refl, allows-false least most e), λ n h. let s = h.0 in omega arith))

or-same : (a a' b b' : Bool) → a ≡ a' → b ≡ b' → (a || b) ≡ (a' || b')
or-same a a' b b' e f = ap (λ (x : Bool). x || b) e ∙ ap (λ (x : Bool). a' || x) f

module _ (nocase dot_all : Bool) where
  mutual
    element-greatest : (e : Element) → IsGreatest (IsBadElement e) (element_part nocase dot_all e).marks.bad
    element-greatest (Byte b) = λ n h. h
    element-greatest Any = λ n h. h
    element-greatest (Set bytes) = λ n h. h
    element-greatest (Class negated ms) = members-greatest ms
    element-greatest (Group bs) = branches-greatest bs

    piece-greatest : (p : Piece) → IsGreatest (IsBadPiece p) (piece_part nocase dot_all p).marks.bad
    piece-greatest (Alone e) = element-greatest e
    piece-greatest (Repeated e at least most exact lazy) =
        greatest-or (IsBadElement e) (IsBadQuantifier at least most) (element_part nocase dot_all e).marks.bad (if allows (cut least) (capped cut most) then None else Some at)
        (element-greatest e) (quantifier-greatest at least most)
    piece-greatest AtStart = λ n h. h
    piece-greatest AtEnd = λ n h. h
    piece-greatest AtEdge = λ n h. h
    piece-greatest AtNoEdge = λ n h. h

    pieces-greatest : (ps : Pieces) → IsGreatest (HasBadPiece ps) (pieces_list nocase dot_all ps).marks.bad
    pieces-greatest none = λ n h. h
    pieces-greatest (more p ps) = greatest-or (IsBadPiece p) (HasBadPiece ps) (piece_part nocase dot_all p).marks.bad (pieces_list nocase dot_all ps).marks.bad (piece-greatest p) (pieces-greatest ps)

    list-greatest : (bs : Branches) → IsGreatest (HasBadBranch bs) (branches_list nocase dot_all bs).marks.bad
    list-greatest (only ps) = pieces-greatest ps
    list-greatest (or ps bs) = greatest-or (HasBadPiece ps) (HasBadBranch bs) (pieces_list nocase dot_all ps).marks.bad (branches_list nocase dot_all bs).marks.bad (pieces-greatest ps) (list-greatest bs)

    pub branches-greatest : (bs : Branches) → IsGreatest (HasBadBranch bs) (branches_part nocase dot_all bs).marks.bad
    branches-greatest (only ps) = pieces-greatest ps
    branches-greatest (or ps bs) = greatest-or (HasBadPiece ps) (HasBadBranch bs) (pieces_list nocase dot_all ps).marks.bad (branches_list nocase dot_all bs).marks.bad (pieces-greatest ps) (list-greatest bs)

  mutual
    element-lazy : (e : Element) → (element_part nocase dot_all e).marks.lazy ≡ in_element (λ z. z) e
    element-lazy (Byte b) = refl
    element-lazy Any = refl
    element-lazy (Set bytes) = refl
    element-lazy (Class negated ms) = refl
    element-lazy (Group bs) = branches-lazy bs

    piece-lazy : (p : Piece) → (piece_part nocase dot_all p).marks.lazy ≡ in_piece (λ z. z) p
    piece-lazy (Alone e) = element-lazy e
    piece-lazy (Repeated e at least most exact lazy) = ap (λ (x : Bool). x || (not exact && lazy)) (element-lazy e)
    piece-lazy AtStart = refl
    piece-lazy AtEnd = refl
    piece-lazy AtEdge = refl
    piece-lazy AtNoEdge = refl

    pieces-lazy : (ps : Pieces) → (pieces_list nocase dot_all ps).marks.lazy ≡ in_pieces (λ z. z) ps
    pieces-lazy none = refl
    pieces-lazy (more p ps) = or-same (piece_part nocase dot_all p).marks.lazy (in_piece (λ z. z) p) (pieces_list nocase dot_all ps).marks.lazy (in_pieces (λ z. z) ps) (piece-lazy p) (pieces-lazy ps)

    list-lazy : (bs : Branches) → (branches_list nocase dot_all bs).marks.lazy ≡ in_branches (λ z. z) bs
    list-lazy (only ps) = pieces-lazy ps
    list-lazy (or ps bs) = or-same (pieces_list nocase dot_all ps).marks.lazy (in_pieces (λ z. z) ps) (branches_list nocase dot_all bs).marks.lazy (in_branches (λ z. z) bs) (pieces-lazy ps) (list-lazy bs)

    pub branches-lazy : (bs : Branches) → (branches_part nocase dot_all bs).marks.lazy ≡ in_branches (λ z. z) bs
    branches-lazy (only ps) = pieces-lazy ps
    branches-lazy (or ps bs) = or-same (pieces_list nocase dot_all ps).marks.lazy (in_pieces (λ z. z) ps) (branches_list nocase dot_all bs).marks.lazy (in_branches (λ z. z) bs) (pieces-lazy ps) (list-lazy bs)

  mutual
    element-eager : (e : Element) → (element_part nocase dot_all e).marks.eager ≡ in_element (λ z. not z) e
    element-eager (Byte b) = refl
    element-eager Any = refl
    element-eager (Set bytes) = refl
    element-eager (Class negated ms) = refl
    element-eager (Group bs) = branches-eager bs

    piece-eager : (p : Piece) → (piece_part nocase dot_all p).marks.eager ≡ in_piece (λ z. not z) p
    piece-eager (Alone e) = element-eager e
    piece-eager (Repeated e at least most exact lazy) = ap (λ (x : Bool). x || (not exact && not lazy)) (element-eager e)
    piece-eager AtStart = refl
    piece-eager AtEnd = refl
    piece-eager AtEdge = refl
    piece-eager AtNoEdge = refl

    pieces-eager : (ps : Pieces) → (pieces_list nocase dot_all ps).marks.eager ≡ in_pieces (λ z. not z) ps
    pieces-eager none = refl
    pieces-eager (more p ps) = or-same (piece_part nocase dot_all p).marks.eager (in_piece (λ z. not z) p) (pieces_list nocase dot_all ps).marks.eager (in_pieces (λ z. not z) ps) (piece-eager p) (pieces-eager ps)

    list-eager : (bs : Branches) → (branches_list nocase dot_all bs).marks.eager ≡ in_branches (λ z. not z) bs
    list-eager (only ps) = pieces-eager ps
    list-eager (or ps bs) = or-same (pieces_list nocase dot_all ps).marks.eager (in_pieces (λ z. not z) ps) (branches_list nocase dot_all bs).marks.eager (in_branches (λ z. not z) bs) (pieces-eager ps) (list-eager bs)

    pub branches-eager : (bs : Branches) → (branches_part nocase dot_all bs).marks.eager ≡ in_branches (λ z. not z) bs
    branches-eager (only ps) = pieces-eager ps
    branches-eager (or ps bs) = or-same (pieces_list nocase dot_all ps).marks.eager (in_pieces (λ z. not z) ps) (branches_list nocase dot_all bs).marks.eager (in_branches (λ z. not z) bs) (pieces-eager ps) (list-eager bs)
