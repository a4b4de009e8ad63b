-- The pattern that is made, where nothing is bad. Where a bad place may stand.
use Rattle.std.proofs.Common.{◌≡◌, ℕ, ◌≤◌, inl, inr, Bool, List, [], ◌∷◌, length, Option, refl, ap, ◌∙◌, arith}
use Rattle.yr_pattern.specs.Tree.{Tree, Trees, One, Seq, Alt, Rep, trees_of}
use Rattle.yr_pattern.specs.Tree as tree
use Rattle.yr_regex.specs.Escapes.{Text}
use Rattle.yr_regex.specs.Classes.{ReadsMember, set, range, single, ReadsMembers, last_member, member_then, ReadsClass, members, complement}
use Rattle.yr_regex.specs.Expressions.{Member, Single, Kind, Range, Element, Piece, Pieces, Branches, Byte, Any, Set, Class, Group, Alone, Repeated, AtStart, AtEnd, AtEdge, AtNoEdge, none, more, only, or}
use Rattle.yr_regex.specs.Grammar.{ReadsElement, byte, escape, any, class, group, ReadsPiece, alone, repeated, lazy, start, end, edge, no_edge, ReadsPieces, no_piece, piece_then, ReadsBranches, last_branch, branch_then}
use Rattle.yr_regex.specs.Grammar as grammar
use Rattle.yr_regex.specs.Faults.{IsAllowed, IsBadMember, HasBadMember, IsBadElement, IsBadPiece, HasBadPiece, HasBadBranch}
use Rattle.yr_regex.specs.Meaning.{member_bytes, members_bytes, class_bytes, element_tree, piece_tree, piece_trees, sequence_tree, branch_trees, branches_tree}
use Rattle.yr_regex.specs.Reading.{cut, capped, allows, member_read, members_read, sequence_of, sequence}
use Rattle.yr_regex.proofs.Basics.{bool_cases, either-same}
use Rattle.yr_regex.proofs.BadLemmas.{allows-true, allows-false}
use Rattle.yr_regex.proofs.ClassLemmas.{Member-shorter}
use Rattle.yr_regex.proofs.Complete.{Element-shorter, Piece-shorter, Pieces-shorter}
use Rattle.yr_regex.proofs.Summary.{element_part, piece_part, pieces_list, branches_list, branches_part}

-- ---- the pattern

member-bytes : (m : Member) → (member_read m).bytes ≡ member_bytes m
member-bytes (Single b) = refl
member-bytes (Kind bytes) = refl
member-bytes (Range left from to) = refl

members-bytes : (ms : List Member) → (members_read ms).bytes ≡ members_bytes ms
members-bytes [] = refl
members-bytes (m ∷ ms) = either-same (member-bytes m) (members-bytes ms)

sequence-head : (t : Tree) (ts : List Tree) (u : Tree) (us : Trees) → t ≡ u → trees_of ts ≡ us → sequence_of (t ∷ ts) ≡ Seq (tree.more u us)
sequence-head t ts u us e f = ap (λ (x : Tree). Seq (tree.more x (trees_of ts))) e ∙ ap (λ (x : Trees). Seq (tree.more u x)) f

more-same : (t u : Tree) (ts us : Trees) → t ≡ u → ts ≡ us → tree.more t ts ≡ tree.more u us
more-same t u ts us e f = ap (λ (x : Tree). tree.more x ts) e ∙ ap (λ (x : Trees). tree.more u x) f

module _ (nocase dot_all : Bool) where
  repeat-tree : (t u : Tree) (at least : ℕ) (most : Option ℕ) → t ≡ u → ((n : ℕ) → ¬ ((n ≡ at) × ¬ IsAllowed least most))
      → ◌≡◌ {A = Tree} (Rep t (cut least) (capped cut most)) (Rep u least most)
  repeat-tree t u at least most e good = bool_cases _ (allows (cut least) (capped cut most))
      (λ h. let a = allows-true least most h in
      ap (λ (x : Tree). Rep x (cut least) (capped cut most)) e ∙ ap (λ (m : ℕ). Rep u m (capped cut most)) a.1 ∙ ap (λ (m : Option ℕ). Rep u least m) a.2)
      (λ h. absurd (good at (refl, allows-false least most h)))

  mutual
    element-tree : (e : Element) → ((n : ℕ) → ¬ IsBadElement e n) → (element_part nocase dot_all e).tree ≡ element_tree nocase dot_all e
    element-tree (Byte b) good = refl
    element-tree Any good = refl
    element-tree (Set bytes) good = refl
    element-tree (Class negated ms) good = ap (λ (x : ℕ → Bool). One (class_bytes nocase negated x)) (members-bytes ms)
    element-tree (Group bs) good = branches-tree bs good

    piece-tree : (p : Piece) → ((n : ℕ) → ¬ IsBadPiece p n) → (piece_part nocase dot_all p).tree ≡ piece_tree nocase dot_all p
    piece-tree (Alone e) good = element-tree e good
    piece-tree (Repeated e at least most exact ungreedy) good =
        repeat-tree (element_part nocase dot_all e).tree (element_tree nocase dot_all e) at least most (element-tree e (λ n h. good n (inl h))) (λ n h. good n (inr h))
    piece-tree AtStart good = refl
    piece-tree AtEnd good = refl
    piece-tree AtEdge good = refl
    piece-tree AtNoEdge good = refl

    pieces-tree : (ps : Pieces) → ((n : ℕ) → ¬ HasBadPiece ps n) → trees_of (pieces_list nocase dot_all ps).trees ≡ piece_trees nocase dot_all ps
    pieces-tree none good = refl
    pieces-tree (more p ps) good =
        more-same (piece_part nocase dot_all p).tree (piece_tree nocase dot_all p) (trees_of (pieces_list nocase dot_all ps).trees) (piece_trees nocase dot_all ps)
        (piece-tree p (λ n h. good n (inl h))) (pieces-tree ps (λ n h. good n (inr h)))

    sequence-tree : (ps : Pieces) → ((n : ℕ) → ¬ HasBadPiece ps n) → (sequence (pieces_list nocase dot_all ps)).tree ≡ sequence_tree nocase dot_all ps
    sequence-tree none good = refl
    sequence-tree (more p ps) good =
        sequence-head (piece_part nocase dot_all p).tree (pieces_list nocase dot_all ps).trees (piece_tree nocase dot_all p) (piece_trees nocase dot_all ps)
        (piece-tree p (λ n h. good n (inl h))) (pieces-tree ps (λ n h. good n (inr h)))

    list-tree : (bs : Branches) → ((n : ℕ) → ¬ HasBadBranch bs n) → trees_of (branches_list nocase dot_all bs).trees ≡ branch_trees nocase dot_all bs
    list-tree (only ps) good = ap (λ (x : Tree). tree.more x tree.none) (sequence-tree ps good)
    list-tree (or ps bs) good =
        more-same (sequence (pieces_list nocase dot_all ps)).tree (sequence_tree nocase dot_all ps) (trees_of (branches_list nocase dot_all bs).trees) (branch_trees nocase dot_all bs)
        (sequence-tree ps (λ n h. good n (inl h))) (list-tree bs (λ n h. good n (inr h)))

    pub branches-tree : (bs : Branches) → ((n : ℕ) → ¬ HasBadBranch bs n) → (branches_part nocase dot_all bs).tree ≡ branches_tree nocase dot_all bs
    branches-tree (only ps) good = sequence-tree ps good
    branches-tree (or ps bs) good =
        ap (λ (x : Trees). Alt x)
        (more-same (sequence (pieces_list nocase dot_all ps)).tree (sequence_tree nocase dot_all ps) (trees_of (branches_list nocase dot_all bs).trees) (branch_trees nocase dot_all bs)
        (sequence-tree ps (λ n h. good n (inl h))) (list-tree bs (λ n h. good n (inr h))))

-- ---- a bad place stands in the text

member-place : {first : Bool} {m : Member} {t rest : Text} {left : ℕ} → ReadsMember first t m rest → IsBadMember m left → left ≤ length t
member-place (set e) h = absurd h
member-place (range r s) h = let e = h.0 in omega arith
member-place (single r idle) h = absurd h

members-place : {first : Bool} {ms : List Member} {t rest : Text} {left : ℕ} → ReadsMembers first t ms rest → HasBadMember ms left → left ≤ length t
members-place (last_member r) (inl h) = member-place r h
members-place (last_member r) (inr h) = absurd h
members-place (member_then r rs) (inl h) = member-place r h
members-place (member_then r rs) (inr h) = let a = members-place rs h in let b = Member-shorter r in omega arith

class-place : {negated : Bool} {ms : List Member} {t rest : Text} {left : ℕ} → ReadsClass t negated ms rest → HasBadMember ms left → left ≤ length t
class-place (members e r) h = let a = members-place r h in omega arith
class-place (complement r) h = let a = members-place r h in omega arith

mutual
  element-place : {n : ℕ} {e : Element} {t rest : Text} {left : ℕ} → ReadsElement n t e rest → IsBadElement e left → left ≤ length t
  element-place (byte e f) h = absurd h
  element-place (escape r) h = absurd h
  element-place any h = absurd h
  element-place (grammar.set e) h = absurd h
  element-place (class r) h = class-place r h
  element-place (group r) h = let a = branches-place r h in omega arith

  piece-place : {n : ℕ} {p : Piece} {t rest : Text} {left : ℕ} → ReadsPiece n t p rest → IsBadPiece p left → left ≤ length t
  piece-place (alone r) h = element-place r h
  piece-place (repeated r q) (inl h) = element-place r h
  piece-place (repeated r q) (inr h) = let a = Element-shorter r in let e = h.0 in omega arith
  piece-place (lazy r q) (inl h) = element-place r h
  piece-place (lazy r q) (inr h) = let a = Element-shorter r in let e = h.0 in omega arith
  piece-place start h = absurd h
  piece-place end h = absurd h
  piece-place edge h = absurd h
  piece-place no_edge h = absurd h

  pieces-place : {n : ℕ} {ps : Pieces} {t rest : Text} {left : ℕ} → ReadsPieces n t ps rest → HasBadPiece ps left → left ≤ length t
  pieces-place no_piece h = absurd h
  pieces-place (piece_then r rs) (inl h) = piece-place r h
  pieces-place (piece_then r rs) (inr h) = let a = pieces-place rs h in let b = Piece-shorter r in omega arith

  pub branches-place : {n : ℕ} {bs : Branches} {t rest : Text} {left : ℕ} → ReadsBranches n t bs rest → HasBadBranch bs left → left ≤ length t
  branches-place (last_branch r) h = pieces-place r h
  branches-place (branch_then r rs) (inl h) = pieces-place r h
  branches-place (branch_then r rs) (inr h) = let a = branches-place rs h in let b = Pieces-shorter r in omega arith
